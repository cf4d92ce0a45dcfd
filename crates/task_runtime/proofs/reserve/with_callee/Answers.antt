use Rattle.std.proofs.Common.{subst, sym}
use Rattle.task_runtime.specs.Reserving.{CalleeFits}
use Rattle.task_runtime.proofs.Tables.{op_within}
use Rattle.task_runtime.proofs.reserve.with_callee.Goals as goal

pub returns-in_ok-callee-in-Call-clause-callee : goal.returns-in_ok-callee-in-Call-clause-callee
returns-in_ok-callee-in-Call-clause-callee c = λ code known.
    subst (CalleeFits code c.greater.result) (sym c.in-Call.is)
    (op_within code c.in_ok-callee-in-Call.callee c.greater.result c.in-Call.op c.greater.ensures.second
    (c.in_ok-callee-in-Call.ensures code known))
