use Rattle.std.proofs.Common.{Some, refl, sym, subst}
use Rattle.linker.specs.Standing.{lists_of}
use Rattle.task_runtime.specs.Handing.{IsHanded}
use Rattle.task_runtime.proofs.Moves.{ask_read}
use Rattle.task_runtime.proofs.progress.Progress.request_value.Goals as goal

pub value-requires-clause-reads : goal.value-requires-clause-reads
value-requires-clause-reads c =
    ask_read c.args.code.now c.args.self.now c.requires.at_work c.requires.piece.0 c.args.value c.requires.piece.1 c.in-Some.operand c.in-Some.is

pub returns-in-Some : goal.returns-in-Some
returns-in-Some c =
    subst (λ v. IsHanded (lists_of c.args.code.now.code) c.args.self.now.stack.slots.here v (Some c.value.result)) (sym c.in-Some.is)
    (c.value.result, refl, c.value.ensures)
