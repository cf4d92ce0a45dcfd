use Rattle.std.proofs.Common.{◌++◌}
use Rattle.std.proofs.lemmas.Result.{err_from_is_err_and}
use Rattle.ada_tree.specs.Trees.{program_of}
use Rattle.hrthood_top.specs.Verifies.{trace_mark}
use Rattle.hrthood_top.proofs.Tracing.{goes_on}
use Rattle.hrthood_top.proofs.Verified.{behind-run, front-cut}
use Rattle.hrthood_top.proofs.verify.put_verified.Goals as goal

pub returns-in_err-put_each-clause-puts : goal.returns-in_err-put_each-clause-puts
returns-in_err-put_each-clause-puts g c =
    let p = err_from_is_err_and c.from_residual.result c.from_residual.ensures.1 in
    let rest = goes_on (program_of c.args.program.now) c.requires.runs.0 c.args.machine c.requires.meets c.requires.runs.1
    (λ going. c.requires.whole) in
    rw p.1 (front-cut (c.args.text.now ++ trace_mark) (program_of c.args.program.now) _ _ _ p.0
    (rw c.as_slice.ensures at c.in_err-put_each.ensures.puts) rest)

pub returns-clause-puts : goal.returns-clause-puts
returns-clause-puts g c = behind-run (c.args.text.now ++ trace_mark) (program_of c.args.program.now) _ _ _ _ _
    (rw c.as_slice.ensures at c.in_ok-put_each.ensures.puts) c.put_trace.ensures.puts
