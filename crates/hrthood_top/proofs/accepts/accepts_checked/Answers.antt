use Rattle.std.proofs.Common.{ℕ, Vec, Global}
use Rattle.ods_rules.specs.Checks.{checked_design}
use Rattle.ada_tree.specs.Trees.{program_of}
use Rattle.arrivals_tree.specs.Arriving.{arrivals_of}
use Rattle.guarantee.specs.Programs.{program}
use Rattle.hrthood_top.specs.Acceptances.{IsYes}
use Rattle.hrthood_top.proofs.Judged.{few, judged-yes, judged-halted}
use Rattle.hrthood_top.proofs.accepts.accepts_checked.Goals as goal

pub read_arrivals-requires : goal.read_arrivals-requires
read_arrivals-requires c = record {
  few = few (program (checked_design c.args.checked.now)) (program_of c.in-Ok.program) c.in-Ok.ensures c.requires.meets;
}

pub returns-in-Err-judge : goal.returns-in-Err-judge
returns-in-Err-judge c =
    rw c.trace_halt.ensures
    (judged-halted (checked_design c.args.checked.now) c.args.arrivals.now c.args.trace.now (program_of c.in-Ok.program)
    (arrivals_of c.in-Ok-read_arrivals.under) c.in-Ok.ensures c.in-Ok-read_arrivals.ensures.says (λ (v : Vec ℕ Global). v.items)
    (IsYes (checked_design c.args.checked.now) c.args.arrivals.now c.args.trace.now) c.in-Err-judge.why c.in-Err-judge.ensures.verdict)

pub returns-in-Ok-yes_line : goal.returns-in-Ok-yes_line
returns-in-Ok-yes_line c =
    judged-yes (checked_design c.args.checked.now) c.args.arrivals.now c.args.trace.now (program_of c.in-Ok.program)
    (arrivals_of c.in-Ok-read_arrivals.under) c.in-Ok.ensures c.in-Ok-read_arrivals.ensures.says c.in-Ok-judge.lines _
    c.in-Ok-judge.ensures.verdict c.in-Ok-yes_line.ensures
