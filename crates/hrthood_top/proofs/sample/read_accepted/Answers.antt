use Rattle.ada_tree.specs.Trees.{program_of}
use Rattle.arrivals_read.specs.declared.fault.ArrivalFault.TheVariants as fault
use Rattle.hrthood_top.proofs.Summed.{arrivals-unrefused}
use Rattle.hrthood_top.proofs.Verified.{said-arrivals}
use Rattle.hrthood_top.proofs.sample.read_accepted.Goals as goal

pub returns-in-Ok : goal.returns-in-Ok
returns-in-Ok c = said-arrivals c.args.arrivals.now (program_of c.args.program.now) _ c.in-Ok.ensures.says c.in-Ok.ensures.only

pub unreachable-requires : goal.unreachable-requires
unreachable-requires c =
    arrivals-unrefused c.args.arrivals.now (program_of c.args.program.now) (fault.Text c.in-Err-Text.field-0-0) c.requires.says
    (rw c.in-Err-Text.field-0-is at c.in-Err-Text.ensures.says)

pub unreachable-requires-in-Err-Q1 : goal.unreachable-requires-in-Err-Q1
unreachable-requires-in-Err-Q1 c =
    arrivals-unrefused c.args.arrivals.now (program_of c.args.program.now) (fault.Q1 c.in-Err-Q1.field-0-0) c.requires.says
    (rw c.in-Err-Q1.field-0-is at c.in-Err-Q1.ensures.says)

pub unreachable-requires-in-Err-Q2 : goal.unreachable-requires-in-Err-Q2
unreachable-requires-in-Err-Q2 c =
    arrivals-unrefused c.args.arrivals.now (program_of c.args.program.now) (fault.Q2 c.in-Err-Q2.field-0-0 c.in-Err-Q2.field-0-1) c.requires.says
    (rw c.in-Err-Q2.field-0-is at c.in-Err-Q2.ensures.says)

pub unreachable-requires-in-Err-Q3 : goal.unreachable-requires-in-Err-Q3
unreachable-requires-in-Err-Q3 c =
    arrivals-unrefused c.args.arrivals.now (program_of c.args.program.now) (fault.Q3 c.in-Err-Q3.field-0-0 c.in-Err-Q3.field-0-1) c.requires.says
    (rw c.in-Err-Q3.field-0-is at c.in-Err-Q3.ensures.says)

pub unreachable-requires-in-Err-Q5 : goal.unreachable-requires-in-Err-Q5
unreachable-requires-in-Err-Q5 c =
    arrivals-unrefused c.args.arrivals.now (program_of c.args.program.now) (fault.Q5 c.in-Err-Q5.field-0-0) c.requires.says
    (rw c.in-Err-Q5.field-0-is at c.in-Err-Q5.ensures.says)
