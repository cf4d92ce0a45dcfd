use Rattle.std.proofs.Common.{rules}
use Rattle.ada_tree.specs.Trees.{program_of}
use Rattle.trace_scripts.proofs.AlongSteps.{line-here, line-last, line-past}
use Rattle.trace_scripts.proofs.reading.first_shown.Goals as goal

pub returns-in-Some-shown_at-clause-left : goal.returns-in-Some-shown_at-clause-left
returns-in-Some-shown_at-clause-left c =
    line-here (program_of c.args.program.now) c.args.events.now c.in-Some.line.now c.in-Some.rest.now c.lines.left.now _
    c.in-Some-shown_at.event (search rules) c.in-Some-shown_at.ensures.shown c.lines.invariant

pub lines-preserved : goal.lines-preserved
lines-preserved c =
    line-past (program_of c.args.program.now) c.args.events.now c.in-Some.line.now c.in-Some.rest.now c.lines.left.now _ (search rules)
    (search rules) c.lines.invariant

pub returns-clause-left : goal.returns-clause-left
returns-clause-left c = line-last (program_of c.args.program.now) c.args.events.now c.lines.left.now _ (search rules) c.lines.invariant
