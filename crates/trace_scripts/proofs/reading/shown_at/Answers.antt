use Rattle.std.proofs.Common.{rules}
use Rattle.ada_tree.specs.Trees.{program_of}
use Rattle.trace_scripts.proofs.AlongSteps.{hidden-at, nothing-at}
use Rattle.trace_scripts.proofs.Holding.{at-index}
use Rattle.trace_scripts.proofs.reading.shown_at.Goals as goal

pub returns-in-None-clause-shown : goal.returns-in-None-clause-shown
returns-in-None-clause-shown c = nothing-at (program_of c.args._program.now) c.args.events.now c.args.line c.in-None.ensures

pub returns-then-shows-clause-shown : goal.returns-then-shows-clause-shown
returns-then-shows-clause-shown c =
    at-index (program_of c.args._program.now) c.args.events.now c.args.line c.in-Some.event c.in-Some.ensures

pub returns-else-shows-clause-shown : goal.returns-else-shows-clause-shown
returns-else-shows-clause-shown c =
    hidden-at (program_of c.args._program.now) c.args.events.now c.args.line c.in-Some.event c.in-Some.ensures c.shows.result
    (c.shows.ensures (program_of c.args._program.now)) (search rules)
