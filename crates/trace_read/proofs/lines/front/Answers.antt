use Rattle.std.proofs.Common.{sym, ◌∙◌}
use Rattle.ada_tree.specs.Trees.{program_of}
use Rattle.law_traces.specs.Cuts.{cut}
use Rattle.trace_read.proofs.Fitting.{event-fits}
use Rattle.trace_read.proofs.Fronts.{untold, unwritten}
use Rattle.trace_read.proofs.lines.front.Goals as goal

pub behind-requires : goal.behind-requires
behind-requires c = (event-fits (program_of c.args.table.now.program.now) (cut 32 c.split.result.0.now) c.in-Some.event (sym c.read.ensures ∙ c.in-Some.is)).0

pub returns-in-None : goal.returns-in-None
returns-in-None c = λ meets plain e more h same.
    untold (program_of c.args.table.now.program.now) plain meets c.args.left.now c.split.result.0.now _ c.split.ensures
    (sym c.read.ensures ∙ c.in-None.is) e more h same

pub returns-in-None-behind : goal.returns-in-None-behind
returns-in-None-behind c = λ meets plain e more h same.
    unwritten (program_of c.args.table.now.program.now) plain meets c.args.left.now c.split.result.0.now _ c.split.ensures c.in-Some.event
    (sym c.read.ensures ∙ c.in-Some.is) (λ others. c.in-None-behind.ensures others) e more h same

pub returns-in-Some-behind : goal.returns-in-Some-behind
returns-in-Some-behind c = λ meets plain. (
  event-fits (program_of c.args.table.now.program.now) (cut 32 c.split.result.0.now) c.in-Some.event (sym c.read.ensures ∙ c.in-Some.is),
  c.in-Some-behind.ensures,
)
