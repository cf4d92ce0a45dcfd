use Rattle.std.proofs.Common.{◌≡◌, drop, length, max}
use Rattle.ada_tree.specs.Trees.{program_of}
use Rattle.guarantee.specs.Events.{named}
use Rattle.law_traces.specs.Checks.{most_used}
use Rattle.trace_scripts.proofs.verdict.most_used.Given as goal

-- the greatest so far
abbrev pub invariant-events : goal.invariant-events
invariant-events l = max l.most (most_used (named (program_of l.program) (drop l.at l.events))) ≡ most_used (named (program_of l.program) l.events)

abbrev pub decreases-events : goal.decreases-events
decreases-events l = length (drop l.at l.events)
