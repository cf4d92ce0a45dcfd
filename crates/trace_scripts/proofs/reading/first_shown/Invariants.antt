use Rattle.std.proofs.Common.{◌≡◌, length}
use Rattle.ada_tree.specs.Trees.{program_of}
use Rattle.trace_scripts.specs.Scripts.{actions_at}
use Rattle.trace_scripts.proofs.reading.first_shown.Given as goal

-- no event so far shows an action
abbrev pub invariant-lines : goal.invariant-lines
invariant-lines l = actions_at (program_of l.program) l.events l.left ≡ actions_at (program_of l.program) l.events l.lines

abbrev pub decreases-lines : goal.decreases-lines
decreases-lines l = length l.left
