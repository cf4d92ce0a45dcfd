use Rattle.std.proofs.Common.{◌≡◌, ◌++◌, drop, map}
use Rattle.ada_tree.specs.Trees.{program_of, unit_of}
use Rattle.law_trace_places.specs.Places.{task_in}
use Rattle.trace_scripts.specs.Threads.{progress_of}
use Rattle.trace_scripts.specs.Moving.{idle_at_first}
use Rattle.trace_scripts.proofs.moves.Threads.first.Given as goal

-- the units so far are there
abbrev pub invariant-units : goal.invariant-units
invariant-units l = map (progress_of (program_of l.program) l._events) l.states.items ++ map (λ u. idle_at_first (task_in u)) (map unit_of (drop l.unit-index l.unit-items))
    ≡ map (λ u. idle_at_first (task_in u)) (map unit_of l.unit-items)
