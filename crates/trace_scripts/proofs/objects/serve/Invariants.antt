use Rattle.std.proofs.Common.{◌≡◌, ℕ, drop, length}
use Rattle.trace_scripts.specs.Insides.{entries_from}
use Rattle.trace_scripts.specs.Objects.{services_of}
use Rattle.trace_scripts.specs.Scenes.{program_in}
use Rattle.trace_scripts.specs.Serving.{MayAll, objects_from, services_first}
use Rattle.trace_scripts.proofs.objects.serve.Given as goal

-- the events so far are told
abbrev pub invariant-events : goal.invariant-events
invariant-events l = record {
  here : l.here ≡ l.at;
  sized : length l.objects.states.items ≡ length (program_in l.scene).units;
  states : (depth : ℕ) → MayAll (program_in l.scene) depth
      → objects_from (program_in l.scene) depth (drop l.at l.events) (entries_from (program_in l.scene) (drop l.at l.events)) (services_of l.objects)
      ≡ objects_from (program_in l.scene) depth l.events (entries_from (program_in l.scene) l.events) (services_first (program_in l.scene));
}

abbrev pub decreases-events : goal.decreases-events
decreases-events l = length (drop l.at l.events)
