use Rattle.std.proofs.Common.{◌≡◌, ℕ, drop, length}
use Rattle.trace_scripts.specs.Insides.{entries_from}
use Rattle.trace_scripts.specs.Objects.{services_of}
use Rattle.trace_scripts.specs.Scenes.{program_in}
use Rattle.trace_scripts.specs.Serving.{MayAll, charges_by, services_first}
use Rattle.trace_scripts.specs.Moving.{threads_first, threads_from, threads_of}
use Rattle.trace_scripts.proofs.moves.move_all.Given as goal

-- the events so far are taken
abbrev pub invariant-events : goal.invariant-events
invariant-events l = record {
  here : l.here ≡ l.at;
  sized : length l.threads.states.items ≡ length (program_in l.scene).units;
  served : length l.served.states.items ≡ length (program_in l.scene).units;
  states : (depth : ℕ) → MayAll (program_in l.scene) depth
      → threads_from (program_in l.scene) depth (services_of l.objects) (drop l.at l.events)
      (charges_by (program_in l.scene) depth l.most (drop l.at l.events) (entries_from (program_in l.scene) (drop l.at l.events)) (services_of l.served))
      (threads_of (program_in l.scene) l.events l.threads)
      ≡ threads_from (program_in l.scene) depth (services_of l.objects) l.events
      (charges_by (program_in l.scene) depth l.most l.events (entries_from (program_in l.scene) l.events) (services_first (program_in l.scene)))
      (threads_first (program_in l.scene));
}

abbrev pub decreases-events : goal.decreases-events
decreases-events l = length (drop l.at l.events)
