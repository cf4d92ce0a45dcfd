use Rattle.std.proofs.Common.{◌≡◌, ℕ, ◌≤◌, ◌-◌, Bool, drop, length, not}
use Rattle.std.specs.Prelude.{find, filter_map, slice_get}
use Rattle.guarantee.specs.Software.{Task}
use Rattle.law_trace_places.specs.Places.{task_in}
use Rattle.trace_scripts.specs.Moving.{AreFollowing, threads_of}
use Rattle.trace_scripts.specs.Scenes.{program_in, software_of}
use Rattle.trace_scripts.specs.Serving.{MayAll}
use Rattle.trace_scripts.proofs.verdict.first_astray.Given as goal

-- the steps of each thread so far are activations
abbrev pub invariant-units : goal.invariant-units
invariant-units l = record {
  within : l.at ≤ length (program_in l.scene).units;
  sized : length l.threads.states.items ≡ length (program_in l.scene).units;
  others : (u : ℕ) → l.at ≤ u → slice_get (threads_of (program_in l.scene) l.events l.threads) u ≡ slice_get (threads_of (program_in l.scene) l.events l.fn.threads) u;
  found : (depth : ℕ) → MayAll (program_in l.scene) depth → (following : Task → Bool)
      → AreFollowing (program_in l.scene) depth (threads_of (program_in l.scene) l.events l.fn.threads) following
      → find (λ t. not (following t)) (filter_map task_in (drop l.at (program_in l.scene).units))
      ≡ find (λ t. not (following t)) (software_of l.scene).tasks;
}

abbrev pub decreases-units : goal.decreases-units
decreases-units l = length (program_in l.scene).units - l.at
