-- Examples of what a task keeps: for each definition one case that holds, and one that breaks it alone.
use Rattle.std.specs.Prelude.{◌≡◌, ℕ, true, false, List, [], ◌∷◌, Some, None, refl}
use Rattle.std.proofs.Common.{arith}
use Rattle.seq_tree.specs.declared.tree.Costs.{Costs}
use Rattle.machine.specs.Pieces.{Working, Finishing}
use Rattle.machine.specs.States as states
use Rattle.task_runtime.specs.Effort.{IsLong, first_ticks}
use Rattle.seq_tree.specs.Variables.{Variables}
use Rattle.task_runtime.specs.Doing.{KeepsData}
use Rattle.task_runtime.specs.Readies.{readiness_of, rests_as}
use Rattle.task_runtime.specs.Works.{asked}
use Rattle.task_runtime.specs.declared.effects.Act.TheVariants.{Finish}
use Rattle.task_runtime.specs.declared.readiness.Readiness.TheVariants as readies
use Rattle.task_runtime.specs.declared.thread.Timing.TheVariants as timing

abbrev unit_costs : Costs
unit_costs = record { assign = 1; test = 1; turn = 1; call = 1; nothing = 1; put = 1; finish = 1 }

-- a `work` takes the smaller of its number and its duration; no other piece looks at the duration
lesser-duration : first_ticks unit_costs (Some 3) (Working 5 ∷ []) ≡ 3
lesser-duration = refl

lesser-number : first_ticks unit_costs (Some 9) (Working 5 ∷ []) ≡ 5
lesser-number = refl

no-duration : first_ticks unit_costs None (Working 5 ∷ []) ≡ 5
no-duration = refl

other-piece : first_ticks unit_costs (Some 3) (Finishing ∷ []) ≡ 1
other-piece = refl

-- a duration is of some ticks
long : IsLong (Some 1)
long = omega arith

not-long : IsLong (Some 0) → ⊥
not-long h = omega (arith, h)

-- a task that sleeps does so until its next time; one that waits has none
sleeps : readiness_of readies.Asleep 50 ≡ states.Asleep 50
sleeps = refl

waits : readiness_of readies.Waiting 50 ≡ states.Waiting
waits = refl

-- a task that is released by requests waits, and doesn't sleep; one with times of its own sleeps
rests : rests_as readies.Asleep (timing.Periodic 0 5) ≡ true
rests = refl

rests-not : rests_as readies.Waiting (timing.Periodic 0 5) ≡ false
rests-not = refl

-- a second arrival replaces the value that is kept
replaced : (t : states.Task) → asked (Some 2) (asked (Some 1) t) ≡ asked (Some 2) t
replaced t = refl

-- the end of an activation: the data are kept, and the parameter goes
keeps : KeepsData Finish (record { name = 120 ∷ []; value = 7 } ∷ []) ((112 ∷ [], 4) ∷ (120 ∷ [], 9) ∷ []) ((120 ∷ [], 9) ∷ [])
keeps = refl

keeps-not : KeepsData Finish (record { name = 120 ∷ []; value = 7 } ∷ []) ((112 ∷ [], 4) ∷ (120 ∷ [], 9) ∷ []) [] → ⊥
keeps-not h = none h
  where
    none : {v : List ℕ × ℕ} {vs : Variables} → ◌≡◌ {A = Variables} [] (v ∷ vs) → ⊥
    none k = cc
