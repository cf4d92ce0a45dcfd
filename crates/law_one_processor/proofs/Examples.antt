-- Examples for the law: a trace of two tasks that fits one processor, and others that don't, though each task by itself could be so.
use Rattle.std.specs.Prelude.{◌≡◌, ℕ, ◌+◌, ◌-◌, ◌≤◌, Bool, true, false, ◌&&◌, nat_le, [], ◌∷◌, List, codes, None, if◌then◌else◌, refl}
use Rattle.std.proofs.Common.{arith}
use Rattle.guarantee.specs.Events.{Event, By, Horizon, Release, End}
use Rattle.trace_tree.specs.declared.event.Event.TheVariants as event
use Rattle.law_one_processor.specs.Demand.{Ended, demand, FitOneProcessor}
use Rattle.law_one_processor.specs.Activations.{activations, told_activations}

abbrev ended : ℕ → ℕ → ℕ → Ended
ended released end used = record { released = released; ended = end; used = used }

-- two tasks are released at 0 and use six ticks each; the second one ends at this time
abbrev trace : ℕ → List Event
trace end =
    By 0 (codes "a") (Release None) ∷ By 0 (codes "b") (Release None) ∷ By 6 (codes "a") (End 6) ∷ By end (codes "b") (End 6)
    ∷ By 20 (codes "a") (Release None) ∷ By 20 (codes "b") (Release None) ∷ Horizon 20 ∷ []

-- the last two activations have not ended
of_trace : activations (trace 12) ≡ ended 0 6 6 ∷ ended 0 12 6 ∷ []
of_trace = refl

-- it fits if the second one ends at 12
fits : FitOneProcessor (activations (trace 12))
fits a b h = by (nat_le a 0) (nat_le 6 b) (nat_le 12 b) refl refl refl
  where
    by : (s t u : Bool) → nat_le a 0 ≡ s → nat_le 6 b ≡ t → nat_le 12 b ≡ u
        → (if s && t then 6 else 0) + ((if s && u then 6 else 0) + 0) ≤ b - a
    by true true true e f g = grind arith
    by true true false e f g = grind arith
    by true false true e f g = grind arith
    by true false false e f g = omega arith
    by false t u e f g = omega arith

-- and doesn't if both end at 6, or the second one at 11
at_once : FitOneProcessor (activations (trace 6)) → ⊥
at_once h = let most : 12 ≤ 6 = h 0 6 (omega arith) in omega arith

a_tick_early : FitOneProcessor (activations (trace 11)) → ⊥
a_tick_early h = let most : 12 ≤ 11 = h 0 11 (omega arith) in omega arith

-- an interval inside another may be the one that breaks it: here from 4 to 6, inside 0 to 20
abbrev inner : List Ended
inner = ended 4 6 2 ∷ ended 4 6 1 ∷ ended 0 20 1 ∷ []

outer_fits : demand 0 20 inner ≤ 20
outer_fits = omega arith

inner_does_not : FitOneProcessor inner → ⊥
inner_does_not h = let most : 3 ≤ 2 = h 4 6 (omega arith) in omega arith

-- what is released before an interval, or ends after it, doesn't count in it
only_inside : demand 4 6 (ended 3 6 2 ∷ ended 4 7 2 ∷ ended 4 6 1 ∷ []) ≡ 1
only_inside = refl

-- of the events of a run the same, by places
of_run : told_activations (event.Release 0 3 None ∷ event.Release 0 5 None ∷ event.End 6 3 6 ∷ event.End 12 5 6 ∷ event.Horizon 20 ∷ [])
    ≡ ended 0 6 6 ∷ ended 0 12 6 ∷ []
of_run = refl
