-- Which passages of an object exclude each other, and which don't.
use Rattle.std.specs.Prelude.{◌≡◌, ℕ, [], ◌∷◌}
use Rattle.std.proofs.Common.{refl}
use Rattle.trace_tree.specs.declared.event.Event.TheVariants.{Enter, Leave, End}
use Rattle.trace_tree.specs.Exclusion.{Into, Out, passages, TakesTurns}

-- one after another, and the last inside
in_turn : TakesTurns (Into 1 ∷ Out 1 ∷ Into 2 ∷ Out 2 ∷ Into 1 ∷ [])
in_turn = (refl, (refl, tt))

two_inside : TakesTurns (Into 1 ∷ Into 2 ∷ []) → ⊥
two_inside h = h

twice_inside : TakesTurns (Into 1 ∷ Into 1 ∷ Out 1 ∷ Out 1 ∷ []) → ⊥
twice_inside h = h

left_by_another : TakesTurns (Into 1 ∷ Out 2 ∷ []) → ⊥
left_by_another h = (let e : ◌≡◌ {A = ℕ} 1 2 = h.0 in cc)

left_by_nobody : TakesTurns (Out 1 ∷ []) → ⊥
left_by_nobody h = h

-- the passages of an object are its enters and leaves
of_the_object : passages 5 (Enter 1 0 5 0 [] ∷ Enter 2 1 6 0 [] ∷ Leave 3 0 5 0 [] ∷ End 4 0 3 ∷ Leave 4 1 6 0 [] ∷ []) ≡ Into 0 ∷ Out 0 ∷ []
of_the_object = refl
