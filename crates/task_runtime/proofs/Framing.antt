-- Calls that are added and taken off at the end of a list whose places each hold one.
use Rattle.std.proofs.Common.{◌≡◌, List, [], ◌∷◌, ◌++◌, Option, Some, None, length, refl, ap, arith}
use Rattle.task_runtime.specs.Framed.{AreThere, there}
use Rattle.task_runtime.specs.declared.piece.Frame.{Frame}

pub there_count : (os : List (Option Frame)) → AreThere os → length (there os) ≡ length os
there_count [] h = refl
there_count (None ∷ os) h = absurd h
there_count (Some f ∷ os) h = let e = there_count os h in omega (arith, e)

-- one more
pub there_more : (os : List (Option Frame)) (f : Frame) → there (os ++ Some f ∷ []) ≡ there os ++ f ∷ []
there_more [] f = refl
there_more (None ∷ os) f = there_more os f
there_more (Some g ∷ os) f = ap (λ fs. g ∷ fs) (there_more os f)

pub are_more : (os : List (Option Frame)) (f : Frame) → AreThere os → AreThere (os ++ Some f ∷ [])
are_more [] f h = tt
are_more (None ∷ os) f h = absurd h
are_more (Some g ∷ os) f h = are_more os f h

-- one less
pub record Last (os : List (Option Frame)) (o : Option Frame) : Type 0 where
  pub frame : Frame
  pub is : o ≡ Some frame
  pub are : AreThere os
  pub items : there (os ++ o ∷ []) ≡ there os ++ frame ∷ []

pub last_there : (os : List (Option Frame)) (o : Option Frame) → AreThere (os ++ o ∷ []) → Last os o
last_there [] None h = absurd h
last_there [] (Some f) h = record { frame = f; is = refl; are = tt; items = refl }
last_there (None ∷ os) o h = absurd h
last_there (Some g ∷ os) o h =
    let k = last_there os o h in record { frame = k.frame; is = k.is; are = k.are; items = ap (λ fs. g ∷ fs) k.items }
