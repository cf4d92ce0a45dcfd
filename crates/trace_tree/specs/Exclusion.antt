-- Mutual exclusion: no protected object is ever inside two operations.
-- A protected action of ISO/IEC 8652:2012, 9.5.1, begins with an enter and ends with a leave.
use Rattle.std.specs.Prelude.{◌≡◌, ℕ, List, [], ◌∷◌, ◌==◌, ⊤, if◌then◌else◌}
use Rattle.trace_tree.specs.declared.event.Event.{Event}
use Rattle.trace_tree.specs.declared.event.Event.TheVariants.{Enter, Leave}

-- a passage of a task into an object or out of it
pub data Passage : Type 0 where
  Into : (task : ℕ) → Passage
  Out : (task : ℕ) → Passage

-- the passages of one object, in order
abbrev pub passages : ℕ → List Event → List Passage
passages object [] = []
passages object (Enter time task unit op values ∷ told) = if unit == object then Into task ∷ passages object told else passages object told
passages object (Leave time task unit op values ∷ told) = if unit == object then Out task ∷ passages object told else passages object told
passages object (_ ∷ told) = passages object told

-- an enter and a leave of the same task, again and again; the last leave may be missing
abbrev pub TakesTurns : List Passage → Type 0
TakesTurns [] = ⊤
TakesTurns (Into task ∷ []) = ⊤
TakesTurns (Into task ∷ Out other ∷ passages') = (task ≡ other) × TakesTurns passages'
TakesTurns (Into task ∷ Into other ∷ passages') = ⊥
TakesTurns (Out task ∷ passages') = ⊥

-- no object is inside two operations
abbrev pub Exclusive : List Event → Type 0
Exclusive told = (object : ℕ) → TakesTurns (passages object told)
