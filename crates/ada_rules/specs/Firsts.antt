-- The first unit of which something holds, in the order of units.
-- What holds may depend on the place.
use Rattle.std.specs.Prelude.{◌≡◌, ℕ, ◌<◌, List, Option, Some, None, slice_get}
use Rattle.ada_tree.specs.Programs.{Unit}

-- it holds of no unit before this place
abbrev pub NoneBefore : (ℕ → Unit → Type 0) → List Unit → ℕ → Type 0
NoneBefore P us place = (earlier : ℕ) → earlier < place → (u : Unit) → slice_get us earlier ≡ Some u → P earlier u → ⊥

-- it holds of the unit at this place, and of none before; or of none at all
abbrev pub IsFirst : (ℕ → Unit → Type 0) → List Unit → Option ℕ → Type 0
IsFirst P us None = (place : ℕ) (u : Unit) → slice_get us place ≡ Some u → P place u → ⊥
IsFirst P us (Some place) = (u : Unit) × (slice_get us place ≡ Some u) × P place u × NoneBefore P us place
