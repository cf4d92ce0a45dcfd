-- A step of filling an order: the last of its first threads that can be last of them.
-- The first threads stand by falling deadline-monotonic priority, so the last that can be is the lowest (Audsley 1991).
use Rattle.std.specs.Prelude.{◌≡◌, ℕ, ◌<◌, ◌≤◌, List, take, filter, slice_get, Some}
use Rattle.std.specs.List.{insert, remove}
use Rattle.ods_tree.specs.Flats.{Flat}
use Rattle.analysis.specs.Priorities.{priorities_of}
use Rattle.law_orders.specs.Orders.{places_of, has_place, CanBeLast}

-- the last of the first threads of an order that can be last of them
pub record IsNext (f : Flat) (order : List ℕ) (free at : ℕ) : Type 0 where
  pub inside : at < free
  pub place : ℕ
  pub stands : slice_get order at ≡ Some place
  pub last : CanBeLast f (take free order) place
  pub none : (j k : ℕ) → at < j → j < free → slice_get order j ≡ Some k → CanBeLast f (take free order) k → ⊥

-- first threads of an order that stand by falling deadline-monotonic priority
abbrev pub AreByDeadline : Flat → ℕ → List ℕ → Type 0
AreByDeadline f free order =
    (i j a b p q : ℕ) → i ≤ j → j < free → slice_get order i ≡ Some a → slice_get order j ≡ Some b → slice_get (priorities_of f) a ≡ Some p
    → slice_get (priorities_of f) b ≡ Some q → q ≤ p

-- the places of threads that are among some, in the order of the flat design
abbrev pub listed : Flat → List ℕ → List ℕ
listed f these = filter (has_place these) (places_of f)

-- a list in which the item at a place has gone to a later one
abbrev pub IsMoved : ℕ → ℕ → List ℕ → List ℕ → Type 0
IsMoved from to before after = (x : ℕ) × (slice_get before from ≡ Some x) × (after ≡ insert (remove before from) to x)
