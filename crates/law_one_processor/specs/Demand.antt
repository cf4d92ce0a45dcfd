-- The demand of an interval: the ticks used by the activations that are released and end in it. One processor serves no more than its length.
-- Processor demand is that of Baruah, Rosier and Howell (1990), here of ends in place of deadlines.
use Rattle.std.specs.Prelude.{ℕ, ◌+◌, ◌-◌, ◌≤◌, Bool, ◌&&◌, nat_le, List, [], ◌∷◌, if◌then◌else◌}

-- an activation that has ended, by its times and the ticks that it used
pub record Ended : Type 0 where
  pub released : ℕ
  pub ended : ℕ
  pub used : ℕ

-- whether an activation is released and ends in the interval from a to b
abbrev pub is_within : ℕ → ℕ → Ended → Bool
is_within a b w = nat_le a w.released && nat_le w.ended b

-- the demand of the interval from a to b
abbrev pub demand : ℕ → ℕ → List Ended → ℕ
demand a b [] = 0
demand a b (w ∷ ws) = (if is_within a b w then w.used else 0) + demand a b ws

-- no interval has a demand above its length
abbrev pub FitOneProcessor : List Ended → Type 0
FitOneProcessor ws = (a b : ℕ) → a ≤ b → demand a b ws ≤ b - a
