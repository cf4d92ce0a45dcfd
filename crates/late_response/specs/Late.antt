-- The least solution of the response equations without limits, row by row, as far as ten times each row's limits.
-- The rounds are those of Audsley et al. 1993. To stop at ten times the limits is this project's own choice.
use Rattle.std.specs.Prelude.{◌≡◌, ℕ, ◌+◌, ◌*◌, ◌≤◌, ◌<◌, ◌⊎◌, List, length, Option, Some, None, slice_get}
use Rattle.rt_response.specs.declared.rows.ThreadRow.{ThreadRow}
use Rattle.rt_response.specs.declared.rows.Bound.{Bound}
use Rattle.rt_response.specs.Rounds.{round}
use Rattle.late_response.specs.declared.reach.Reach.{Reach}
use Rattle.late_response.specs.declared.reach.Reach.TheVariants.{Solved, Beyond, Behind}

-- a bound within ten times the limits of its row
abbrev pub IsNear : ThreadRow → Bound → Type 0
IsNear row b = (b.response ≤ 10 * row.deadline) × (b.jitter + b.response ≤ 10 * row.period)

-- a bound over ten times one of them
abbrev pub IsFar : ThreadRow → Bound → Type 0
IsFar row b = (10 * row.deadline < b.response) ⊎ (10 * row.period < b.jitter + b.response)

-- a fact of a row and its bound, where both are there
abbrev pub OfBoth : (ThreadRow → Bound → Type 0) → Option ThreadRow → Option Bound → Type 0
OfBoth P None b = ⊥
OfBoth P (Some row) None = ⊥
OfBoth P (Some row) (Some b) = P row b

-- in this round the row at this place is within ten times its limits
abbrev pub IsWithin : List ThreadRow → ℕ → ℕ → Type 0
IsWithin rows k i = OfBoth IsNear (slice_get rows i) (slice_get (round rows k) i)

-- in this round it is over ten times one of them
abbrev pub IsOver : List ThreadRow → ℕ → ℕ → Type 0
IsOver rows k i = OfBoth IsFar (slice_get rows i) (slice_get (round rows k) i)

-- the equation of a row needs the bound of this starter: it starts the row, or one of greater priority, whose jitter counts
pub record Needs (rows : List ThreadRow) (i starter : ℕ) : Type 0 where
  pub place : ℕ
  pub row : ThreadRow
  pub up : place ≤ i
  pub is : slice_get rows place ≡ Some row
  pub started : row.starter ≡ Some starter

-- the bound of a row depends on that of this one: it is the row itself, or what the row needs depends on it
pub data DependsOn (rows : List ThreadRow) : ℕ → ℕ → Type 0 where
  itself : {i : ℕ} → DependsOn rows i i
  through : {i starter j : ℕ} → Needs rows i starter → DependsOn rows starter j → DependsOn rows i j

-- in this round all that a row depends on is within ten times its limits
abbrev pub IsFollowed : List ThreadRow → ℕ → ℕ → Type 0
IsFollowed rows k i = (j : ℕ) → DependsOn rows i j → IsWithin rows k j

-- a row whose rounds come to rest at a bound, with all that it depends on within ten times its limits in every round
pub record IsSolved (rows : List ThreadRow) (i : ℕ) (b : Bound) : Type 0 where
  pub from : ℕ
  pub rests : (k : ℕ) → from ≤ k → slice_get (round rows k) i ≡ Some b
  pub followed : (k : ℕ) → IsFollowed rows k i

-- a row that is given up in a round, with the bound of that round: it is the first in which it, or a row that it depends on, is over
-- ten times its limits
pub record IsBeyond (rows : List ThreadRow) (i k : ℕ) (b : Bound) : Type 0 where
  pub told : slice_get (round rows k) i ≡ Some b
  pub over : IsOver rows k i
  pub followed : (m : ℕ) → m < k → IsFollowed rows m i

-- a row whose bound is not known, since it needs that of a starter: in the first round in which a row that it depends on is over ten times
-- its limits, it is one on which the starter depends, and the row itself is within; of such starters it is that of the first row that has one
pub record IsBehind (rows : List ThreadRow) (i starter : ℕ) : Type 0 where
  pub round : ℕ
  pub needs : Needs rows i starter
  pub lost : (j : ℕ) × DependsOn rows starter j × IsOver rows round j
  pub first : (k s : ℕ) → k < needs.place → Needs rows k s → IsFollowed rows round s
  pub within : IsWithin rows round i
  pub followed : (m : ℕ) → m < round → IsFollowed rows m i

-- what is told of a row is so
abbrev pub IsTold : List ThreadRow → ℕ → Reach → Type 0
IsTold rows i (Solved jitter response) = IsSolved rows i (record { jitter = jitter; response = response })
IsTold rows i (Beyond round jitter response) = IsBeyond rows i round (record { jitter = jitter; response = response })
IsTold rows i (Behind starter) = IsBehind rows i starter

-- each row of a table is told of
pub record AreTold (rows : List ThreadRow) (found : List Reach) : Type 0 where
  pub long : length found ≡ length rows
  pub each : (i : ℕ) (r : Reach) → slice_get found i ≡ Some r → IsTold rows i r
