-- What one row's step of a round rests on: entries whose products and sums are small, and the excesses from a row on.
-- Only the crate's own functions speak of them; the promise of `respond` does not.
use Rattle.std.specs.Prelude.{◌≡◌, ℕ, ◌+◌, ◌≤◌, List, drop, Option, Some, slice_get}
use Rattle.rt_response.specs.declared.rows.ThreadRow.{ThreadRow}
use Rattle.rt_response.specs.declared.rows.Bound.{Bound}
use Rattle.rt_response.specs.declared.excess.Excess.{Excess}
use Rattle.rt_response.specs.Response.{right_sides}
use Rattle.rt_response.specs.Rounds.{first_excess}

-- a row with a bound within its limits
pub record IsEntry (row : ThreadRow) (b : Bound) : Type 0 where
  pub period : 1 ≤ row.period
  pub cost : row.cost ≤ 1000000000
  pub reach : b.jitter + b.response ≤ 1000000000

-- the first excess of the right sides at a vector, from this row on
abbrev pub excess_from : List ThreadRow → List Bound → ℕ → Option Excess
excess_from rows v i = first_excess i (drop i rows) (drop i (right_sides rows v))

-- a row whose right side has the response that it has in the vector
abbrev pub IsKept : List ThreadRow → List Bound → ℕ → Type 0
IsKept rows v i = (b side : Bound) → slice_get v i ≡ Some b → slice_get (right_sides rows v) i ≡ Some side → side.response ≡ b.response
