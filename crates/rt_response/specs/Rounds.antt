-- The rounds by which the response equations are solved, and the first value over its limit.
-- Each round computes all values from those of the round before (Audsley et al. 1993).
use Rattle.std.specs.Prelude.{◌≡◌, ℕ, zero, suc, ◌+◌, ◌<◌, List, [], ◌∷◌, map, length, replicate, nat_lt, Option, Some, None, if◌then◌else◌}
use Rattle.rt_response.specs.declared.rows.ThreadRow.{ThreadRow}
use Rattle.rt_response.specs.declared.rows.Bound.{Bound}
use Rattle.rt_response.specs.declared.rows.Limit.TheVariants.{Deadline, Separation}
use Rattle.rt_response.specs.declared.rows.Miss.{Miss}
use Rattle.rt_response.specs.declared.excess.Excess.{Excess}
use Rattle.rt_response.specs.Response.{right_sides}

-- the jitter of a row at first
abbrev pub first_jitter : ℕ → Option ℕ → ℕ
first_jitter jitter None = jitter
first_jitter jitter (Some starter) = 0

-- a round
abbrev pub round : List ThreadRow → ℕ → List Bound
round rows zero = map (λ row. record { jitter = first_jitter row.jitter row.starter; response = row.block + row.cost }) rows
round rows (suc k) = right_sides rows (round rows k)

-- the excess of a row, its deadline first, or else that of others
abbrev pub excess_or : ℕ → ThreadRow → Bound → Option Excess → Option Excess
excess_or i row b others =
    if nat_lt row.deadline b.response then Some (record { index = i; which = Deadline; value = b.response; limit = row.deadline })
    else if nat_lt row.period (b.jitter + b.response) then Some (record {
      index = i;
      which = Separation;
      value = b.jitter + b.response;
      limit = row.period;
    })
    else others

-- the first excess of a vector, by rows counted from this number
abbrev pub first_excess : ℕ → List ThreadRow → List Bound → Option Excess
first_excess i [] v = None
first_excess i (row ∷ rows) [] = None
first_excess i (row ∷ rows) (b ∷ v) = excess_or i row b (first_excess (suc i) rows v)

-- the vector that a round is computed from: the round before, and zeros before round 0
abbrev pub before_round : List ThreadRow → ℕ → List Bound
before_round rows zero = replicate (length rows) (record { jitter = 0; response = 0 })
before_round rows (suc k) = round rows k

-- the first round with a value over its limit, and that value
pub record IsMiss (rows : List ThreadRow) (m : Miss) : Type 0 where
  pub earlier : (k : ℕ) → k < m.round → first_excess 0 rows (round rows k) ≡ None
  pub over : first_excess 0 rows (round rows m.round) ≡ Some (record { index = m.index; which = m.which; value = m.value; limit = m.limit })
