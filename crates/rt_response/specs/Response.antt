-- The response equations with release jitter, over a table of numbers, by priority from the greatest on.
-- The equations are those of Joseph and Pandya 1986 and Audsley et al. 1993, with jitters as in Tindell, Burns and Wellings 1994.
use Rattle.std.specs.Prelude.{◌≡◌, ℕ, ◌+◌, ◌*◌, ◌≤◌, List, [], ◌∷◌, ◌++◌, length, zip, sum_by, Option, Some, None, slice_get}
use Rattle.std.specs.Int.{div_ceil}
use Rattle.std.specs.List.{AllZip}
use Rattle.rt_response.specs.declared.rows.ThreadRow.{ThreadRow}
use Rattle.rt_response.specs.declared.rows.Bound.{Bound}

-- a row with what a vector gives it
abbrev pub Entry : Type 0
Entry = ThreadRow × Bound

-- what a row of greater priority takes of a window
abbrev pub interference : ℕ → Entry → ℕ
interference window e = div_ceil (window + e.1.jitter) e.0.period * e.0.cost

-- the response time that the equation gives a row, from its own in the vector and the entries before it
abbrev pub response_after : List Entry → Entry → ℕ
response_after before e = e.0.block + e.0.cost + sum_by (interference e.1.response) before

-- the jitter that a started row inherits
abbrev pub inherited : Option Bound → ℕ
inherited None = 0
inherited (Some b) = b.jitter + b.response

-- the jitter that the equation gives a row
abbrev pub jitter_by : List Bound → ThreadRow → Option ℕ → ℕ
jitter_by v row None = row.jitter
jitter_by v row (Some starter) = inherited (slice_get v starter)

-- the right sides of the equations of these entries, after those before them, with jitters inherited from a vector
abbrev pub sides_after : List Bound → List Entry → List Entry → List Bound
sides_after v before [] = []
sides_after v before (e ∷ es) =
    record { jitter = jitter_by v e.0 e.0.starter; response = response_after before e } ∷ sides_after v (before ++ e ∷ []) es

-- the right sides of the equations, at a vector
abbrev pub right_sides : List ThreadRow → List Bound → List Bound
right_sides rows v = sides_after v [] (zip rows v)

-- a vector that is nowhere above another
abbrev pub IsAtMost : List Bound → List Bound → Type 0
IsAtMost v u = AllZip (λ a b. (a.jitter ≤ b.jitter) × (a.response ≤ b.response)) v u

-- a vector that is nowhere below its right sides
abbrev pub Meets : List ThreadRow → List Bound → Type 0
Meets rows v = (length v ≡ length rows) × IsAtMost (right_sides rows v) v

-- a vector within the limits: responses by the deadlines, jitters and responses together by the periods
abbrev pub IsWithinLimits : List ThreadRow → List Bound → Type 0
IsWithinLimits rows v = AllZip (λ row b. (b.response ≤ row.deadline) × (b.jitter + b.response ≤ row.period)) rows v

-- a vector that meets the equations within the limits
abbrev pub Fits : List ThreadRow → List Bound → Type 0
Fits rows v = Meets rows v × IsWithinLimits rows v

-- the least such vector
pub record IsLeastVector (rows : List ThreadRow) (v : List Bound) : Type 0 where
  pub fits : Fits rows v
  pub least : (u : List Bound) → Fits rows u → IsAtMost v u
