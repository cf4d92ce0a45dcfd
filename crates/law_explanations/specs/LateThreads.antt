-- The numbers that are reported of threads are the least solution of the response equations, and a thread that is reported late is late in every
-- solution.
-- The equations are those of Audsley et al. 1993, with jitters as in Tindell, Burns and Wellings 1994; here without limits.
use Rattle.std.specs.Prelude.{◌≡◌, ◌⊎◌, ℕ, ◌+◌, ◌≤◌, ◌<◌, List, slice_get, Option, Some, ⊤}
use Rattle.ods_tree.specs.Flats.{Flat}
use Rattle.rt_response.specs.declared.rows.ThreadRow.{ThreadRow}
use Rattle.rt_response.specs.declared.rows.Bound.{Bound}
use Rattle.rt_response.specs.Response.{Meets}
use Rattle.analysis.specs.Sound.{IsSound}
use Rattle.analysis.specs.Tables.{table}
use Rattle.late_response.specs.declared.reach.Reach.{Reach}
use Rattle.late_response.specs.declared.reach.Reach.TheVariants.{Solved, Beyond, Behind}
use Rattle.late_response.specs.Late.{IsFar}
use Rattle.explanation.specs.declared.reasons.Late.{Late}
use Rattle.explanation.specs.declared.reasons.Reasons.{Reasons}
use Rattle.explanation.specs.Findings.{IsFound}
use Rattle.explanation.specs.Threads.{reasons_of}

-- a bound over a limit of its row
abbrev pub IsOverLimit : ThreadRow → Bound → Type 0
IsOverLimit row b = (row.deadline < b.response) ⊎ (row.period < b.jitter + b.response)

-- a bound that is at least what is reported: where a row is given up, it is over ten times a limit
abbrev pub IsAtLeast : Reach → ThreadRow → Bound → Type 0
IsAtLeast (Solved jitter response) row b = (jitter ≤ b.jitter) × (response ≤ b.response)
IsAtLeast (Beyond round jitter response) row b = IsFar row b
IsAtLeast (Behind starter) row b = ⊤

-- what is reported of a thread is at most what any solution has for it
abbrev pub NumbersAreLeast : Type 0
NumbersAreLeast =
    (first : ℕ) (f : Flat) (found : List Reach) (late : Option Late) (i : ℕ) (t : Reasons) (u : List Bound) (b : Bound)
    → IsSound f → IsFound f found late → slice_get (reasons_of first f found) i ≡ Some t → Meets (table f).rows u → slice_get u i ≡ Some b
    → IsAtLeast t.reach t.row b

-- a row that is reported late: over a limit, or given up
abbrev pub IsToldLate : ThreadRow → Reach → Type 0
IsToldLate row (Solved jitter response) = IsOverLimit row (record { jitter = jitter; response = response })
IsToldLate row (Beyond round jitter response) = ⊤
IsToldLate row (Behind starter) = ⊥

-- a thread that is reported late is over a limit in every solution
abbrev pub LateThreadsAreLate : Type 0
LateThreadsAreLate =
    (first : ℕ) (f : Flat) (found : List Reach) (late : Option Late) (i : ℕ) (t : Reasons) (u : List Bound) (b : Bound)
    → IsSound f → IsFound f found late → slice_get (reasons_of first f found) i ≡ Some t → IsToldLate t.row t.reach
    → Meets (table f).rows u → slice_get u i ≡ Some b → IsOverLimit t.row b
