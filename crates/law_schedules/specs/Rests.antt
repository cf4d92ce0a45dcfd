-- Levels rest soon: from any time on, a time comes within a row's response time at which all activations of its level that were released before
-- are over. So a chain of activations, each released before the one before it ends, is over within the response time of its lowest row.
-- Level-i busy periods are those of Joseph and Pandya 1986.
use Rattle.std.specs.Prelude.{◌≡◌, ℕ, ◌+◌, ◌≤◌, ◌<◌, true, false, List, [], ◌∷◌, slice_get, Some, ⊤}
use Rattle.rt_response.specs.declared.rows.ThreadRow.{ThreadRow}
use Rattle.rt_response.specs.declared.rows.Bound.{Bound}
use Rattle.rt_response.specs.Response.{Fits}
use Rattle.rt_response.specs.Tables.{IsTable}
use Rattle.law_schedules.specs.Schedules.{Activation, Schedule, horizon, is_over, IsOfLevel, IsStart, IsSchedule}

-- a level rests within its response time, from any time on
abbrev pub LevelsRest : Type 0
LevelsRest =
    (rows : List ThreadRow) (v : List Bound) (s : Schedule) (i : ℕ) (row : ThreadRow) (b : Bound) (from : ℕ)
    → IsTable rows → Fits rows v → IsSchedule rows v s → slice_get rows i ≡ Some row → slice_get v i ≡ Some b → from + b.response ≤ horizon s
    → (time : ℕ) × (from < time) × (time ≤ from + b.response) × IsStart s i time

-- activations of a level, each released before the one before it is over
abbrev pub IsLinked : Schedule → ℕ → Activation → List Activation → Type 0
IsLinked s i a [] = ⊤
IsLinked s i a (next ∷ more) =
    ((k : ℕ) × (slice_get s.activations k ≡ Some next)) × IsOfLevel i next × (is_over a.end next.release ≡ false) × IsLinked s i next more

-- all of them over by a time
abbrev pub AreOver : ℕ → Activation → List Activation → Type 0
AreOver time a [] = is_over a.end time ≡ true
AreOver time a (next ∷ more) = (is_over a.end time ≡ true) × AreOver time next more

-- such a chain is over within the response time of the level, from the release of its first on
abbrev pub ChainsRest : Type 0
ChainsRest =
    (rows : List ThreadRow) (v : List Bound) (s : Schedule) (i : ℕ) (row : ThreadRow) (b : Bound) (k : ℕ) (first : Activation) (more : List Activation)
    → IsTable rows → Fits rows v → IsSchedule rows v s → slice_get rows i ≡ Some row → slice_get v i ≡ Some b
    → slice_get s.activations k ≡ Some first → IsOfLevel i first → first.release + b.response ≤ horizon s → IsLinked s i first more
    → AreOver (first.release + b.response) first more
