-- Logs: the activations that a run has made so far, and for each tick so far the place of the activation that used it.
-- A log is kept beside a run; at any moment it gives a schedule in numbers up to that moment.
use Rattle.std.specs.Prelude.{◌≡◌, ◌⊎◌, ℕ, suc, ◌+◌, ◌-◌, ◌≤◌, ◌<◌, List, [], ◌∷◌, ◌++◌, length, slice_get, Option, Some, None, pos, ◌-ℤ◌, ⊤}
use Rattle.seq_tree.specs.Lists.{change}
use Rattle.rt_response.specs.declared.rows.ThreadRow.{ThreadRow}
use Rattle.rt_response.specs.Tables.{Each}
use Rattle.law_schedules.specs.Schedules.{Activation, Schedule, ticks_of}

-- an activation as it is made: its task and row, its nominal time after a shift, the time at which it was asked for, its release and its end
pub record Made : Type 0 where
  pub task : ℕ
  pub row : ℕ
  pub nominal : ℕ
  pub asked : ℕ
  pub release : ℕ
  pub over : Option ℕ

-- what a run has made so far
pub record Log : Type 0 where
  pub acts : List Made
  pub ticks : List (Option ℕ)

-- a log with one activation more
abbrev pub started : Made → Log → Log
started m l = record l { acts = l.acts ++ m ∷ [] }

-- an activation as it ends
abbrev pub over_at : ℕ → Made → Made
over_at time m = record m { over = Some time }

-- a log in which an activation has ended now
abbrev pub finished : ℕ → Log → Log
finished k l = record l { acts = change k (over_at (length l.ticks)) l.acts }

-- a log with one tick more
abbrev pub ticked : Option ℕ → Log → Log
ticked o l = record l { ticks = l.ticks ++ o ∷ [] }

-- what an activation needs: the ticks that it used, or where it is not over all that it may
abbrev pub need_by : ℕ → ℕ → Option ℕ → ℕ
need_by cost used None = cost
need_by cost used (Some end) = used

-- the cost of a row, where there is one
abbrev pub cost_by : Option ThreadRow → ℕ
cost_by None = 0
cost_by (Some row) = row.cost

-- an activation in numbers
abbrev pub activation : List ThreadRow → ℕ → List (Option ℕ) → ℕ → Made → Activation
activation rows shift ticks k m = record {
  row = m.row;
  nominal = pos m.nominal -ℤ pos shift;
  release = m.release;
  need = need_by (cost_by (slice_get rows m.row)) (length (ticks_of k ticks)) m.over;
  end = m.over;
}

-- activations in numbers, from this place on
abbrev pub activations : List ThreadRow → ℕ → List (Option ℕ) → ℕ → List Made → List Activation
activations rows shift ticks k [] = []
activations rows shift ticks k (m ∷ ms) = activation rows shift ticks k m ∷ activations rows shift ticks (suc k) ms

-- the schedule of a log
abbrev pub schedule_of : List ThreadRow → ℕ → Log → Schedule
schedule_of rows shift l = record { activations = activations rows shift l.ticks 0 l.acts; ticks = l.ticks }

-- an end that comes after the last of some ticks
abbrev pub EndsAfter : List ℕ → Option ℕ → Type 0
EndsAfter xs None = ⊤
EndsAfter xs (Some end) = (x : ℕ) × (slice_get xs (length xs - 1) ≡ Some x) × (end ≡ suc x)

-- an activation that uses ticks from its release on, at most its row's cost of them
pub record IsWell (rows : List ThreadRow) (ticks : List (Option ℕ)) (k : ℕ) (m : Made) : Type 0 where
  pub row : ThreadRow
  pub asks : slice_get rows m.row ≡ Some row
  pub released : m.release ≤ length ticks
  pub after : Each (λ t. m.release ≤ t) (ticks_of k ticks)
  pub cost : length (ticks_of k ticks) ≤ row.cost
  pub ends : EndsAfter (ticks_of k ticks) m.over

-- a log of such activations
pub record IsLogged (rows : List ThreadRow) (l : Log) : Type 0 where
  pub each : (k : ℕ) (m : Made) → slice_get l.acts k ≡ Some m → IsWell rows l.ticks k m
  pub fresh : (k : ℕ) → length l.acts ≤ k → ticks_of k l.ticks ≡ []

-- activations that are not over have used less than their row's cost
abbrev pub AreUnended : List ThreadRow → Log → Type 0
AreUnended rows l = (k : ℕ) (m : Made) (row : ThreadRow) → slice_get l.acts k ≡ Some m → m.over ≡ None → slice_get rows m.row ≡ Some row
    → length (ticks_of k l.ticks) < row.cost

-- what holds of each activation of a row
abbrev pub OfRow : List Made → ℕ → (Made → Type 0) → Type 0
OfRow acts r P = (k : ℕ) (m : Made) → slice_get acts k ≡ Some m → m.row ≡ r → P m

-- an activation of a row that ended at this time
abbrev pub EndedAt : List Made → ℕ → ℕ → Type 0
EndedAt acts r time = (k : ℕ) × (m : Made) × (slice_get acts k ≡ Some m) × (m.row ≡ r) × (m.over ≡ Some time)

-- an earlier activation of the same row that ended at this release
pub record Follows (acts : List Made) (k : ℕ) (m : Made) : Type 0 where
  pub place : ℕ
  pub made : Made
  pub earlier : place < k
  pub stands : slice_get acts place ≡ Some made
  pub same : made.row ≡ m.row
  pub ended : made.over ≡ Some m.release

-- an end that isn't before a time
abbrev pub IsOpenAt : ℕ → Option ℕ → Type 0
IsOpenAt time None = ⊤
IsOpenAt time (Some end) = time ≤ end

-- an activation of the row's starter, during which a request came, with its nominal time
pub record Inner (acts : List Made) (row : ThreadRow) (k : ℕ) (m : Made) : Type 0 where
  pub place : ℕ
  pub made : Made
  pub earlier : place < k
  pub stands : slice_get acts place ≡ Some made
  pub starter : row.starter ≡ Some made.row
  pub nominal : made.nominal ≡ m.nominal
  pub after : made.release ≤ m.asked
  pub during : IsOpenAt m.asked made.over

-- when a request comes: at its nominal time; within the row's jitter where it has no starter; or during an activation of the starter
abbrev pub Cause : ℕ → List Made → ThreadRow → ℕ → Made → Type 0
Cause shift acts row k m =
    (shift + m.asked ≤ m.nominal) ⊎ (((row.starter ≡ None) × (shift + m.asked ≤ m.nominal + row.jitter)) ⊎ Inner acts row k m)

-- an activation that is asked for from its nominal time on, and released when it was asked for or when the one before ends
pub record IsTimely (rows : List ThreadRow) (shift : ℕ) (acts : List Made) (k : ℕ) (m : Made) : Type 0 where
  pub asked : m.nominal ≤ shift + m.asked
  pub waited : m.asked ≤ m.release
  pub late : (m.release ≡ m.asked) ⊎ Follows acts k m
  pub cause : (row : ThreadRow) → slice_get rows m.row ≡ Some row → Cause shift acts row k m

-- a log of such activations, of which those of one row are apart
pub record IsTimed (rows : List ThreadRow) (shift : ℕ) (l : Log) : Type 0 where
  pub each : (k : ℕ) (m : Made) → slice_get l.acts k ≡ Some m → IsTimely rows shift l.acts k m
  pub apart : (j k : ℕ) (m n : Made) (row : ThreadRow) → j < k → slice_get l.acts j ≡ Some m → slice_get l.acts k ≡ Some n → m.row ≡ n.row
      → slice_get rows n.row ≡ Some row → m.nominal + row.period ≤ n.nominal
