-- Schedules in numbers alone: activations of rows, and which of them uses each tick; and what such a schedule must keep.
-- Level-i busy periods are those of Joseph and Pandya 1986, with release jitter as in Tindell, Burns and Wellings 1994.
use Rattle.std.specs.Prelude.{◌≡◌, ◌≢◌, ◌⊎◌, ℕ, suc, ◌-◌, ◌+◌, ◌≤◌, ◌<◌, Bool, true, false, not, List, length, filter, filter_map, take, drop}
use Rattle.std.specs.Prelude.{slice_get, Option, Some, None, option_map, nat_le, ℤ, pos, ◌+ℤ◌, ◌≤ℤ◌, ◌==◌}
use Rattle.std.specs.List.{enumerate_from}
use Rattle.rt_response.specs.declared.rows.ThreadRow.{ThreadRow}
use Rattle.rt_response.specs.declared.rows.Bound.{Bound}
use Rattle.rt_response.specs.Tables.{Each}

-- an activation of a row: its nominal time, its release, the ticks that it needs, and its end, where it has one
pub record Activation : Type 0 where
  pub row : ℕ
  pub nominal : ℤ
  pub release : ℕ
  pub need : ℕ
  pub end : Option ℕ

-- a schedule: activations, and for each tick up to the horizon the place of the activation that uses it, where one does
pub record Schedule : Type 0 where
  pub activations : List Activation
  pub ticks : List (Option ℕ)

-- the horizon
abbrev pub horizon : Schedule → ℕ
horizon s = length s.ticks

-- whether a tick is used by this activation
abbrev pub is_by : ℕ → Option ℕ → Bool
is_by k None = false
is_by k (Some user) = user == k

-- something where this is true
abbrev pub only_if : {A : Type 0} → Bool → A → Option A
only_if true a = Some a
only_if false a = None

-- the ticks that an activation uses, of those that are numbered from here on
abbrev pub ticks_from : ℕ → ℕ → List (Option ℕ) → List ℕ
ticks_from m k ticks = filter_map (λ t. only_if (is_by k t.1) t.0) (enumerate_from m ticks)

-- the ticks that an activation uses
abbrev pub ticks_of : ℕ → List (Option ℕ) → List ℕ
ticks_of k ticks = ticks_from 0 k ticks

-- whether an end is there by a time
abbrev pub is_over : Option ℕ → ℕ → Bool
is_over None time = false
is_over (Some end) time = nat_le end time

-- an activation of a level: of this row or of one before it
abbrev pub IsOfLevel : ℕ → Activation → Type 0
IsOfLevel i a = a.row ≤ i

-- an activation at a place in a schedule, with its row and what the vector gives it
pub record IsAt (rows : List ThreadRow) (v : List Bound) (s : Schedule) (k : ℕ) (a : Activation) (row : ThreadRow) (b : Bound) : Type 0 where
  pub stands : slice_get s.activations k ≡ Some a
  pub asks : slice_get rows a.row ≡ Some row
  pub gets : slice_get v a.row ≡ Some b

-- a level that is pending at a tick: one of its activations is released and not over
abbrev pub IsPending : Schedule → ℕ → ℕ → Type 0
IsPending s i t =
    (k : ℕ) × (a : Activation) × (slice_get s.activations k ≡ Some a) × IsOfLevel i a × (a.release ≤ t) × (is_over a.end t ≡ false)

-- an activation that is over by a time, where it is of a level and was released before that time
abbrev pub IsOverBy : ℕ → ℕ → Activation → Type 0
IsOverBy i t a = IsOfLevel i a → a.release < t → is_over a.end t ≡ true

-- a start of a level: what was released before is over
abbrev pub IsStart : Schedule → ℕ → ℕ → Type 0
IsStart s i t = Each (IsOverBy i t) s.activations

-- whether an activation is of a level
abbrev pub is_low : ℕ → Option Activation → Bool
is_low i None = false
is_low i (Some a) = nat_le a.row i

-- whether a tick is used by an activation of a level
abbrev pub is_of_level : List Activation → ℕ → Option ℕ → Bool
is_of_level acts i None = false
is_of_level acts i (Some user) = is_low i (slice_get acts user)

-- the ticks from one to another, the last included
abbrev pub between : ℕ → ℕ → List (Option ℕ) → List (Option ℕ)
between first last ticks = take (suc last - first) (drop first ticks)

-- the number of these ticks that no activation of a level uses
abbrev pub others : Schedule → ℕ → ℕ → ℕ → ℕ
others s i first last = length (filter (λ t. not (is_of_level s.activations i t)) (between first last s.ticks))

-- at a time, each activation whose response time is past is over within it
abbrev pub AllOnTime : List ThreadRow → List Bound → Schedule → ℕ → Type 0
AllOnTime rows v s t =
    (k : ℕ) (a : Activation) (row : ThreadRow) (b : Bound) → IsAt rows v s k a row b
    → a.release + b.response ≤ t → is_over a.end (a.release + b.response) ≡ true

-- a schedule of a table and a vector
pub record IsSchedule (rows : List ThreadRow) (v : List Bound) (s : Schedule) : Type 0 where
  -- releases are up to the horizon, and rows are those of the table
  pub within : (k : ℕ) (a : Activation) → slice_get s.activations k ≡ Some a → (a.row < length rows) × (a.release ≤ horizon s)
  -- an activation needs at least a tick and at most its row's cost
  pub needs : (k : ℕ) (a : Activation) (row : ThreadRow) (b : Bound) → IsAt rows v s k a row b → (1 ≤ a.need) × (a.need ≤ row.cost)
  -- it uses at most what it needs, from its release on, and ends after the last of that
  pub uses : (k : ℕ) (a : Activation) → slice_get s.activations k ≡ Some a
      → (length (ticks_of k s.ticks) ≤ a.need) × Each (λ t. a.release ≤ t) (ticks_of k s.ticks)
      × (a.end ≡ option_map suc (slice_get (ticks_of k s.ticks) (a.need - 1)))
  -- nominal times of one row differ by at least its period
  pub separate : (k l : ℕ) (a c : Activation) (row : ThreadRow) (b : Bound) → IsAt rows v s k a row b → IsAt rows v s l c row b → k ≢ l
      → a.row ≡ c.row
      → ((a.nominal +ℤ pos row.period) ≤ℤ c.nominal) ⊎ ((c.nominal +ℤ pos row.period) ≤ℤ a.nominal)
  -- releases are at most the jitter after their nominal times, as long as all is on time
  pub jitters : (t : ℕ) → t ≤ horizon s → AllOnTime rows v s t
      → (k : ℕ) (a : Activation) (row : ThreadRow) (b : Bound) → IsAt rows v s k a row b → a.release ≤ t
      → (a.nominal ≤ℤ pos a.release) × (pos a.release ≤ℤ (a.nominal +ℤ pos b.jitter))
  -- from a start on, while a level is pending, at most its blocking is used by others
  pub blocks : (i : ℕ) (row : ThreadRow) (first last : ℕ) → slice_get rows i ≡ Some row → IsStart s i first → first ≤ last → last < horizon s
      → ((t : ℕ) → first ≤ t → t ≤ last → IsPending s i t) → others s i first last ≤ row.block
