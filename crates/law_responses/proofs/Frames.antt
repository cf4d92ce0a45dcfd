-- A system with a table: which row each task has, how it is requested, and what is noted of requests beside a log.
use Rattle.std.specs.Prelude.{◌≡◌, ◌≢◌, ℕ, zero, suc, ◌+◌, ◌≤◌, true, false, List, [], ◌∷◌, slice_get, ◌++◌, Option, Some, None, ⊤, refl}
use Rattle.std.proofs.Common.{sym, ◌∙◌, ap}
use Rattle.std.proofs.lemmas.Option.{none-some}
use Rattle.seq_tree.specs.Names.{Name}
use Rattle.seq_tree.specs.Dearest.{dearest, free}
use Rattle.seq_tree.specs.declared.tree.Costs.{Costs}
use Rattle.arrivals_tree.specs.declared.arrivals.Arrival.{Arrival}
use Rattle.arrivals_tree.specs.Acceptance.{next_nominal, nominal, earlier_times}
use Rattle.rt_response.specs.declared.rows.ThreadRow.{ThreadRow}
use Rattle.machine.specs.Systems.{System, TaskUnit, ReleasePattern, Periodic, Requested}
use Rattle.machine.specs.Pieces.{Piece, Finishing, pieces}
use Rattle.machine.specs.Pieces as piece
use Rattle.law_calls.proofs.Shared.Remaining.{Measure, behind, rest, CoversCalls}

-- a system with a table: the row of each task that has one, and a number that all nominal times are shifted by
pub record Frame : Type 0 where
  pub system : System
  pub rows : List ThreadRow
  pub row_of : ℕ → Option ℕ
  pub shift : ℕ
  -- the cost of a call, and how often a call requests a task
  pub called : Name → Name → ℕ
  pub requests : ℕ → Name → Name → ℕ
  -- the one task that requests a task, where one does
  pub starter_of : ℕ → Option ℕ

-- ticks along pieces
abbrev pub ticks_measure : Frame → Measure
ticks_measure f = record {
  weights = record { costs = f.system.costs; work = λ ticks. ticks; called = f.called };
  keeping = f.system.costs.assign;
  opening = λ task. f.system.costs.assign;
  requesting = λ task. 0;
}

-- requests of a task along pieces
abbrev pub one_at : ℕ → ℕ → ℕ
one_at zero zero = 1
one_at zero (suc k) = 0
one_at (suc j) zero = 0
one_at (suc j) (suc k) = one_at j k

pub one-here : (j : ℕ) → one_at j j ≡ 1
one-here zero = refl
one-here (suc j) = one-here j

pub one-apart : (i j : ℕ) → i ≢ j → one_at i j ≡ 0
one-apart zero zero differ = absurd (differ refl)
one-apart zero (suc j) differ = refl
one-apart (suc i) zero differ = refl
one-apart (suc i) (suc j) differ = one-apart i j (λ e. differ (ap suc e))

abbrev pub requests_measure : Frame → ℕ → Measure
requests_measure f j = record {
  weights = record { costs = free; work = λ ticks. 0; called = f.requests j };
  keeping = 0;
  opening = one_at j;
  requesting = λ task. 0;
}

-- the task at a place has this row
abbrev pub HasRow : Frame → ℕ → ℕ → Type 0
HasRow f j r = f.row_of j ≡ Some r

pub no-row : (f : Frame) (j r : ℕ) → f.row_of j ≡ None → HasRow f j r → ⊥
no-row f j r none has = none-some r (sym none ∙ has)

-- how a task with a row is requested
abbrev pub IsAsked : Frame → ℕ → ThreadRow → ReleasePattern → Type 0
IsAsked f j row (Periodic offset period) = (row.period ≤ period) × (f.starter_of j ≡ None)
IsAsked f j row (Requested op ceiling separation jitter true) =
    (row.starter ≡ None) × (row.period ≤ separation) × (jitter ≤ row.jitter) × (jitter ≤ f.shift)
    × (f.starter_of j ≡ None)
IsAsked f j row (Requested op ceiling separation jitter false) =
    (c i : ℕ) × (starter : ThreadRow) × HasRow f i c × (row.starter ≡ Some c) × (slice_get f.rows c ≡ Some starter) × (row.period ≤ starter.period)
    × (f.starter_of j ≡ Some i)

-- how often an activation of a task may request another: once where it is its starter
abbrev pub quota_by : Option ℕ → ℕ → ℕ
quota_by None j = 0
quota_by (Some i) j = one_at i j

abbrev pub quota : Frame → ℕ → ℕ → ℕ
quota f k j = quota_by (f.starter_of k) j

pub none-of : (f : Frame) (k i : ℕ) → f.starter_of k ≡ None → quota f k i ≡ 0
none-of f k i e = ap (λ o. quota_by o i) e

pub other-of : (f : Frame) (k i x : ℕ) → f.starter_of k ≡ Some x → x ≢ i → quota f k i ≡ 0
other-of f k i x e differ = ap (λ o. quota_by o i) e ∙ one-apart x i differ

-- a task with its row
pub record IsTabled (f : Frame) (j r : ℕ) (t : TaskUnit) : Type 0 where
  pub row : ThreadRow
  pub asks : slice_get f.rows r ≡ Some row
  pub cost : dearest (ticks_measure f).weights t.block + f.system.costs.finish ≤ row.cost
  pub asked : IsAsked f j row t.timing

-- whether the pieces of a block start with one that takes a tick
abbrev pub StartsSome : Costs → List ℕ → List Piece → Type 0
StartsSome costs durations [] = ⊥
StartsSome costs durations (p ∷ ps) = (works : ℕ) → 1 ≤ piece.ticks_of costs (slice_get durations works) p

-- arrivals that may come, after those that came: for the task that each is for they keep the separation
abbrev pub KeepsApart : ReleasePattern → List Arrival → Arrival → Type 0
KeepsApart (Periodic offset period) before a = ⊥
KeepsApart (Requested op ceiling separation jitter external) before a =
    (external ≡ true) × (next_nominal separation (nominal separation None (earlier_times a.task before)) a.time ≤ a.time + jitter)

abbrev pub AreKeptApart : List TaskUnit → List Arrival → List Arrival → Type 0
AreKeptApart ts before [] = ⊤
AreKeptApart ts before (a ∷ more) =
    ((j : ℕ) (t : TaskUnit) → slice_get ts j ≡ Some t → t.unit ≡ a.task → KeepsApart t.timing before a) × AreKeptApart ts (before ++ a ∷ []) more

-- what is needed of a system with a table
pub record IsFramed (f : Frame) : Type 0 where
  pub tabled : (j r : ℕ) (t : TaskUnit) → HasRow f j r → slice_get f.system.threads j ≡ Some t → IsTabled f j r t
  pub placed : (j r : ℕ) → HasRow f j r → (t : TaskUnit) × (slice_get f.system.threads j ≡ Some t)
  pub one : (i j r : ℕ) → HasRow f i r → HasRow f j r → i ≡ j
  pub units : (i j : ℕ) (t u : TaskUnit) → slice_get f.system.threads i ≡ Some t → slice_get f.system.threads j ≡ Some u → t.unit ≡ u.unit → i ≡ j
  pub ticks : CoversCalls f.system (ticks_measure f)
  pub starts : (j : ℕ) → CoversCalls f.system (requests_measure f j)
  pub few : (k s i : ℕ) (t : TaskUnit) → HasRow f k s → slice_get f.system.threads i ≡ Some t
      → dearest (requests_measure f k).weights t.block ≤ quota f k i
  pub starters : (k s i : ℕ) → HasRow f k s → f.starter_of k ≡ Some i → (r : ℕ) × HasRow f i r
  pub positive : (i : ℕ) (t : TaskUnit) → slice_get f.system.threads i ≡ Some t
      → StartsSome f.system.costs t.durations (pieces t.block (Finishing ∷ []))

-- a request as it is kept: the nominal time of the activation that it is for, when it came, and the activation of the starter that it came from
pub record Kept : Type 0 where
  pub nominal : ℕ
  pub asked : ℕ
  pub source : Option ℕ

-- what is noted beside a log: the place of the last activation of each task, the last request of each, and the arrivals that came
pub record Notes : Type 0 where
  pub current : ℕ → ℕ
  pub kept : ℕ → Option Kept
  pub taken : List Arrival

-- a last piece that ends the activation
abbrev pub HasEnd : List Piece → Type 0
HasEnd [] = ⊥
HasEnd (Finishing ∷ ps) = ⊤
HasEnd (_ ∷ ps) = HasEnd ps

-- the ticks that a task may still take
abbrev pub remaining : Measure → ℕ → List Piece → ℕ
remaining g left [] = 0
remaining g left (p ∷ ps) = left + behind g p + rest g ps

-- pieces that begin with the end of a request of this task
abbrev pub EndsRequest : ℕ → List Piece → Type 0
EndsRequest k [] = ⊥
EndsRequest k (piece.Requested other value ∷ ps) = other ≡ k
EndsRequest k (_ ∷ ps) = ⊥
