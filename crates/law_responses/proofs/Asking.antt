-- What is known of the requests that a log's activations are for: when each came, from where, and that those of one task are apart.
-- A cyclic task is asked for at its own times, an external one by arrivals, and any other by activations of its starter.
use Rattle.std.specs.Prelude.{◌≡◌, ◌⊎◌, ℕ, ◌+◌, ◌≤◌, ◌<◌, Bool, true, false, List, slice_get, Option, Some, None, ⊤}
use Rattle.arrivals_tree.specs.declared.arrivals.Arrival.{Arrival}
use Rattle.arrivals_tree.specs.Acceptance.{nominal, earlier_times}
use Rattle.rt_response.specs.declared.rows.ThreadRow.{ThreadRow}
use Rattle.machine.specs.Systems.{ReleasePattern, Periodic, Requested}
use Rattle.machine.specs.Pieces.{Piece}
use Rattle.machine.specs.States.{Phase, Effects, Delays, Arriving, Use, Readiness, Asleep, Waiting, Ready}
use Rattle.law_responses.proofs.Logs.{Made, Log, OfRow, EndedAt, IsOpenAt, IsTimed}
use Rattle.law_calls.proofs.Shared.Remaining.{rest}
use Rattle.law_responses.proofs.Views.{Core, View, Now, now_of}
use Rattle.law_responses.proofs.Frames.{Frame, requests_measure, HasRow, quota, AreKeptApart, Kept, Notes, EndsRequest}
use Rattle.law_responses.proofs.Tidy.{Tidy}

-- when a sleeper is due: not before now, unless its activation ended now
abbrev pub IsNotDue : Phase → ℕ → ℕ → List Made → ℕ → Type 0
IsNotDue Effects time until acts r = (time ≤ until) ⊎ EndedAt acts r time
IsNotDue Delays time until acts r = (time ≤ until) ⊎ EndedAt acts r time
IsNotDue Arriving time until acts r = time < until
IsNotDue Use time until acts r = time < until

abbrev pub Sleeps : Phase → ℕ → List Made → ℕ → ℕ → Readiness → Type 0
Sleeps phase time acts r next (Asleep until) = (until ≡ next) × IsNotDue phase time until acts r
Sleeps phase time acts r next Waiting = ⊥
Sleeps phase time acts r next Ready = ⊤

-- a request that came from inside: during an activation of the starter, with its nominal time
pub record CameFrom (acts : List Made) (row : ThreadRow) (q : Kept) : Type 0 where
  pub place : ℕ
  pub made : Made
  pub source : q.source ≡ Some place
  pub stands : slice_get acts place ≡ Some made
  pub starter : row.starter ≡ Some made.row
  pub same : made.nominal ≡ q.nominal
  pub after : made.release ≤ q.asked
  pub during : IsOpenAt q.asked made.over

-- a request that came from outside: by an arrival that keeps the separation
pub record CameOutside (f : Frame) (taken : List Arrival) (unit separation jitter : ℕ) (q : Kept) : Type 0 where
  pub last : ℕ
  pub is : nominal separation None (earlier_times unit taken) ≡ Some last
  pub shifted : q.nominal + jitter ≡ f.shift + last
  pub near : f.shift + q.asked ≤ q.nominal + jitter

-- where the last request came from, by how the task is requested
abbrev pub Came : Frame → List Made → List Arrival → ThreadRow → ℕ → Bool → ℕ → ℕ → Option Kept → Type 0
Came f acts taken row unit true separation jitter None = nominal separation None (earlier_times unit taken) ≡ None
Came f acts taken row unit true separation jitter (Some q) = CameOutside f taken unit separation jitter q
Came f acts taken row unit false separation jitter None = ⊤
Came f acts taken row unit false separation jitter (Some q) = CameFrom acts row q

-- the activations of a task that is requested are for requests before the one that its control structure keeps, or for that one where it is shut
pub record AwaitsAfter (f : Frame) (time : ℕ) (acts : List Made) (r : ℕ) (open' : Bool) (row : ThreadRow) (q : Kept) : Type 0 where
  pub asked : q.nominal ≤ f.shift + q.asked
  pub past : q.asked ≤ time
  pub before : OfRow acts r (λ m. m.nominal ≤ q.nominal)
  pub apart : open' ≡ true → OfRow acts r (λ m. m.nominal + row.period ≤ q.nominal)

abbrev pub Awaits : Frame → ℕ → List Made → ℕ → Bool → ThreadRow → Option Kept → Type 0
Awaits f time acts r open' row None = OfRow acts r (λ m. ⊥) × (open' ≡ false)
Awaits f time acts r open' row (Some q) = AwaitsAfter f time acts r open' row q

-- whether a task sleeps
abbrev pub IsAwake : Readiness → Type 0
IsAwake (Asleep until) = ⊥
IsAwake Waiting = ⊤
IsAwake Ready = ⊤

-- how a task waits: for its next time or a request, and whether its control structure is open
pub record Wait : Type 0 where
  pub next : ℕ
  pub readiness : Readiness
  pub open' : Bool
  pub unit : ℕ

abbrev pub wait_of : Core → Wait
wait_of c = record { next = c.next; readiness = c.readiness; open' = c.open'; unit = c.thread.unit }

-- what is known of a task with a row by its timing
abbrev pub Asked : Frame → Phase → ℕ → List Made → List Arrival → Option Kept → ℕ → Wait → ThreadRow → ReleasePattern → Type 0
Asked f phase time acts taken kept r w row (Periodic offset period) = OfRow acts r (λ m. m.nominal + row.period ≤ f.shift + w.next)
    × Sleeps phase time acts r w.next w.readiness
Asked f phase time acts taken kept r w row (Requested op ceiling separation jitter external) =
    Awaits f time acts r w.open' row kept × Came f acts taken row w.unit external separation jitter kept × IsAwake w.readiness

-- the end of a request that is about to take effect: it was asked for now
pub record IsMid (now : Now) (kept : Option Kept) (j left : ℕ) : Type 0 where
  pub none : left ≡ 0
  pub phase : now.phase ≡ Effects
  pub ran : now.ran ≡ Some j
  pub request : Kept
  pub is : kept ≡ Some request
  pub at : request.asked ≡ now.time

-- what may be requested by the pieces left has not been requested by this activation, by its nominal time
abbrev pub IsFresh : Frame → ℕ → List Piece → ThreadRow → Kept → ℕ → Type 0
IsFresh f k ps target q nominal = (rest (requests_measure f k) ps ≡ 0) ⊎ (q.nominal + target.period ≤ nominal)

abbrev pub AreFresh : Frame → List Made → Notes → ℕ → List Piece → Type 0
AreFresh f acts n j ps =
    (k s : ℕ) (target : ThreadRow) (q : Kept) (m : Made) → HasRow f k s → slice_get f.rows s ≡ Some target → n.kept k ≡ Some q
    → slice_get acts (n.current j) ≡ Some m → IsFresh f k ps target q m.nominal

-- what is known of the requests that a task makes, and of those that it is released by
pub record Asks (f : Frame) (now : Now) (acts : List Made) (n : Notes) (j : ℕ) (c : Core) : Type 0 where
  pub tidy : Tidy c.pieces
  pub few : (k s : ℕ) → HasRow f k s → rest (requests_measure f k) c.pieces ≤ quota f k j
  pub mid : (k s : ℕ) → HasRow f k s → EndsRequest k c.pieces → IsMid now (n.kept k) j c.left
  pub fresh : (r : ℕ) → HasRow f j r → c.readiness ≡ Ready → AreFresh f acts n j c.pieces
  pub asked : (r : ℕ) (row : ThreadRow) → HasRow f j r → slice_get f.rows r ≡ Some row
      → Asked f now.phase now.time acts n.taken (n.kept j) r (wait_of c) row c.thread.timing

-- what is known of requests
pub record Asking (f : Frame) (v : View) (l : Log) (n : Notes) : Type 0 where
  pub timed : IsTimed f.rows f.shift l
  pub of : (j : ℕ) (c : Core) → slice_get v.cores j ≡ Some c → Asks f (now_of v) l.acts n j c
  pub apart : AreKeptApart f.system.threads n.taken v.arrivals
