-- A thread whose requests are apart by its separation, but for the jitter, and whose activations end soon enough has no overrun, and its releases are
-- apart as its requests are.
use Rattle.std.specs.Prelude.{◌≡◌, ℕ, ◌+◌, ◌≤◌, Bool, true, false, List, [], ◌∷◌, max, Option, Some, None, ⊤, refl}
use Rattle.std.specs.List.{cons_option}
use Rattle.std.proofs.Common.{sym, subst, arith}
use Rattle.seq_tree.specs.Names.{Name, same_name}
use Rattle.ods_tree.specs.Walk.{only_if}
use Rattle.guarantee.specs.Software.{Task}
use Rattle.guarantee.specs.Events.{Release, Arrive, Enter, Leave, Request, Print, End, Stop, Event, By, Horizon}
use Rattle.guarantee.specs.Arrivals.{KeepTime}
use Rattle.guarantee.specs.Order.{IsInOrder}
use Rattle.guarantee.specs.Requests.{Notice, Asked, Taken, Done, Pending, notices}
use Rattle.guarantee.specs.Bounded.{Response, Either, EndsBy, Responds}
use Rattle.law_releases.proofs.AllServed.{is_pending}
use Rattle.law_releases.specs.Serving.{ServedWhile, NeverOverruns, asked, taken}

-- a list that others begin with
abbrev pub Begins : List ℕ → List ℕ → Type 0
Begins [] ys = ⊤
Begins (x ∷ xs) [] = ⊥
Begins (x ∷ xs) (y ∷ ys) = (x ≡ y) × Begins xs ys

-- a beginning keeps time where the whole does
begins_keep : (separation jitter least : ℕ) (xs ys : List ℕ) → Begins xs ys → KeepTime separation jitter least ys
    → KeepTime separation jitter least xs
begins_keep separation jitter least [] ys b k = tt
begins_keep separation jitter least (x ∷ xs) [] b k = absurd b
begins_keep separation jitter least (x ∷ xs) (y ∷ ys) b k =
    let P : ℕ → Type 0 = λ z. KeepTime separation jitter least (z ∷ xs) in
    subst P (sym b.0) (k.0, begins_keep separation jitter (max y least + separation) xs ys b.1 k.1)

-- the time now is not past the horizon
pub order_until : (ts : List Task) (until now : ℕ) (told : List Event) → IsInOrder ts until now told → now ≤ until
order_until ts until now [] o = absurd o
order_until ts until now (By time task deed ∷ told) o = omega (arith, o.0, order_until ts until time told o.3)
order_until ts until now (Horizon time ∷ told) o = omega (arith, o.0, o.1)

-- an end that is told comes no earlier than now
pub ends_late : (ts : List Task) (until now : ℕ) (name : Name) (latest : ℕ) (told : List Event) → IsInOrder ts until now told
    → EndsBy name latest told → now ≤ latest
ends_late ts until now name latest [] o e = absurd e
ends_late ts until now name latest (By time task (End used) ∷ told) o e
    = by (same_name task name) e (λ h. omega (arith, o.0, ends_late ts until time name latest told o.3 h))
  where
    by : (b : Bool) → Either b (time ≤ latest) (EndsBy name latest told) → (EndsBy name latest told → now ≤ latest) → now ≤ latest
    by true h later = omega (arith, o.0, h)
    by false h later = later h
ends_late ts until now name latest (By time task (Release value) ∷ told) o e = omega (arith, o.0, ends_late ts until time name latest told o.3 e)
ends_late ts until now name latest (By time task (Arrive value) ∷ told) o e = omega (arith, o.0, ends_late ts until time name latest told o.3 e)
ends_late ts until now name latest (By time task (Enter op values) ∷ told) o e = omega (arith, o.0, ends_late ts until time name latest told o.3 e)
ends_late ts until now name latest (By time task (Leave op values) ∷ told) o e = omega (arith, o.0, ends_late ts until time name latest told o.3 e)
ends_late ts until now name latest (By time task (Request target value) ∷ told) o e
    = omega (arith, o.0, ends_late ts until time name latest told o.3 e)
ends_late ts until now name latest (By time task (Print value) ∷ told) o e = omega (arith, o.0, ends_late ts until time name latest told o.3 e)
ends_late ts until now name latest (By time task (Stop object priority ceiling) ∷ told) o e
    = omega (arith, o.0, ends_late ts until time name latest told o.3 e)
ends_late ts until now name latest (Horizon time ∷ told) o e = absurd (subst (EndsBy name latest) o.2 e)

module _ (ts : List Task) (until : ℕ) (name : Name) (ticks separation jitter : ℕ) (some : 1 ≤ ticks) (short : ticks + jitter ≤ separation) where
  abbrev r : Response
  r = record { thread = name; ticks = ticks }

  -- the end of the activation is told by this time
  abbrev Ends : ℕ → List Event → Type 0
  Ends latest told = latest ≤ until → EndsBy name latest told

  -- what is known of a request that is pending, or of an activation
  abbrev Good : ℕ → Option Pending → Option ℕ → ℕ → List Event → Type 0
  Good now None (Some since) least told = since ≤ now
  Good now (Some first) (Some since) least told = (since ≤ first.time) × (first.time ≤ now) × (first.time + ticks + jitter ≤ least)
  Good now None None least told = (latest : ℕ) × Ends latest told × (latest + jitter ≤ least)
  Good now (Some first) None least told = (latest : ℕ) × Ends latest told × (latest ≤ first.time) × (first.time ≤ now)
      × (first.time + ticks + jitter ≤ least)

  -- a request that is pending, before others
  abbrev front : Option Pending → List ℕ → List ℕ
  front None xs = xs
  front (Some first) xs = first.time ∷ xs

  -- none overruns another, and each release is at the time of its request
  abbrev Both : Option Pending → List Notice → Type 0
  Both pending ns = NeverOverruns (is_pending pending) ns × Begins (taken ns) (front pending (asked ns))

  -- what is to be shown of events
  abbrev Never : ℕ → ℕ → Option Pending → Option ℕ → List Event → Type 0
  Never now least pending idle told =
      Responds until told r → KeepTime separation jitter least (asked (notices name told)) → ServedWhile pending idle (notices name told)
      → Good now pending idle least told
      → Both pending (notices name told)

  -- an event that is nothing to the thread
  good_later : (now time : ℕ) (pending : Option Pending) (idle : Option ℕ) (least : ℕ) (e : Event) (told : List Event) → now ≤ time
      → ((latest : ℕ) → EndsBy name latest (e ∷ told) → EndsBy name latest told)
      → Good now pending idle least (e ∷ told) → Good time pending idle least told
  good_later now time None (Some since) least e told h f g = omega (arith, h, g)
  good_later now time (Some first) (Some since) least e told h f g = (g.0, omega (arith, h, g.1), g.2)
  good_later now time None None least e told h f g = (g.0, (λ early. f g.0 (g.1 early)), g.2)
  good_later now time (Some first) None least e told h f g = (g.0, (λ early. f g.0 (g.1 early)), g.2, omega (arith, h, g.3), g.4)

  -- a request
  by_asked : (now time least : ℕ) (value : Option ℕ) (pending : Option Pending) (idle : Option ℕ) (e : Event) (told : List Event) → now ≤ time
      → IsInOrder ts until time told
      → ((latest : ℕ) → EndsBy name latest (e ∷ told) → EndsBy name latest told) → Responds until told r
      → KeepTime separation jitter least (time ∷ asked (notices name told)) → ServedWhile pending idle (Asked time value ∷ notices name told)
      → Good now pending idle least (e ∷ told)
      → ((pending' : Option Pending) (idle' : Option ℕ) (least' : ℕ) → Never time least' pending' idle' told)
      → Both pending (Asked time value ∷ notices name told)
  by_asked now time least value None (Some since) e told h order f responds keeps served good later =
      let more : Both (Some (record { time = time; value = value })) (notices name told) =
      later (Some (record { time = time; value = value })) (Some since) (max time least + separation) responds keeps.1 served
      (omega (arith, good, h), omega arith, omega (arith, short)) in
      ((refl, more.0), more.1)
  by_asked now time least value None None e told h order f responds keeps served good later =
      let more : Both (Some (record { time = time; value = value })) (notices name told) =
      later (Some (record { time = time; value = value })) None (max time least + separation) responds keeps.1 served
      (good.0, (λ early. f good.0 (good.1 early)), omega (arith, good.2, keeps.0), omega arith, omega (arith, short)) in
      ((refl, more.0), more.1)
  by_asked now time least value (Some first) (Some since) e told h order f responds keeps served good later = absurd served
  by_asked now time least value (Some first) None e told h order f responds keeps served good later =
      let last : time ≤ until = order_until ts until time told order in
      let soon : time ≤ good.0 = ends_late ts until time name good.0 told order (f good.0 (good.1 (omega (arith, good.2, good.3, h, last)))) in
      absurd (omega (arith, soon, good.2, good.4, keeps.0, some))

  -- a release
  by_taken : (now time least : ℕ) (value : Option ℕ) (pending : Option Pending) (idle : Option ℕ) (told : List Event) → now ≤ time
      → Ends (time + ticks) told → Responds until told r
      → KeepTime separation jitter least (asked (notices name told)) → ServedWhile pending idle (Taken time value ∷ notices name told) → (e : Event)
      → Good now pending idle least (e ∷ told)
      → ((pending' : Option Pending) (idle' : Option ℕ) (least' : ℕ) → Never time least' pending' idle' told)
      → Both pending (Taken time value ∷ notices name told)
  by_taken now time least value (Some first) (Some since) told h ends responds keeps served e good later =
      let more : Both None (notices name told)
      = later None None least responds keeps served.2 (time + ticks, ends, omega (arith, served.0, good.0, good.2)) in
      (more.0, (omega (arith, served.0, good.0), more.1))
  by_taken now time least value None None told h ends responds keeps served e good later = absurd served
  by_taken now time least value None (Some since) told h ends responds keeps served e good later = absurd served
  by_taken now time least value (Some first) None told h ends responds keeps served e good later = absurd served

  -- an end
  by_done : (now time least : ℕ) (pending : Option Pending) (idle : Option ℕ) (told : List Event) → now ≤ time → time ≤ until → Responds until told r
      → KeepTime separation jitter least (asked (notices name told)) → ServedWhile pending idle (Done time ∷ notices name told) → (e : Event)
      → ((latest : ℕ) → EndsBy name latest (e ∷ told) → time ≤ latest) → Good now pending idle least (e ∷ told)
      → ((pending' : Option Pending) (idle' : Option ℕ) (least' : ℕ) → Never time least' pending' idle' told)
      → Both pending (Done time ∷ notices name told)
  by_done now time least None (Some since) told h last responds keeps served e f good later
      = later None (Some since) least responds keeps served (omega (arith, good, h))
  by_done now time least None None told h last responds keeps served e f good later = later None (Some time) least responds keeps served (omega arith)
  by_done now time least (Some first) (Some since) told h last responds keeps served e f good later
      = later (Some first) (Some since) least responds keeps served (good.0, omega (arith, good.1, h), good.2)
  by_done now time least (Some first) None told h last responds keeps served e f good later =
      let soon : time ≤ good.0 = f good.0 (good.1 (omega (arith, good.2, good.3, h, last))) in
      later (Some first) (Some time) least responds keeps served (omega (arith, soon, good.2), omega (arith, good.3, h), good.4)

  -- events in order
  never : (told : List Event) (now least : ℕ) (pending : Option Pending) (idle : Option ℕ) → IsInOrder ts until now told
      → Never now least pending idle told
  never [] now least pending idle o responds keeps served good = absurd o
  never (Horizon time ∷ told) now least pending idle o responds keeps served good
      = subst (λ more. Both pending (notices name more)) (sym o.2) (tt, tt)
  never (By time task (Print value) ∷ told) now least pending idle o responds keeps served good =
      never told time least pending idle o.3 responds keeps served (good_later now time pending idle least _ told o.0 (λ latest h. h) good)
  never (By time task (Enter op values) ∷ told) now least pending idle o responds keeps served good =
      never told time least pending idle o.3 responds keeps served (good_later now time pending idle least _ told o.0 (λ latest h. h) good)
  never (By time task (Leave op values) ∷ told) now least pending idle o responds keeps served good =
      never told time least pending idle o.3 responds keeps served (good_later now time pending idle least _ told o.0 (λ latest h. h) good)
  never (By time task (Stop object priority ceiling) ∷ told) now least pending idle o responds keeps served good =
      never told time least pending idle o.3 responds keeps served (good_later now time pending idle least _ told o.0 (λ latest h. h) good)
  never (By time task (Arrive value) ∷ told) now least pending idle o responds keeps served good =
      by (same_name task name) keeps served (λ pending' idle' least'. never told time least' pending' idle' o.3)
    where
      by : (b : Bool) → KeepTime separation jitter least (asked (cons_option (only_if b (Asked time value)) (notices name told)))
          → ServedWhile pending idle (cons_option (only_if b (Asked time value)) (notices name told))
          → ((pending' : Option Pending) (idle' : Option ℕ) (least' : ℕ) → Never time least' pending' idle' told)
          → Both pending (cons_option (only_if b (Asked time value)) (notices name told))
      by true k s later = by_asked now time least value pending idle (By time task (Arrive value)) told o.0 o.3
          (λ latest h. h) responds k s good later
      by false k s later = later pending idle least responds k s (good_later now time pending idle least (By time task (Arrive value)) told o.0
          (λ latest h. h) good)
  never (By time task (Request target value) ∷ told) now least pending idle o responds keeps served good =
      by (same_name target name) keeps served (λ pending' idle' least'. never told time least' pending' idle' o.3)
    where
      by : (b : Bool) → KeepTime separation jitter least (asked (cons_option (only_if b (Asked time value)) (notices name told)))
          → ServedWhile pending idle (cons_option (only_if b (Asked time value)) (notices name told))
          → ((pending' : Option Pending) (idle' : Option ℕ) (least' : ℕ) → Never time least' pending' idle' told)
          → Both pending (cons_option (only_if b (Asked time value)) (notices name told))
      by true k s later = by_asked now time least value pending idle (By time task (Request target value)) told o.0 o.3
          (λ latest h. h) responds k s good later
      by false k s later = later pending idle least responds k s (good_later now time pending idle least
          (By time task (Request target value)) told o.0 (λ latest h. h) good)
  never (By time task (Release value) ∷ told) now least pending idle o responds keeps served good =
      by (same_name task name) responds.0 keeps served (λ pending' idle' least'. never told time least' pending' idle' o.3)
    where
      by : (b : Bool) → Either b (time + ticks ≤ until → EndsBy name (time + ticks) told) ⊤
          → KeepTime separation jitter least (asked (cons_option (only_if b (Taken time value)) (notices name told)))
          → ServedWhile pending idle (cons_option (only_if b (Taken time value)) (notices name told))
          → ((pending' : Option Pending) (idle' : Option ℕ) (least' : ℕ) → Never time least' pending' idle' told)
          → Both pending (cons_option (only_if b (Taken time value)) (notices name told))
      by true e k s later = by_taken now time least value pending idle told o.0 e responds.1 k s (By time task (Release value)) good later
      by false e k s later = later pending idle least responds.1 k s
          (good_later now time pending idle least (By time task (Release value)) told o.0 (λ latest h. h) good)
  never (By time task (End used) ∷ told) now least pending idle o responds keeps served good =
      by (same_name task name) refl keeps served (λ pending' idle' least'. never told time least' pending' idle' o.3)
    where
      by : (b : Bool) → same_name task name ≡ b → KeepTime separation jitter least (asked (cons_option (only_if b (Done time)) (notices name told)))
          → ServedWhile pending idle (cons_option (only_if b (Done time)) (notices name told))
          → ((pending' : Option Pending) (idle' : Option ℕ) (least' : ℕ) → Never time least' pending' idle' told)
          → Both pending (cons_option (only_if b (Done time)) (notices name told))
      by true is k s later =
          by_done now time least pending idle told o.0 (order_until ts until time told o.3) responds k s (By time task (End used))
          (λ latest h. let E : Bool → Type 0 = λ b. Either b (time ≤ latest) (EndsBy name latest told) in subst E is h) good later
      by false is k s later =
          later pending idle least responds k s
          (good_later now time pending idle least (By time task (End used)) told o.0 (λ latest h. let E : Bool
          → Type 0 = λ b. Either b (time ≤ latest) (EndsBy name latest told) in subst E is h) good)

  -- from the opening
  pub never_overruns : (told : List Event) → IsInOrder ts until 0 told → Responds until told r
      → KeepTime separation jitter 0 (asked (notices name told)) → ServedWhile None (Some 0) (notices name told)
      → NeverOverruns false (notices name told)
  never_overruns told o responds keeps served = (never told 0 0 None (Some 0) o responds keeps served (omega arith)).0

  -- the releases keep time as the requests do
  pub releases_keep : (told : List Event) → IsInOrder ts until 0 told → Responds until told r
      → KeepTime separation jitter 0 (asked (notices name told)) → ServedWhile None (Some 0) (notices name told)
      → KeepTime separation jitter 0 (taken (notices name told))
  releases_keep told o responds keeps served =
      begins_keep separation jitter 0 (taken (notices name told)) (asked (notices name told))
      (never told 0 0 None (Some 0) o responds keeps served (omega arith)).1 keeps
