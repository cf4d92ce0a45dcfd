-- An arrival is the next request from outside for its task; what is known of other tasks stays.
use Rattle.std.specs.Prelude.{◌≡◌, ◌≢◌, ℕ, ◌+◌, ◌-◌, ◌≤◌, max, Bool, true, false, List, [], ◌∷◌, ◌++◌, slice_get, Option, Some, None, refl}
use Rattle.std.proofs.Common.{sym, ◌∙◌, ap, subst, arith, le_refl}
use Rattle.std.proofs.lemmas.Bool.{false≢true}
use Rattle.seq_tree.specs.Operations.{Signature}
use Rattle.arrivals_tree.specs.declared.arrivals.Arrival.{Arrival}
use Rattle.arrivals_tree.specs.Acceptance.{next_nominal, nominal, earlier_times}
use Rattle.rt_response.specs.declared.rows.ThreadRow.{ThreadRow}
use Rattle.machine.specs.Systems.{ReleasePattern, Periodic, Requested}
use Rattle.machine.specs.States.{Phase}
use Rattle.law_responses.proofs.Logs.{Made, Log, OfRow}
use Rattle.law_calls.proofs.Shared.Remaining.{rest}
use Rattle.law_responses.proofs.Views.{Core, View, opened_core, changed}
use Rattle.law_responses.proofs.Frames.{Frame, requests_measure, HasRow, quota, none-of, IsAsked, IsTabled, IsFramed, KeepsApart, AreKeptApart}
use Rattle.law_responses.proofs.Frames.{Kept, Notes}
use Rattle.law_responses.proofs.Base.{Base, written-at, put}
use Rattle.law_responses.proofs.Asking.{Came, Awaits, Wait, wait_of, Asked, Asking}
use Rattle.law_responses.proofs.AskingMoves.{NoMid}
use Rattle.law_responses.proofs.AskingRequests.{asking-noted}
use Rattle.law_calls.proofs.Shared.Nominals.{nominal-behind, earlier-here, earlier-else}
use Rattle.law_lists.proofs.Shared.Places.{same-item}

came-else : (f : Frame) (acts : List Made) (taken : List Arrival) (a : Arrival) (row : ThreadRow) (unit : ℕ) (external : Bool) (separation jitter : ℕ)
    (kept : Option Kept) → a.task ≢ unit
    → Came f acts taken row unit external separation jitter kept → Came f acts (taken ++ a ∷ []) row unit external separation jitter kept
came-else f acts taken a row unit true separation jitter None differ h = ap (nominal separation None) (earlier-else unit taken a differ) ∙ h
came-else f acts taken a row unit true separation jitter (Some q) differ h =
    record { last = h.last; is = ap (nominal separation None) (earlier-else unit taken a differ) ∙ h.is; shifted = h.shifted; near = h.near }
came-else f acts taken a row unit false separation jitter None differ h = h
came-else f acts taken a row unit false separation jitter (Some q) differ h = h

asked-else : (f : Frame) (phase : Phase) (time : ℕ) (acts : List Made) (taken : List Arrival) (a : Arrival) (kept : Option Kept) (r : ℕ) (w : Wait)
    (row : ThreadRow) (t : ReleasePattern) → a.task ≢ w.unit
    → Asked f phase time acts taken kept r w row t → Asked f phase time acts (taken ++ a ∷ []) kept r w row t
asked-else f phase time acts taken a kept r w row (Periodic offset period) differ h = h
asked-else f phase time acts taken a kept r w row (Requested op ceiling separation jitter external) differ h =
    (h.0, came-else f acts taken a row w.unit external separation jitter kept differ h.1, h.2)

-- an arrival for no task with a row
pub asking-arrives-else : (f : Frame) (v : View) (l : Log) (n : Notes) (a : Arrival) (others : List Arrival) → Asking f v l n
    → v.arrivals ≡ a ∷ others
    → ((j r : ℕ) (c : Core) → HasRow f j r → slice_get v.cores j ≡ Some c → a.task ≢ c.thread.unit)
    → Asking f (record v { arrivals = others }) l (record n { taken = n.taken ++ a ∷ [] })
asking-arrives-else f v l n a others asking is differ = record {
  timed = asking.timed;
  of = λ j c e.
      let b = asking.of j c e in
      record {
        tidy = b.tidy;
        few = b.few;
        mid = b.mid;
        fresh = b.fresh;
        asked = λ r row has asks. asked-else f v.phase v.time l.acts n.taken a (n.kept j) r (wait_of c) row c.thread.timing (differ j r c has
            e) (b.asked r row has asks);
      };
  apart = (subst (AreKeptApart f.system.threads n.taken) is asking.apart).1;
}

-- the nominal time of an arrival, with the jitter
abbrev pub arrival_nominal : ℕ → List Arrival → Arrival → ℕ
arrival_nominal separation taken a = next_nominal separation (nominal separation None (earlier_times a.task taken)) a.time

-- the request that an arrival is
abbrev pub request_arrived : ℕ → ℕ → ℕ → List Arrival → Arrival → Kept
request_arrived shift separation jitter taken a = record {
  nominal = shift + arrival_nominal separation taken a - jitter;
  asked = a.time;
  source = None;
}

next-least : (separation : ℕ) (o : Option ℕ) (time : ℕ) → time ≤ next_nominal separation o time
next-least separation None time = le_refl time
next-least separation (Some x) time = omega arith

-- what is known of the task that an arrival is for
asked-arrived : (f : Frame) (phase : Phase) (acts : List Made) (taken : List Arrival) (a : Arrival) (kept : Option Kept) (j r : ℕ) (w : Wait)
    (row : ThreadRow) (op : Signature) (ceiling separation jitter : ℕ)
    → a.task ≡ w.unit → IsAsked f j row (Requested op ceiling separation jitter true) → arrival_nominal separation taken a ≤ a.time + jitter
    → Asked f phase a.time acts taken kept r w row (Requested op ceiling separation jitter true)
    → Asked f phase a.time acts (taken ++ a ∷ []) (Some (request_arrived f.shift separation jitter taken a)) r (record w { open' = true }) row
    (Requested op ceiling separation jitter true)
asked-arrived f phase acts taken a kept j r w row op ceiling separation jitter same asks near asked =
    let x : ℕ = arrival_nominal separation taken a in
    let least : a.time ≤ arrival_nominal separation taken a = next-least separation (nominal separation None (earlier_times a.task taken)) a.time in
    let shift : jitter ≤ f.shift = asks.3 in
    let earlier : OfRow acts r (λ m. m.nominal + row.period ≤ f.shift + arrival_nominal separation taken a - jitter)
    = before kept asked.0 asked.1 in (
      record {
        asked = omega (arith, near, shift);
        past = le_refl a.time;
        before = λ k m e is. let one : m.nominal + row.period ≤ f.shift + arrival_nominal separation taken a - jitter = earlier k m e is
            in omega (arith, one);
        apart = λ e. earlier;
      },
      record {
        last = arrival_nominal separation taken a;
        is = ap (λ u. nominal separation None (earlier_times u (taken ++ a ∷ []))) (sym same)
            ∙ ap (nominal separation None) (earlier-here a.task taken a refl) ∙ nominal-behind separation None (earlier_times a.task taken) a.time;
        shifted = omega (arith, shift);
        near = omega (arith, shift, least);
      },
      asked.2,
    )
  where
    before : (o : Option Kept) → Awaits f a.time acts r w.open' row o → Came f acts taken row w.unit true separation jitter o
        → OfRow acts r (λ m. m.nominal + row.period ≤ f.shift + arrival_nominal separation taken a - jitter)
    before None awaits came k m e is = absurd (awaits.0 k m e is)
    before (Some q) awaits came k m e is =
        let early : m.nominal ≤ q.nominal = awaits.before k m e is in
        let shifted : q.nominal + jitter ≡ f.shift + came.last = came.shifted in
        let known : nominal separation None (earlier_times a.task taken) ≡ Some came.last
        = ap (λ u. nominal separation None (earlier_times u taken)) same ∙ came.is in
        let next : arrival_nominal separation taken a ≡ max a.time (came.last + separation) = ap (λ o. next_nominal separation o a.time) known in
        omega (arith, early, shifted, next, asks.1, asks.3)

-- an arrival for a task with a row
pub asking-arrives : (f : Frame) (v : View) (l : Log) (n : Notes) (a : Arrival) (others : List Arrival) (j r : ℕ) (c : Core) → IsFramed f
    → Base f v l n.current → Asking f v l n → NoMid f v
    → v.arrivals ≡ a ∷ others → v.time ≡ a.time → HasRow f j r → slice_get v.cores j ≡ Some c → c.thread.unit ≡ a.task
    → (q : Kept) × Asking f (record (changed j opened_core v) { arrivals = others }) l
    (record n { kept = put j (Some q) n.kept; taken = n.taken ++ a ∷ [] }) × (q.asked ≡ v.time)
asking-arrives f v l n a others j r c framed base asking no_mid is now has here unit =
    go c.thread.timing refl tabled.asked (known.0 j c.thread written unit) ((asking.of j c here).asked r tabled.row has tabled.asks)
  where
    written : slice_get f.system.threads j ≡ Some c.thread
    written = written-at base.written j c here

    tabled : IsTabled f j r c.thread
    tabled = framed.tabled j r c.thread has (written-at base.written j c here)

    known : AreKeptApart f.system.threads n.taken (a ∷ others)
    known = subst (AreKeptApart f.system.threads n.taken) is asking.apart

    Goal : Type 0
    Goal = (q : Kept) × Asking f (record (changed j opened_core v) { arrivals = others }) l
        (record n { kept = put j (Some q) n.kept; taken = n.taken ++ a ∷ [] }) × (q.asked ≡ v.time)

    with_request : (q : Kept) → q.asked ≡ v.time → f.starter_of j ≡ None
        → Asked f v.phase v.time l.acts (n.taken ++ a ∷ []) (Some q) r (wait_of (opened_core c)) tabled.row c.thread.timing → Goal
    with_request q at_now none own_asked = (
      q,
      asking-noted f (record v { arrivals = others }) l n j q (n.taken ++ a ∷ []) asking.timed known.1
          (λ i d e.
          let b = asking.of i d e in
          record {
            tidy = b.tidy;
            few = b.few;
            mid = λ k s has' ends. absurd (no_mid i k s d e has' ends);
            spent = let few : rest (requests_measure f j) d.pieces ≤ quota f j i = b.few j r has in omega (arith, few, none-of f j i none);
            fresh = b.fresh;
          })
          (λ i s d line far has' e asks.
          let written_i : slice_get f.system.threads i ≡ Some d.thread = written-at base.written i d e in
          let differ : a.task ≢ d.thread.unit
          = λ same. far (framed.units i j d.thread c.thread written_i (written-at base.written j c here) (sym same ∙ sym unit)) in
          asked-else f v.phase v.time l.acts n.taken a (n.kept i) s (wait_of d) line d.thread.timing differ
          ((asking.of i d e).asked s line has' asks))
          (λ s d line has' e asks.
          let one : c ≡ d = same-item (slice_get v.cores j) c d here e in
          let rows_same : r ≡ s = same-item (f.row_of j) r s has has' in
          let line_same : tabled.row ≡ line
          = same-item (slice_get f.rows s) tabled.row line (subst (λ z. slice_get f.rows z ≡ Some tabled.row) rows_same tabled.asks) asks in
          subst (λ x. Asked f v.phase v.time l.acts (n.taken ++ a ∷ []) (Some q) s (wait_of (opened_core x)) line x.thread.timing) one
          (subst (λ x. Asked f v.phase v.time l.acts (n.taken ++ a ∷ []) (Some q) s (wait_of (opened_core c)) x c.thread.timing) line_same
          (subst (λ z. Asked f v.phase v.time l.acts (n.taken ++ a ∷ []) (Some q) z (wait_of (opened_core c)) tabled.row c.thread.timing) rows_same
          own_asked))),
      at_now,
    )

    go : (t : ReleasePattern) → c.thread.timing ≡ t → IsAsked f j tabled.row t → KeepsApart t n.taken a
        → Asked f v.phase v.time l.acts n.taken (n.kept j) r (wait_of c) tabled.row t → Goal
    go (Periodic offset period) e asks apart asked = absurd apart
    go (Requested op ceiling separation jitter external) e asks apart asked = by external apart.0 e asks apart asked
      where
        by : (x : Bool) → x ≡ true → c.thread.timing ≡ Requested op ceiling separation jitter x
            → IsAsked f j tabled.row (Requested op ceiling separation jitter x)
            → KeepsApart (Requested op ceiling separation jitter x) n.taken a
            → Asked f v.phase v.time l.acts n.taken (n.kept j) r (wait_of c) tabled.row (Requested op ceiling separation jitter x) → Goal
        by false x e asks apart asked = absurd (false≢true x)
        by true x e asks apart asked =
            let q : Kept = request_arrived f.shift separation jitter n.taken a in
            let at_a : Asked f v.phase a.time l.acts n.taken (n.kept j) r (wait_of c) tabled.row (Requested op ceiling separation jitter true) =
            subst (λ z. Asked f v.phase z l.acts n.taken (n.kept j) r (wait_of c) tabled.row (Requested op ceiling separation jitter true))
            now asked in
            let arrived : Asked f v.phase a.time l.acts (n.taken ++ a ∷ []) (Some q) r (wait_of (opened_core c)) tabled.row
            (Requested op ceiling separation jitter true) =
            asked-arrived f v.phase l.acts n.taken a (n.kept j) j r (wait_of c) tabled.row op ceiling separation jitter
            (sym unit) asks apart.1 at_a in
            with_request q (sym now) asks.4
            (subst (λ t. Asked f v.phase v.time l.acts (n.taken ++ a ∷ []) (Some q) r (wait_of (opened_core c)) tabled.row t) (sym e)
            (subst (λ z. Asked f v.phase z l.acts (n.taken ++ a ∷ []) (Some q) r (wait_of (opened_core c)) tabled.row
            (Requested op ceiling separation jitter true)) (sym now) arrived))
