-- A request: the control structure of a task opens, and what is kept there is for its next activation.
use Rattle.std.specs.Prelude.{◌≡◌, ◌≢◌, ◌⊎◌, ℕ, ◌+◌, ◌≤◌, Bool, true, false, List, [], ◌∷◌, length, slice_get, Option, Some, None, refl}
use Rattle.std.proofs.Common.{sym, ◌∙◌, ap, subst, arith, inl, inr, le_refl}
use Rattle.std.proofs.lemmas.Bool.{cases_eq}
use Rattle.std.proofs.lemmas.Option.{none-some}
use Rattle.arrivals_tree.specs.declared.arrivals.Arrival.{Arrival}
use Rattle.rt_response.specs.declared.rows.ThreadRow.{ThreadRow}
use Rattle.machine.specs.Systems.{ReleasePattern, Periodic, Requested}
use Rattle.machine.specs.Pieces.{Piece, Opening}
use Rattle.machine.specs.Pieces as piece
use Rattle.machine.specs.States.{Phase, Effects, Ready}
use Rattle.law_responses.proofs.Logs.{Made, Log, OfRow, IsOpenAt, IsTimed, IsTimely}
use Rattle.law_calls.proofs.Shared.Remaining.{rest}
use Rattle.law_responses.proofs.Views.{Core, View, Now, now_of, on_with, first_ticks, opened_core, changed}
use Rattle.law_responses.proofs.Frames.{Frame, requests_measure, HasRow, one_at, one-here, quota_by, quota, other-of, IsAsked, IsTabled, IsFramed}
use Rattle.law_responses.proofs.Frames.{AreKeptApart, Kept, Notes, EndsRequest}
use Rattle.law_responses.proofs.Tidy.{Tidy, EndsOf, barrier-tidy, barrier-ends}
use Rattle.law_responses.proofs.Base.{Busy, Base, written-at, put, put-here, put-other}
use Rattle.law_responses.proofs.Asking.{Awaits, Wait, wait_of, Asked, IsMid, IsFresh, AreFresh, Asks, Asking}
use Rattle.law_responses.proofs.AskingMoves.{fresh-less}
use Rattle.law_lists.proofs.Shared.Places.{same-item, each-changed, each-changed-one}

-- a task just before a request of another is noted: if it made the request, the end of it comes next, and it makes no more of them
pub record IsReady (f : Frame) (now : Now) (acts : List Made) (n : Notes) (k : ℕ) (q : Kept) (j : ℕ) (c : Core) : Type 0 where
  pub tidy : Tidy c.pieces
  pub few : (z s : ℕ) → HasRow f z s → rest (requests_measure f z) c.pieces ≤ quota f z j
  pub mid : (z s : ℕ) → HasRow f z s → EndsRequest z c.pieces → (z ≡ k) × IsMid now (Some q) j c.left
  pub spent : rest (requests_measure f k) c.pieces ≡ 0
  pub fresh : (r : ℕ) → HasRow f j r → c.readiness ≡ Ready → AreFresh f acts n j c.pieces

-- the request is noted
pub asking-noted : (f : Frame) (v : View) (l : Log) (n : Notes) (k : ℕ) (q : Kept) (taken : List Arrival) → IsTimed f.rows f.shift l
    → AreKeptApart f.system.threads taken v.arrivals
    → ((j : ℕ) (c : Core) → slice_get v.cores j ≡ Some c → IsReady f (now_of v) l.acts n k q j c)
    → ((j r : ℕ) (c : Core) (row : ThreadRow) → j ≢ k → HasRow f j r → slice_get v.cores j ≡ Some c → slice_get f.rows r ≡ Some row
    → Asked f v.phase v.time l.acts taken (n.kept j) r (wait_of c) row c.thread.timing)
    → ((r : ℕ) (c : Core) (row : ThreadRow) → HasRow f k r → slice_get v.cores k ≡ Some c → slice_get f.rows r ≡ Some row
    → Asked f v.phase v.time l.acts taken (Some q) r (wait_of (opened_core c)) row c.thread.timing)
    → Asking f (changed k opened_core v) l (record n { kept = put k (Some q) n.kept; taken = taken })
asking-noted f v l n k q taken timed apart ready others own = record {
  timed = timed;
  of = each-changed (Asks f (now_of v) l.acts n') k opened_core v.cores
      (λ j d other e. note j d d.open' (ready j d e) (λ r row has asks.
      subst (λ o. Asked f v.phase v.time l.acts taken o r (wait_of d) row d.thread.timing) (sym (put-other k j (Some q) n.kept other))
      (others j r d row other has e asks)))
      (λ x e. note k x true (ready k x e) (λ r row has asks.
      subst (λ o. Asked f v.phase v.time l.acts taken o r (wait_of (opened_core x)) row x.thread.timing) (sym
      (put-here k k (Some q) n.kept refl)) (own r x row has e asks)));
  apart = apart;
}
  where
    n' : Notes
    n' = record n { kept = put k (Some q) n.kept; taken = taken }

    note : (j : ℕ) (c : Core) (open' : Bool) → IsReady f (now_of v) l.acts n k q j c
        → ((r : ℕ) (row : ThreadRow) → HasRow f j r → slice_get f.rows r ≡ Some row
        → Asked f v.phase v.time l.acts taken (put k (Some q) n.kept j) r (wait_of (record c { open' = open' })) row c.thread.timing)
        → Asks f (now_of v) l.acts (record n { kept = put k (Some q) n.kept; taken = taken }) j (record c { open' = open' })
    note j c open' before asked = record {
      tidy = before.tidy;
      few = before.few;
      mid = λ z s has begins.
          let mid = before.mid z s has begins in
          subst (λ o. IsMid (now_of v) o j c.left) (sym (put-here k z (Some q) n.kept mid.0)) mid.1;
      fresh = λ r has rdy z s target p m also asks was_kept at. fresh r has rdy z s target p m also asks was_kept at (cases_eq z k);
      asked = asked;
    }
      where
        fresh : (r : ℕ) → HasRow f j r → c.readiness ≡ Ready → (z s : ℕ) (target : ThreadRow) (p : Kept) (m : Made) → HasRow f z s
            → slice_get f.rows s ≡ Some target
            → put k (Some q) n.kept z ≡ Some p → slice_get l.acts (n.current j) ≡ Some m → (z ≡ k) ⊎ (z ≢ k) → IsFresh f z c.pieces target p m.nominal
        fresh r has rdy z s target p m also asks was_kept at (inl same)
            = inl (subst (λ x. rest (requests_measure f x) c.pieces ≡ 0) (sym same) before.spent)
        fresh r has rdy z s target p m also asks was_kept at (inr differ)
            = before.fresh r has rdy z s target p m also asks (sym (put-other k z (Some q) n.kept differ) ∙ was_kept) at

-- activations of the target are for requests before the one that comes now
earlier-than : (f : Frame) (time : ℕ) (acts : List Made) (s : ℕ) (open' : Bool) (target : ThreadRow) (kept : Option Kept) (m : Made)
    → Awaits f time acts s open' target kept
    → ((q : Kept) → kept ≡ Some q → q.nominal + target.period ≤ m.nominal) → OfRow acts s (λ x. x.nominal + target.period ≤ m.nominal)
earlier-than f time acts s open' target None m awaits fresh k x e same = absurd (awaits.0 k x e same)
earlier-than f time acts s open' target (Some q) m awaits fresh k x e same =
    let before : x.nominal ≤ q.nominal = awaits.before k x e same in
    omega (arith, before, fresh q refl)

-- the request that an activation makes now
abbrev pub request_now : ℕ → ℕ → Made → Kept
request_now time place m = record { nominal = m.nominal; asked = time; source = Some place }

-- what is known of the target by its timing after the request
asked-now : (f : Frame) (phase : Phase) (time : ℕ) (acts : List Made) (taken : List Arrival) (kept : Option Kept) (k i s r place : ℕ) (w : Wait)
    (target : ThreadRow) (m : Made) (t : ReleasePattern)
    → f.starter_of k ≡ Some i → HasRow f i r → slice_get acts place ≡ Some m → m.row ≡ r → m.over ≡ None → m.nominal ≤ f.shift + time
    → m.release ≤ time
    → ((q : Kept) → kept ≡ Some q → q.nominal + target.period ≤ m.nominal)
    → IsAsked f k target t → Asked f phase time acts taken kept s w target t
    → Asked f phase time acts taken (Some (request_now time place m)) s (record w { open' = true }) target t
asked-now f phase time acts taken kept k i s r place w target m (Periodic offset period) starts has stands of_row unended near past fresh asks asked
    = absurd (none-some i (sym asks.1 ∙ starts))
asked-now f phase time acts taken kept k i s r place w target m (Requested op ceiling separation jitter true) starts has stands of_row unended near
    past fresh asks asked = absurd (none-some i (sym asks.4 ∙ starts))
asked-now f phase time acts taken kept k i s r place w target m (Requested op ceiling separation jitter false) starts has stands of_row unended near
    past fresh asks asked =
    let earlier : OfRow acts s (λ y. y.nominal + target.period ≤ m.nominal) = earlier-than f time acts s w.open' target kept m asked.0 fresh in
    let from : asks.1 ≡ i = same-item (f.starter_of k) asks.1 i asks.7 starts in
    let row_is : asks.0 ≡ r = same-item (f.row_of i) asks.0 r (subst (λ z. f.row_of z ≡ Some asks.0) from asks.3) has in (
      record {
        asked = near;
        past = le_refl time;
        before = λ j y e is. let before : y.nominal + target.period ≤ m.nominal = earlier j y e is in omega (arith, before);
        apart = λ opens. earlier;
      },
      record {
        place = place;
        made = m;
        source = refl;
        stands = stands;
        starter = asks.4 ∙ ap Some (row_is ∙ sym of_row);
        same = refl;
        after = past;
        during = subst (IsOpenAt time) (sym unended) tt;
      },
      asked.2,
    )

none-left : (f : Frame) (k works : ℕ) (durations : List ℕ) (qs : List Piece) → EndsOf k qs → first_ticks f.system.costs durations works qs ≡ 0
none-left f k works durations [] h = refl
none-left f k works durations (piece.Requested other value ∷ ps) h = refl
none-left f k works durations (_ ∷ ps) h = absurd h

-- the starter opens the control structure of the task that it requests
pub asking-opens : (f : Frame) (v : View) (l : Log) (n : Notes) (i r k s : ℕ) (c : Core) (m : Made) (qs : List Piece) → IsFramed f
    → Base f v l n.current → Asking f v l n
    → HasRow f i r → HasRow f k s → f.starter_of k ≡ Some i → slice_get v.cores i ≡ Some c → c.readiness ≡ Ready → c.pieces ≡ Opening k ∷ qs
    → EndsOf k qs
    → v.phase ≡ Effects → v.ran ≡ Some i → slice_get l.acts (n.current i) ≡ Some m
    → Asking f (changed k opened_core (changed i (on_with f.system.costs qs) v)) l
    (record n { kept = put k (Some (request_now v.time (n.current i) m)) n.kept })
asking-opens f v l n i r k s c m qs framed base asking has has_k starts here ready is ends effects ran at =
    asking-noted f (changed i (on_with f.system.costs qs) v) l n k q n.taken asking.timed asking.apart
    (each-changed-one (IsReady f (now_of v) l.acts n k q) i (on_with f.system.costs qs) v.cores c here
    (λ j d other e. elsewhere j d other (asking.of j d e)) own)
    (λ j u d line other has' e asks.
    each-changed-one (λ j x. (u : ℕ) (line : ThreadRow) → HasRow f j u → slice_get f.rows u ≡ Some line
    → Asked f v.phase v.time l.acts n.taken (n.kept j) u (wait_of x) line x.thread.timing)
    i (on_with f.system.costs qs) v.cores c here (λ j' x far g. (asking.of j' x g).asked) a.asked j d e u line has' asks)
    (λ u d line has' e asks.
    each-changed-one (λ j x. j ≡ k → (u : ℕ) (line : ThreadRow) → HasRow f k u → slice_get f.rows u ≡ Some line
    → Asked f v.phase v.time l.acts n.taken (Some q) u (wait_of (opened_core x)) line x.thread.timing)
    i (on_with f.system.costs qs) v.cores c here (λ j x far g same. target x (subst (λ z. slice_get v.cores z ≡ Some x) same g))
    (λ same. target c (subst (λ z. slice_get v.cores z ≡ Some c) same here)) k d e refl u line has' asks)
  where
    q : Kept
    q = request_now v.time (n.current i) m

    a : Asks f (now_of v) l.acts n i c
    a = asking.of i c here

    -- what the starter may still request
    before_rest : (z : ℕ) → rest (requests_measure f z) c.pieces ≡ one_at z k + rest (requests_measure f z) qs
    before_rest z = ap (rest (requests_measure f z)) is ∙ (let same : rest (requests_measure f z) (Opening k ∷ qs)
        ≡ one_at z k + rest (requests_measure f z) qs = omega arith in same)

    elsewhere : (j : ℕ) (d : Core) → j ≢ i → Asks f (now_of v) l.acts n j d → IsReady f (now_of v) l.acts n k (request_now v.time (n.current i) m) j d
    elsewhere j d other b = record {
      tidy = b.tidy;
      few = b.few;
      mid = λ z y has' begins. absurd (other (same-item v.ran j i (b.mid z y has' begins).ran ran));
      spent =
          let few : rest (requests_measure f k) d.pieces ≤ quota f k j = b.few k s has_k in
          omega (arith, few, other-of f k j i starts (λ e. other (sym e)));
      fresh = b.fresh;
    }

    own : IsReady f (now_of v) l.acts n k (request_now v.time (n.current i) m) i (on_with f.system.costs qs c)
    own = record {
      tidy = barrier-tidy k qs ends;
      few = λ z y has'. let few : rest (requests_measure f z) c.pieces ≤ quota f z i = a.few z y has' in omega (arith, few, before_rest z);
      mid = λ z y has' begins. (
        barrier-ends k z qs ends begins,
        record {
          none = none-left f k c.works c.thread.durations qs ends;
          phase = effects;
          ran = ran;
          request = request_now v.time (n.current i) m;
          is = refl;
          at = refl;
        },
      );
      spent =
          let few : rest (requests_measure f k) c.pieces ≤ quota f k i = a.few k s has_k in
          let most : quota f k i ≡ 1 = ap (λ w. quota_by w i) starts ∙ one-here i in
          omega (arith, few, before_rest k, one-here k, most);
      fresh = λ u has' rdy z y line p x also asks was_kept stands. fresh-less f z c.pieces qs line p x.nominal (omega
          (arith, before_rest z)) (a.fresh u has' rdy z y line p x also asks was_kept stands);
    }

    -- the request before the one that comes now
    before_now : (line : ThreadRow) → slice_get f.rows s ≡ Some line → (p : Kept) → n.kept k ≡ Some p → p.nominal + line.period ≤ m.nominal
    before_now line asks p was_kept = by (a.fresh r has ready k s line p m has_k asks was_kept at)
      where
        by : IsFresh f k c.pieces line p m.nominal → p.nominal + line.period ≤ m.nominal
        by (inl none) = absurd (omega (arith, none, before_rest k, one-here k))
        by (inr apart) = apart

    target : (x : Core) → slice_get v.cores k ≡ Some x → (u : ℕ) (line : ThreadRow) → HasRow f k u → slice_get f.rows u ≡ Some line
        → Asked f v.phase v.time l.acts n.taken (Some (request_now v.time (n.current i) m)) u (wait_of (opened_core x)) line x.thread.timing
    target x at_k u line has' asks =
        let rows_same : u ≡ s = same-item (f.row_of k) u s has' has_k in
        let asks_k : slice_get f.rows s ≡ Some line = subst (λ z. slice_get f.rows z ≡ Some line) rows_same asks in
        let tabled : IsTabled f k u x.thread = framed.tabled k u x.thread has' (written-at base.written k x at_k) in
        let line_is : tabled.row ≡ line = same-item (slice_get f.rows u) tabled.row line tabled.asks asks in
        let busy : Busy f (now_of v) l (n.current i) i r c = base.runs i c here r has ready in
        let made_is : busy.own.made ≡ m = same-item (slice_get l.acts (n.current i)) busy.own.made m busy.own.stands at in
        let timely : IsTimely f.rows f.shift l.acts (n.current i) m = asking.timed.each (n.current i) m at in
        let first : m.nominal ≤ f.shift + m.asked = timely.asked in
        let waited : m.asked ≤ m.release = timely.waited in
        let released : m.release ≤ length l.ticks = (base.logged.each (n.current i) m at).released in
        let clock : length l.ticks ≡ v.time = base.clock in
        asked-now f v.phase v.time l.acts n.taken (n.kept k) k i u r (n.current i) (wait_of x) line m x.thread.timing starts has at
        (ap (λ z. z.row) (sym made_is) ∙ busy.own.of_row)
        (ap (λ z. z.over) (sym made_is) ∙ busy.own.unended) (omega (arith, first, waited, released, clock)) (omega (arith, released, clock))
        (before_now line asks_k)
        (subst (λ z. IsAsked f k z x.thread.timing) line_is tabled.asked) ((asking.of k x at_k).asked u line has' asks)
