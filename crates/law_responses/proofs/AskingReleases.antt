-- A release keeps what is known of requests.
use Rattle.std.specs.Prelude.{◌≡◌, ◌≢◌, ◌⊎◌, ℕ, ◌+◌, ◌≤◌, true, false, List, [], ◌∷◌, ◌++◌, length, slice_get, Some, refl}
use Rattle.std.proofs.Common.{sym, ◌∙◌, subst, arith, inl, inr}
use Rattle.std.proofs.lemmas.Bool.{cases_eq}
use Rattle.arrivals_tree.specs.declared.arrivals.Arrival.{Arrival}
use Rattle.rt_response.specs.declared.rows.ThreadRow.{ThreadRow}
use Rattle.machine.specs.Systems.{TaskUnit, ReleasePattern, Periodic, Requested}
use Rattle.machine.specs.Pieces.{Piece, Finishing, pieces}
use Rattle.machine.specs.States.{Phase}
use Rattle.law_responses.proofs.Logs.{Made, Log, OfRow, IsTimely, started}
use Rattle.law_responses.proofs.Later.{timed-started}
use Rattle.law_calls.proofs.Shared.Remaining.{rest, rest-block}
use Rattle.law_responses.proofs.Views.{Core, View, now_of, released_core, changed}
use Rattle.law_responses.proofs.Frames.{Frame, requests_measure, HasRow, quota, none-of, other-of, IsAsked, IsTabled, IsFramed, Kept, Notes}
use Rattle.law_responses.proofs.Tidy.{NoEnds, tidy-from, no-ends, block-tidy}
use Rattle.law_responses.proofs.Base.{Base, written-at, core-at, put, put-here, put-other}
use Rattle.law_responses.proofs.Asking.{Wait, wait_of, Asked, IsFresh, AreFresh, Asks, Asking}
use Rattle.law_responses.proofs.AskingLater.{later-grown, asked-later}
use Rattle.law_lists.proofs.Shared.Places.{get-front, get-last, same-item, each-changed-one}

-- what a task may request as it is released
released-few : (f : Frame) (i k s : ℕ) (c : Core) → IsFramed f → slice_get f.system.threads i ≡ Some c.thread → HasRow f k s
    → rest (requests_measure f k) (pieces c.thread.block (Finishing ∷ [])) ≤ quota f k i
released-few f i k s c framed written has =
    omega (arith, framed.few k s i c.thread has written, rest-block (requests_measure f k) c.thread.block (Finishing ∷ []))

-- it has not requested it before
fresh-by : (f : Frame) (phase : Phase) (time : ℕ) (acts : List Made) (taken : List Arrival) (k s i r : ℕ) (w : Wait) (target row : ThreadRow)
    (q : Kept) (m : Made) (ps : List Piece) (t : ReleasePattern)
    → IsAsked f k target t → Asked f phase time acts taken (Some q) s w target t → rest (requests_measure f k) ps ≤ quota f k i → HasRow f i r
    → slice_get f.rows r ≡ Some row
    → OfRow acts r (λ x. x.nominal + row.period ≤ m.nominal) → IsFresh f k ps target q m.nominal
fresh-by f phase time acts taken k s i r w target row q m ps (Periodic offset period) asks asked few has line apart =
    inl (omega (arith, few, none-of f k i asks.1))
fresh-by f phase time acts taken k s i r w target row q m ps (Requested op ceiling separation jitter true) asks asked few has line apart =
    inl (omega (arith, few, none-of f k i asks.4))
fresh-by f phase time acts taken k s i r w target row q m ps (Requested op ceiling separation jitter false) asks asked few has line apart
    = by (cases_eq asks.1 i)
  where
    by : (asks.1 ≡ i) ⊎ (asks.1 ≢ i) → IsFresh f k ps target q m.nominal
    by (inr differ) = inl (omega (arith, few, other-of f k i asks.1 asks.7 differ))
    by (inl same) =
        let came = asked.1 in
        let made : Made = came.made in
        let starter_row : ℕ = asks.0 in
        let own : starter_row ≡ r = same-item (f.row_of i) starter_row r (subst (λ x. f.row_of x ≡ Some starter_row) same asks.3) has in
        let from_row : made.row ≡ starter_row = same-item target.starter made.row starter_row came.starter asks.4 in
        let line_same : asks.2 ≡ row = same-item (slice_get f.rows r) asks.2 row (subst (λ x. slice_get f.rows x ≡ Some asks.2) own asks.5) line in
        let period : target.period ≤ row.period = subst (λ x. target.period ≤ x.period) line_same asks.6 in
        let before : made.nominal + row.period ≤ m.nominal = apart came.place made came.stands (from_row ∙ own) in
        let same_time : made.nominal ≡ q.nominal = came.same in
        inr (omega (arith, before, same_time, period))

-- a release of a task with a row
pub asking-released : (f : Frame) (v : View) (l : Log) (n : Notes) (i r : ℕ) (c : Core) (m : Made) (row : ThreadRow) → IsFramed f
    → Base f v l n.current → Asking f v l n
    → HasRow f i r → slice_get v.cores i ≡ Some c → slice_get f.rows r ≡ Some row → m.row ≡ r
    → IsTimely f.rows f.shift l.acts (length l.acts) m → OfRow l.acts r (λ x. x.nominal + row.period ≤ m.nominal)
    → Asked f v.phase v.time (l.acts ++ m ∷ []) n.taken (n.kept i) r (wait_of (released_core f.system.costs c)) row c.thread.timing
    → Asking f (changed i (released_core f.system.costs) v) (started m l) (record n { current = put i (length l.acts) n.current })
asking-released f v l n i r c m row framed base asking has here line of_row timely apart own_asked = record {
  timed = timed-started f.rows f.shift l m row asking.timed (subst (λ s. slice_get f.rows s ≡ Some row) (sym of_row) line) timely (λ k x e same.
      apart k x e (same ∙ of_row));
  of = each-changed-one (Asks f (now_of v) (l.acts ++ m ∷ []) n') i (released_core f.system.costs) v.cores c here (λ j d other e.
      stays j d other e (asking.of j d e)) own;
  apart = asking.apart;
}
  where
    n' : Notes
    n' = record n { current = put i (length l.acts) n.current }

    written : slice_get f.system.threads i ≡ Some c.thread
    written = written-at base.written i c here

    clean : NoEnds (pieces c.thread.block (Finishing ∷ []))
    clean = block-tidy c.thread.block (Finishing ∷ []) tt

    stays : (j : ℕ) (d : Core) → j ≢ i → slice_get v.cores j ≡ Some d → Asks f (now_of v) l.acts n j d
        → Asks f (now_of v) (l.acts ++ m ∷ []) (record n { current = put i (length l.acts) n.current }) j d
    stays j d other e a = record {
      tidy = a.tidy;
      few = a.few;
      mid = a.mid;
      fresh = λ s has' ready k z target q x also asks is at.
          let busy = base.runs j d e s has' ready in
          let at' : slice_get (l.acts ++ m ∷ []) (n.current j) ≡ Some x
          = subst (λ p. slice_get (l.acts ++ m ∷ []) p ≡ Some x) (put-other i j (length l.acts) n.current other) at in
          let same : busy.own.made ≡ x = same-item (slice_get (l.acts ++ m ∷ []) (n.current j)) busy.own.made x
          (get-front l.acts (m ∷ []) (n.current j) busy.own.made busy.own.stands) at' in
          a.fresh s has' ready k z target q x also asks is (subst (λ w. slice_get l.acts (n.current j) ≡ Some w) same busy.own.stands);
      asked = λ s line' has' asks.
          let differ : m.row ≢ s = λ same. other (framed.one j i s has' (subst (λ x. f.row_of i ≡ Some x) (sym of_row ∙ same) has)) in
          asked-later f v.phase v.time l.acts (l.acts ++ m ∷ []) n.taken (n.kept j) s (wait_of d) line' d.thread.timing (later-grown l.acts m v.time s
          differ) (a.asked s line' has' asks);
    }

    fresh : AreFresh f (l.acts ++ m ∷ []) (record n { current = put i (length l.acts) n.current }) i (pieces c.thread.block (Finishing ∷ []))
    fresh k z target q x also asks is at =
        let last : slice_get (l.acts ++ m ∷ []) (length l.acts) ≡ Some x
        = subst (λ p. slice_get (l.acts ++ m ∷ []) p ≡ Some x) (put-here i i (length l.acts) n.current refl) at in
        let new : m ≡ x = same-item (slice_get (l.acts ++ m ∷ []) (length l.acts)) m x (get-last l.acts m) last in
        let thread = framed.placed k z also in
        let y = core-at base.written k thread.0 thread.1 in
        let tabled : IsTabled f k z thread.0 = framed.tabled k z thread.0 also thread.1 in
        let same : tabled.row ≡ target = same-item (slice_get f.rows z) tabled.row target tabled.asks asks in
        let known : Asked f v.phase v.time l.acts n.taken (Some q) z (wait_of y.0) target thread.0.timing =
        subst (λ (t : TaskUnit). Asked f v.phase v.time l.acts n.taken (Some q) z (wait_of y.0) target t.timing) y.2
        (subst (λ o. Asked f v.phase v.time l.acts n.taken o z (wait_of y.0) target y.0.thread.timing) is
        ((asking.of k y.0 y.1).asked z target also asks)) in
        subst (λ w. IsFresh f k (pieces c.thread.block (Finishing ∷ [])) target q w.nominal) new
        (fresh-by f v.phase v.time l.acts n.taken k z i r (wait_of y.0) target row q m (pieces c.thread.block (Finishing ∷ [])) thread.0.timing
        (subst (λ x'. IsAsked f k x' thread.0.timing) same tabled.asked) known (released-few f i k z c framed written also) has line apart)

    own : Asks f (now_of v) (l.acts ++ m ∷ []) (record n { current = put i (length l.acts) n.current }) i (released_core f.system.costs c)
    own = record {
      tidy = tidy-from (pieces c.thread.block (Finishing ∷ [])) clean;
      few = λ k s has'. released-few f i k s c framed written has';
      mid = λ k s has' begins. absurd (no-ends k (pieces c.thread.block (Finishing ∷ [])) clean begins);
      fresh = λ s has' ready. fresh;
      asked = λ s line' has' asks.
          let rows_same : r ≡ s = same-item (f.row_of i) r s has has' in
          let lines_same : row ≡ line' = same-item (slice_get f.rows r) row line' line
          (subst (λ x. slice_get f.rows x ≡ Some line') (sym rows_same) asks) in
          subst (λ x. Asked f v.phase v.time (l.acts ++ m ∷ []) n.taken (n.kept i) s (wait_of (released_core f.system.costs c)) x
          c.thread.timing) lines_same
          (subst (λ x. Asked f v.phase v.time (l.acts ++ m ∷ []) n.taken (n.kept i) x (wait_of (released_core f.system.costs c)) row c.thread.timing)
          rows_same own_asked);
    }
