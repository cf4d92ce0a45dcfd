-- The end of an activation keeps what is known of requests.
use Rattle.std.specs.Prelude.{◌≡◌, ◌+◌, ◌≤◌, ◌⊎◌, ℕ, List, length, slice_get, Option, Some, refl}
use Rattle.std.proofs.Common.{sym, subst, inr, zero-le}
use Rattle.seq_tree.specs.Lists.{change}
use Rattle.arrivals_tree.specs.declared.arrivals.Arrival.{Arrival}
use Rattle.rt_response.specs.declared.rows.ThreadRow.{ThreadRow}
use Rattle.machine.specs.Systems.{ReleasePattern, Periodic, Requested}
use Rattle.machine.specs.Effects.{resting}
use Rattle.machine.specs.States.{Effects, Ready}
use Rattle.law_responses.proofs.Logs.{Made, Log, over_at, finished, EndedAt}
use Rattle.law_responses.proofs.Later.{was-ended, timed-finished}
use Rattle.law_calls.proofs.Shared.Remaining.{rest}
use Rattle.law_responses.proofs.Views.{Core, View, now_of, ended_core, changed}
use Rattle.law_responses.proofs.Frames.{Frame, requests_measure, HasRow, Kept, Notes}
use Rattle.law_responses.proofs.Base.{Busy, Base}
use Rattle.law_responses.proofs.BaseMoves.{rest-not-ready, ended-at}
use Rattle.law_responses.proofs.Asking.{Wait, wait_of, Asked, Asks, Asking}
use Rattle.law_responses.proofs.AskingLater.{IsLater, later-ended, asked-later}
use Rattle.law_lists.proofs.Shared.Places.{same-item, each-changed}

-- the task whose activation ended rests
asked-rests : (f : Frame) (time : ℕ) (acts : List Made) (taken : List Arrival) (kept : Option Kept) (r : ℕ) (w : Wait) (row : ThreadRow)
    (t : ReleasePattern) → EndedAt acts r time
    → Asked f Effects time acts taken kept r w row t → Asked f Effects time acts taken kept r (record w { readiness = resting t w.next }) row t
asked-rests f time acts taken kept r w row (Periodic offset period) over h = (h.0, (refl, inr over))
asked-rests f time acts taken kept r w row (Requested op ceiling separation jitter external) over h = (h.0, h.1, tt)

-- the end of an activation of a task with a row
pub asking-ended : (f : Frame) (v : View) (l : Log) (n : Notes) (i r : ℕ) (c : Core) → Base f v l n.current → Asking f v l n → HasRow f i r
    → slice_get v.cores i ≡ Some c
    → c.readiness ≡ Ready → v.phase ≡ Effects → Asking f (changed i ended_core v) (finished (n.current i) l) n
asking-ended f v l n i r c base asking has here ready effects = record {
  timed = timed-finished f.rows f.shift l (n.current i) busy.own.made busy.own.stands busy.own.unended (λ k m e.
      (base.logged.each k m e).released) asking.timed;
  of = each-changed (Asks f (now_of v) acts' n) i ended_core v.cores (λ j d other e. stays j d (asking.of j d e)) (λ x e. rests x (asking.of i x e));
  apart = asking.apart;
}
  where
    acts' : List Made
    acts' = change (n.current i) (over_at (length l.ticks)) l.acts

    busy : Busy f (now_of v) l (n.current i) i r c
    busy = base.runs i c here r has ready

    later : (s : ℕ) → IsLater l.acts (change (n.current i) (over_at (length l.ticks)) l.acts) v.time s
    later s = subst (λ t. IsLater l.acts (change (n.current i) (over_at (length l.ticks)) l.acts) t s) base.clock
        (later-ended l.acts (n.current i) (length l.ticks) s busy.own.made busy.own.stands busy.own.unended)

    stays : (j : ℕ) (d : Core) → Asks f (now_of v) l.acts n j d → Asks f (now_of v) (change (n.current i) (over_at (length l.ticks)) l.acts) n j d
    stays j d a = record {
      tidy = a.tidy;
      few = a.few;
      mid = a.mid;
      fresh = λ s has' rdy k z target q m also asks is at.
          let was = was-ended l.acts (n.current i) (length l.ticks) busy.own.made busy.own.stands busy.own.unended (n.current j) m at in
          subst (λ x. (rest (requests_measure f k) d.pieces ≡ 0)
          ⊎ (q.nominal + target.period ≤ x)) was.alike.nominal (a.fresh s has' rdy k z target q was.made also asks is was.stands);
      asked = λ s row has' asks. asked-later f v.phase v.time l.acts (change (n.current i) (over_at (length l.ticks)) l.acts) n.taken (n.kept
          j) s (wait_of d) row d.thread.timing (later s) (a.asked s row has' asks);
    }

    rests : (x : Core) → Asks f (now_of v) l.acts n i x
        → Asks f (now_of v) (change (n.current i) (over_at (length l.ticks)) l.acts) n i (ended_core x)
    rests x a = record {
      tidy = tt;
      few = λ k s has'. zero-le;
      mid = λ k s has' begins. absurd begins;
      fresh = λ s has' rdy. absurd (rest-not-ready x.thread.timing x.next rdy);
      asked = λ s row has' asks.
          let now = (stays i x a).asked s row has' asks in
          let over : EndedAt acts' s v.time = subst (λ z. EndedAt acts' z v.time) (same-item (f.row_of i) r s has has')
          (ended-at f v l n.current i r c base busy) in
          subst (λ p. Asked f p v.time acts' n.taken (n.kept i) s (wait_of (ended_core x)) row x.thread.timing) (sym effects)
          (asked-rests f v.time acts' n.taken (n.kept i) s (wait_of x) row x.thread.timing over
          (subst (λ p. Asked f p v.time acts' n.taken (n.kept i) s (wait_of x) row x.thread.timing) effects now));
    }
