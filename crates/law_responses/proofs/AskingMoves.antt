-- Changes that make no request and no activation keep what is known of requests: parts of the instant, ticks, and tasks that go on.
use Rattle.std.specs.Prelude.{◌≡◌, ℕ, ◌+◌, ◌≤◌, ◌<◌, Bool, false, List, slice_get, Option, Some, None}
use Rattle.std.proofs.Common.{subst, arith, inl, inr, le_trans}
use Rattle.seq_tree.specs.Lists.{change}
use Rattle.arrivals_tree.specs.declared.arrivals.Arrival.{Arrival}
use Rattle.rt_response.specs.declared.rows.ThreadRow.{ThreadRow}
use Rattle.machine.specs.Systems.{ReleasePattern, Periodic, Requested}
use Rattle.machine.specs.Pieces.{Piece}
use Rattle.machine.specs.States.{Phase, Effects, Delays, Arriving, Use, Readiness, Asleep, Waiting, Ready}
use Rattle.machine.specs.Steps.{is_due}
use Rattle.law_responses.proofs.Logs.{Made, Log, ticked}
use Rattle.law_calls.proofs.Shared.Remaining.{rest}
use Rattle.law_responses.proofs.Views.{Core, View, now_of, on_with, opened_core, ticked_core, changed, after_tick}
use Rattle.law_responses.proofs.Frames.{Frame, requests_measure, HasRow, no-row, quota, Kept, Notes, EndsRequest}
use Rattle.law_responses.proofs.Tidy.{Tidy, NoEnds, tidy-from, no-ends}
use Rattle.law_responses.proofs.Asking.{Sleeps, Awaits, Wait, wait_of, Asked, IsFresh, Asks, Asking}
use Rattle.law_lists.proofs.Shared.Places.{each-changed, each-changed-one}

-- nobody is about to end a request
abbrev pub NoMid : Frame → View → Type 0
NoMid f v = (j k s : ℕ) (c : Core) → slice_get v.cores j ≡ Some c → HasRow f k s → EndsRequest k c.pieces → ⊥

asked-phase : (f : Frame) (phase phase' : Phase) (time : ℕ) (acts : List Made) (taken : List Arrival) (kept : Option Kept) (r : ℕ) (w : Wait)
    (row : ThreadRow) (t : ReleasePattern)
    → (Sleeps phase time acts r w.next w.readiness → Sleeps phase' time acts r w.next w.readiness)
    → Asked f phase time acts taken kept r w row t → Asked f phase' time acts taken kept r w row t
asked-phase f phase phase' time acts taken kept r w row (Periodic offset period) sleeps asked = (asked.0, sleeps asked.1)
asked-phase f phase phase' time acts taken kept r w row (Requested op ceiling separation jitter external) sleeps asked = asked

-- on to a part of the instant
pub asking-phase : (f : Frame) (v : View) (l : Log) (n : Notes) (phase : Phase) → Asking f v l n → NoMid f v
    → ((j r : ℕ) (c : Core) → HasRow f j r → slice_get v.cores j ≡ Some c → Sleeps v.phase v.time l.acts r c.next c.readiness
    → Sleeps phase v.time l.acts r c.next c.readiness)
    → Asking f (record v { phase = phase }) l n
asking-phase f v l n phase asking none sleeps = record {
  timed = asking.timed;
  of = λ j c e.
      let a = asking.of j c e in
      record {
        tidy = a.tidy;
        few = a.few;
        mid = λ k s has ends. absurd (none j k s c e has ends);
        fresh = a.fresh;
        asked = λ r row has asks. asked-phase f v.phase phase v.time l.acts n.taken (n.kept j) r (wait_of c) row c.thread.timing (sleeps j r c has
            e) (a.asked r row has asks);
      };
  apart = asking.apart;
}

pub sleeps-delays : (time : ℕ) (acts : List Made) (r next : ℕ) (readiness : Readiness) → Sleeps Effects time acts r next readiness
    → Sleeps Delays time acts r next readiness
sleeps-delays time acts r next (Asleep until) h = h
sleeps-delays time acts r next Waiting h = h
sleeps-delays time acts r next Ready h = h

pub sleeps-arriving : (time : ℕ) (acts : List Made) (r next : ℕ) (readiness : Readiness) → is_due time readiness ≡ false
    → Sleeps Delays time acts r next readiness → Sleeps Arriving time acts r next readiness
sleeps-arriving time acts r next (Asleep until) e h = (h.0, (let later : time < until = grind arith in later))
sleeps-arriving time acts r next Waiting e h = h
sleeps-arriving time acts r next Ready e h = h

pub sleeps-use : (time : ℕ) (acts : List Made) (r next : ℕ) (readiness : Readiness) → Sleeps Arriving time acts r next readiness
    → Sleeps Use time acts r next readiness
sleeps-use time acts r next (Asleep until) h = h
sleeps-use time acts r next Waiting h = h
sleeps-use time acts r next Ready h = h

sleeps-effects : (time : ℕ) (acts : List Made) (r next : ℕ) (readiness : Readiness) → Sleeps Use time acts r next readiness
    → Sleeps Effects (time + 1) acts r next readiness
sleeps-effects time acts r next (Asleep until) h = (h.0, inl (let later : time + 1 ≤ until = omega (arith, h.1) in later))
sleeps-effects time acts r next Waiting h = h
sleeps-effects time acts r next Ready h = h

pub fresh-less : (f : Frame) (k : ℕ) (ps qs : List Piece) (target : ThreadRow) (q : Kept) (nominal : ℕ)
    → rest (requests_measure f k) qs ≤ rest (requests_measure f k) ps
    → IsFresh f k ps target q nominal → IsFresh f k qs target q nominal
fresh-less f k ps qs target q nominal less (inl none) = inl (omega (arith, less, none))
fresh-less f k ps qs target q nominal less (inr apart) = inr apart

-- a task goes on, without opening a control structure
pub asking-goes : (f : Frame) (v : View) (l : Log) (n : Notes) (i : ℕ) (c : Core) (qs : List Piece) → Asking f v l n
    → slice_get v.cores i ≡ Some c → Tidy qs
    → ((k s : ℕ) → HasRow f k s → EndsRequest k qs → ⊥)
    → ((k s : ℕ) → HasRow f k s → rest (requests_measure f k) qs ≤ rest (requests_measure f k) c.pieces)
    → Asking f (changed i (on_with f.system.costs qs) v) l n
asking-goes f v l n i c qs asking here clean ends less = record {
  timed = asking.timed;
  of =
      let a = asking.of i c here in
      each-changed-one (Asks f (now_of v) l.acts n) i (on_with f.system.costs qs) v.cores c here (λ j d other e. asking.of j d e) (record {
        tidy = clean;
        few = λ k s has. le_trans (less k s has) (a.few k s has);
        mid = λ k s has begins. absurd (ends k s has begins);
        fresh = λ r has ready k s target q m has' asks is at. fresh-less f k c.pieces qs target q m.nominal (less k s has') (a.fresh r has ready k s
            target q m has' asks is at);
        asked = a.asked;
      });
  apart = asking.apart;
}

-- a task without a row changes, and has pieces that request within its quota
pub asking-outside : (f : Frame) (v : View) (l : Log) (n : Notes) (i : ℕ) (g : Core → Core) → f.row_of i ≡ None → Asking f v l n
    → ((c : Core) → slice_get v.cores i ≡ Some c → NoEnds (g c).pieces × ((k s : ℕ) → HasRow f k s
    → rest (requests_measure f k) (g c).pieces ≤ quota f k i))
    → Asking f (changed i g v) l n
asking-outside f v l n i g without asking clean = record {
  timed = asking.timed;
  of = each-changed (Asks f (now_of v) l.acts n) i g v.cores (λ j d other e. asking.of j d e) (λ x e.
      let kept = clean x e in
      record {
        tidy = tidy-from (g x).pieces kept.0;
        few = kept.1;
        mid = λ k s has begins. absurd (no-ends k (g x).pieces kept.0 begins);
        fresh = λ r has. absurd (no-row f i r without has);
        asked = λ r row has. absurd (no-row f i r without has);
      });
  apart = asking.apart;
}

-- its control structure opens
pub asking-open-else : (f : Frame) (v : View) (l : Log) (n : Notes) (k : ℕ) → f.row_of k ≡ None → Asking f v l n
    → Asking f (changed k opened_core v) l n
asking-open-else f v l n k without asking = record {
  timed = asking.timed;
  of = each-changed (Asks f (now_of v) l.acts n) k opened_core v.cores (λ j d other e. asking.of j d e) (λ x e.
      let a = asking.of k x e in record {
        tidy = a.tidy;
        few = a.few;
        mid = a.mid;
        fresh = a.fresh;
        asked = λ r row has. absurd (no-row f k r without has);
      });
  apart = asking.apart;
}

awaits-later : (f : Frame) (time : ℕ) (acts : List Made) (r : ℕ) (open' : Bool) (row : ThreadRow) (kept : Option Kept)
    → Awaits f time acts r open' row kept → Awaits f (time + 1) acts r open' row kept
awaits-later f time acts r open' row None h = h
awaits-later f time acts r open' row (Some q) h =
    let past : q.asked ≤ time = h.past in
    record { asked = h.asked; past = omega (arith, past); before = h.before; apart = h.apart }

asked-ticked : (f : Frame) (time : ℕ) (acts : List Made) (taken : List Arrival) (kept : Option Kept) (r : ℕ) (w : Wait) (row : ThreadRow)
    (t : ReleasePattern)
    → Asked f Use time acts taken kept r w row t → Asked f Effects (time + 1) acts taken kept r w row t
asked-ticked f time acts taken kept r w row (Periodic offset period) asked = (asked.0, sleeps-effects time acts r w.next w.readiness asked.1)
asked-ticked f time acts taken kept r w row (Requested op ceiling separation jitter external) asked
    = (awaits-later f time acts r w.open' row kept asked.0, asked.1, asked.2)

-- a tick
asks-ticked : (f : Frame) (v : View) (ran : Option ℕ) (acts : List Made) (n : Notes) (j left used : ℕ) (c : Core) → v.phase ≡ Use
    → ((k s : ℕ) → HasRow f k s → EndsRequest k c.pieces → ⊥) → Asks f (now_of v) acts n j c
    → Asks f (record { time = v.time + 1; phase = Effects; ran = ran }) acts n j (record c { left = left; used = used })
asks-ticked f v ran acts n j left used c using none a = record {
  tidy = a.tidy;
  few = a.few;
  mid = λ k s has ends. absurd (none k s has ends);
  fresh = a.fresh;
  asked = λ r row has asks.
      asked-ticked f v.time acts n.taken (n.kept j) r (wait_of c) row c.thread.timing (subst
      (λ p. Asked f p v.time acts n.taken (n.kept j) r (wait_of c) row c.thread.timing) using (a.asked r row has asks));
}

pub asking-idle : (f : Frame) (v : View) (l : Log) (n : Notes) (ran o : Option ℕ) → v.phase ≡ Use → Asking f v l n → NoMid f v
    → Asking f (after_tick ran v.cores v) (ticked o l) n
asking-idle f v l n ran o using asking none = record {
  timed = record { each = asking.timed.each; apart = asking.timed.apart };
  of = λ j c e. asks-ticked f v ran l.acts n j c.left c.used c using (λ k s. none j k s c e) (asking.of j c e);
  apart = asking.apart;
}

pub asking-ticked : (f : Frame) (v : View) (l : Log) (n : Notes) (i : ℕ) (o : Option ℕ) → v.phase ≡ Use → Asking f v l n → NoMid f v
    → Asking f (after_tick (Some i) (change i ticked_core v.cores) v) (ticked o l) n
asking-ticked f v l n i o using asking none = record {
  timed = record { each = asking.timed.each; apart = asking.timed.apart };
  of = each-changed (Asks f (record { time = v.time + 1; phase = Effects; ran = Some i }) l.acts n) i ticked_core v.cores
      (λ j d other e. asks-ticked f v (Some i) l.acts n j d.left d.used d using (λ k s. none j k s d e) (asking.of j d e))
      (λ x e. asks-ticked f v (Some i) l.acts n i _ _ x using (λ k s. none i k s x e) (asking.of i x e));
  apart = asking.apart;
}
