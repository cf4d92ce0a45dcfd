-- The changes that a log takes part in: releases, ends and ticks.
use Rattle.std.specs.Prelude.{◌≡◌, ◌≢◌, ℕ, zero, suc, ◌+◌, ◌-◌, ◌≤◌, ◌<◌, false, List, [], ◌∷◌, ◌++◌, length, slice_get, Option, Some, None, refl}
use Rattle.std.proofs.Common.{sym, ◌∙◌, ap, subst, arith}
use Rattle.std.proofs.lemmas.Option.{none-some}
use Rattle.seq_tree.specs.Lists.{change}
use Rattle.seq_tree.specs.Dearest.{dearest}
use Rattle.rt_response.specs.declared.rows.ThreadRow.{ThreadRow}
use Rattle.machine.specs.Systems.{ReleasePattern, Periodic, Requested}
use Rattle.machine.specs.Pieces.{Piece, Finishing, pieces}
use Rattle.machine.specs.Effects.{resting}
use Rattle.machine.specs.States.{Effects, Ready}
use Rattle.law_schedules.specs.Schedules.{is_by}
use Rattle.law_schedules.specs.Schedules as schedule
use Rattle.law_responses.proofs.Marks.{marks-own, marks-other, by-own, by-other}
use Rattle.law_responses.proofs.Logs.{Made, Log, EndedAt, EndsAfter, started, over_at, finished, ticked}
use Rattle.law_responses.proofs.Logged.{started-logged, finished-logged, idle-logged, ticked-logged, ends-after}
use Rattle.law_calls.proofs.Shared.Remaining.{Measure, rest, rest-block}
use Rattle.law_responses.proofs.Views.{Core, View, Now, now_of, on_with, waking_core, released_core, ended_core, ticked_core, changed, after_tick}
use Rattle.law_responses.proofs.Frames.{Frame, ticks_measure, HasRow, IsTabled, IsFramed, StartsSome, HasEnd, remaining}
use Rattle.law_responses.proofs.Endings.{block-end, remaining-own}
use Rattle.law_responses.proofs.Base.{Busy, IsBusy, IsOf, Base, SomeLeft, written-at, threads-kept, put, put-here, put-other, made-kept}
use Rattle.law_lists.proofs.Shared.Places.{change-at, get-front, get-last, get-other, length-grown, same-item, each-changed, each-changed-one}
use Rattle.law_lists.proofs.Shared.Places.{each-grown}

-- a released task is ready, and has the pieces of its block before it
busy-released : (f : Frame) (now : Now) (l : Log) (place i r : ℕ) (m : Made) (qs : List Piece) (c : Core) → slice_get l.acts place ≡ Some m
    → m.task ≡ i → m.row ≡ r → m.over ≡ None
    → schedule.ticks_of place l.ticks ≡ [] → c.used ≡ 0 → ((row : ThreadRow) → slice_get f.rows r ≡ Some row → rest (ticks_measure f) qs ≤ row.cost)
    → HasEnd qs → StartsSome f.system.costs c.thread.durations qs → Busy f now l place i r (on_with f.system.costs qs c)
busy-released f now l place i r m [] c stands task of_row unended none unused cost ends starts = absurd ends
busy-released f now l place i r m (q ∷ qs) c stands task of_row unended none unused cost ends starts = record {
  own = record { made = m; stands = stands; task = task; of_row = of_row; unended = unended };
  count = ap length none ∙ sym unused;
  cost = λ row asks.
      let most : rest (ticks_measure f) (q ∷ qs) ≤ row.cost = cost row asks in
      omega (arith, most, unused, remaining-own f (slice_get c.thread.durations c.works) q qs);
  ends = ends;
  left = λ zero_left. absurd (omega (arith, zero_left, starts c.works));
}

-- a release of a task with a row
pub base-released : (f : Frame) (v : View) (l : Log) (current : ℕ → ℕ) (i r : ℕ) (c : Core) (m : Made) → IsFramed f → Base f v l current
    → HasRow f i r → slice_get v.cores i ≡ Some c
    → (c.readiness ≡ Ready → ⊥) → m.task ≡ i → m.row ≡ r → m.over ≡ None → m.release ≡ v.time
    → Base f (changed i (released_core f.system.costs) v) (started m l) (put i (length l.acts) current)
base-released f v l current i r c m framed base has here idle task of_row unended now = record {
  clock = base.clock;
  logged = started-logged f.rows l m tabled.row base.logged unended (now ∙ sym base.clock) (ap (slice_get f.rows) of_row ∙ tabled.asks);
  written = threads-kept i (released_core f.system.costs) v.cores f.system.threads (λ x. refl) base.written;
  runs = each-changed-one (IsBusy f (now_of v) (started m l) (put i (length l.acts) current)) i (released_core f.system.costs) v.cores c here
      (λ j d other e s has' ready.
      subst (λ place. Busy f (now_of v) (started m l) place j s d) (sym (put-other i j (length l.acts) current other))
      (grown j s d (base.runs j d e s has' ready)))
      own;
  made = each-grown (IsOf f (change i (released_core f.system.costs) v.cores) (put i (length l.acts) current)) l.acts m (λ k n e.
      before k n (base.made k n e)) new;
}
  where
    tabled : IsTabled f i r c.thread
    tabled = framed.tabled i r c.thread has (written-at base.written i c here)

    grown : (j s : ℕ) (d : Core) → Busy f (now_of v) l (current j) j s d → Busy f (now_of v) (started m l) (current j) j s d
    grown j s d b = record {
      own = record {
        made = b.own.made;
        stands = get-front l.acts (m ∷ []) (current j) b.own.made b.own.stands;
        task = b.own.task;
        of_row = b.own.of_row;
        unended = b.own.unended;
      };
      count = b.count;
      cost = b.cost;
      ends = b.ends;
      left = b.left;
    }

    own_cost : (row : ThreadRow) → slice_get f.rows r ≡ Some row → rest (ticks_measure f) (pieces c.thread.block (Finishing ∷ [])) ≤ row.cost
    own_cost row asks =
        let same : tabled.row ≡ row = same-item (slice_get f.rows r) tabled.row row tabled.asks asks in
        let enough : dearest (ticks_measure f).weights c.thread.block + f.system.costs.finish ≤ row.cost =
        subst (λ x. dearest (ticks_measure f).weights c.thread.block + f.system.costs.finish ≤ x.cost) same tabled.cost in
        omega (arith, enough, rest-block (ticks_measure f) c.thread.block (Finishing ∷ []))

    own : IsBusy f (now_of v) (started m l) (put i (length l.acts) current) i (released_core f.system.costs c)
    own s has' ready =
        let rows_same : r ≡ s = same-item (f.row_of i) r s has has' in
        subst (λ place. Busy f (now_of v) (started m l) place i s (released_core f.system.costs c)) (sym (put-here i i (length l.acts) current refl))
        (subst (λ z. Busy f (now_of v) (started m l) (length l.acts) i z (released_core f.system.costs c)) rows_same
        (busy-released f (now_of v) (started m l) (length l.acts) i r m (pieces c.thread.block (Finishing ∷ [])) (waking_core c)
        (get-last l.acts m) task of_row unended
        (base.logged.fresh (length l.acts) (omega arith)) refl own_cost (block-end c.thread.block (Finishing ∷ []) tt)
        (framed.positive i c.thread (written-at base.written i c here))))

    before : (k : ℕ) (n : Made) → IsOf f v.cores current k n
        → IsOf f (change i (released_core f.system.costs) v.cores) (put i (length l.acts) current) k n
    before k n is = record {
      row = is.row;
      runs = λ going.
          let found = is.runs going in
          let apart : n.task ≢ i = λ same.
          let at_i : slice_get v.cores i ≡ Some found.0 = subst (λ j. slice_get v.cores j ≡ Some found.0) same found.1 in
          let both : found.0 ≡ c = same-item (slice_get v.cores i) found.0 c at_i here in
          idle (subst (λ x. x.readiness ≡ Ready) both found.2) in (
            found.0,
            get-other i n.task (released_core f.system.costs) v.cores found.0 apart found.1,
            found.2,
            put-other i n.task (length
                l.acts) current apart ∙ found.3,
          );
    }

    new : IsOf f (change i (released_core f.system.costs) v.cores) (put i (length l.acts) current) (length l.acts) m
    new = record {
      row = subst (λ j. f.row_of j ≡ Some m.row) (sym task) (subst (λ s. f.row_of i ≡ Some s) (sym of_row) has);
      runs = λ going. (
        released_core f.system.costs c,
        subst (λ j. slice_get (change i (released_core f.system.costs) v.cores) j
            ≡ Some (released_core f.system.costs c)) (sym task) (change-at i (released_core f.system.costs) v.cores c here),
        refl,
        put-here i m.task (length l.acts) current task,
      );
    }

-- a task that rests is not ready
pub rest-not-ready : (t : ReleasePattern) (next : ℕ) → resting t next ≡ Ready → ⊥
rest-not-ready (Periodic offset period) next e = cc
rest-not-ready (Requested op ceiling separation jitter external) next e = cc

-- ready tasks with rows that differ have different current activations
current-apart : (f : Frame) (now : Now) (l : Log) (current : ℕ → ℕ) (i j r s : ℕ) (c d : Core) → j ≢ i → Busy f now l (current j) j s d
    → Busy f now l (current i) i r c → current j ≢ current i
current-apart f now l current i j r s c d differ b busy same =
    let both : b.own.made ≡ busy.own.made = same-item (slice_get l.acts (current i)) b.own.made busy.own.made
    (subst (λ k. slice_get l.acts k ≡ Some b.own.made) same b.own.stands) busy.own.stands in
    differ (sym b.own.task ∙ ap (λ m. m.task) both ∙ busy.own.task)

-- the end of an activation of a task with a row
pub base-ended : (f : Frame) (v : View) (l : Log) (current : ℕ → ℕ) (i r : ℕ) (c : Core) → Base f v l current → HasRow f i r
    → slice_get v.cores i ≡ Some c
    → c.readiness ≡ Ready → EndsAfter (schedule.ticks_of (current i) l.ticks) (Some v.time)
    → Base f (changed i ended_core v) (finished (current i) l) current
base-ended f v l current i r c base has here ready ends = record {
  clock = base.clock;
  logged = finished-logged f.rows l (current i) base.logged (subst (λ n. EndsAfter (schedule.ticks_of (current i) l.ticks) (Some n))
      (sym base.clock) ends);
  written = threads-kept i ended_core v.cores f.system.threads (λ x. refl) base.written;
  runs = each-changed (IsBusy f (now_of v) (finished (current i) l) current) i ended_core v.cores
      (λ j d other e s has' rdy. stays j s d other (base.runs j d e s has' rdy))
      (λ x e s has' rdy. absurd (rest-not-ready x.thread.timing x.next rdy));
  made = each-changed (IsOf f (change i ended_core v.cores) current) (current i) (over_at (length l.ticks)) l.acts
      (λ k n other e. before k n other (base.made k n e)) (λ m e.
      let is = base.made (current i) m e in record { row = is.row; runs = λ going. absurd (none-some (length l.ticks) (sym going)) });
}
  where
    stays : (j s : ℕ) (d : Core) → j ≢ i → Busy f (now_of v) l (current j) j s d → Busy f (now_of v) (finished (current i) l) (current j) j s d
    stays j s d differ b = record {
      own = record {
        made = b.own.made;
        stands = get-other (current i) (current j) (over_at (length l.ticks)) l.acts b.own.made (current-apart f
            (now_of v) l current i j r s c d differ b (base.runs i c here r has ready)) b.own.stands;
        task = b.own.task;
        of_row = b.own.of_row;
        unended = b.own.unended;
      };
      count = b.count;
      cost = b.cost;
      ends = b.ends;
      left = b.left;
    }

    before : (k : ℕ) (n : Made) → k ≢ current i → IsOf f v.cores current k n → IsOf f (change i ended_core v.cores) current k n
    before k n other is = record {
      row = is.row;
      runs = λ going.
          let found = is.runs going in
          let far : n.task ≢ i = λ same. other (sym found.3 ∙ ap current same) in
          (found.0, get-other i n.task ended_core v.cores found.0 far found.1, found.2, found.3);
    }

-- the activation is then one that ended now
pub ended-at : (f : Frame) (v : View) (l : Log) (current : ℕ → ℕ) (i r : ℕ) (c : Core) → Base f v l current → Busy f (now_of v) l (current i) i r c
    → EndedAt (change (current i) (over_at (length l.ticks)) l.acts) r v.time
ended-at f v l current i r c base busy = (
  current i,
  over_at (length l.ticks) busy.own.made,
  change-at (current i) (over_at (length l.ticks)) l.acts busy.own.made busy.own.stands,
  busy.own.of_row,
  ap Some base.clock,
)

-- a tick less of the first piece
remaining-tick : (g : Measure) (left : ℕ) (ps : List Piece) → HasEnd ps → 1 ≤ left → suc (remaining g (left - 1) ps) ≡ remaining g left ps
remaining-tick g left [] ends some = absurd ends
remaining-tick g left (p ∷ ps) ends some = omega arith

some-left : (n : ℕ) → n ≢ 0 → 1 ≤ n
some-left zero differ = absurd (differ refl)
some-left (suc n) differ = omega arith

-- where ticks are left of the pieces that a task has, it has used less than its row's cost
busy-less : (f : Frame) (now : Now) (l : Log) (place j r : ℕ) (c : Core) → Busy f now l place j r c → c.left ≢ 0
    → (row : ThreadRow) → slice_get f.rows r ≡ Some row → length (schedule.ticks_of place l.ticks) < row.cost
busy-less f now l place j r c busy some row asks =
    let left : 1 ≤ c.left = some-left c.left some in
    let more : suc (remaining (ticks_measure f) (c.left - 1) c.pieces) ≡ remaining (ticks_measure f) c.left c.pieces
    = remaining-tick (ticks_measure f) c.left c.pieces busy.ends left in
    let cost : c.used + remaining (ticks_measure f) c.left c.pieces ≤ row.cost = busy.cost row asks in
    let count : length (schedule.ticks_of place l.ticks) ≡ c.used = busy.count in
    omega (arith, more, cost, count)

-- a tick that is not used by this activation
busy-passes : (f : Frame) (now after : Now) (l : Log) (o : Option ℕ) (place j r : ℕ) (c : Core) → Busy f now l place j r c → c.left ≢ 0
    → is_by place o ≡ false → Busy f after (ticked o l) place j r c
busy-passes f now after l o place j r c b some other = record {
  own = b.own;
  count = ap length (marks-other place o l.ticks other) ∙ b.count;
  cost = b.cost;
  ends = b.ends;
  left = λ none. absurd (some none);
}

-- a tick that it uses
busy-ticks : (f : Frame) (now : Now) (l : Log) (place j r : ℕ) (c : Core) → Busy f now l place j r c → c.left ≢ 0 → length l.ticks ≡ now.time
    → Busy f (record { time = now.time + 1; phase = Effects; ran = Some j }) (ticked (Some place) l) place j r (ticked_core c)
busy-ticks f now l place j r c b some clock =
    let own = marks-own place (Some place) l.ticks (by-own place) in
    let left : 1 ≤ c.left = some-left c.left some in
    let count : length (schedule.ticks_of place l.ticks) ≡ c.used = b.count in
    record {
      own = b.own;
      count = ap length own ∙ length-grown (schedule.ticks_of place l.ticks) (length l.ticks) ∙ (let same : suc
          (length (schedule.ticks_of place l.ticks)) ≡ c.used + 1 = omega (arith, count) in same);
      cost = λ row asks.
          let before : c.used + remaining (ticks_measure f) c.left c.pieces ≤ row.cost = b.cost row asks in
          omega (arith, before, remaining-tick (ticks_measure f) c.left c.pieces b.ends left);
      ends = b.ends;
      left = λ none. (refl, refl, ends-after place l.ticks (now.time + 1) (omega (arith, clock)));
    }

clock-ticked : (v : View) (l : Log) (o : Option ℕ) → length l.ticks ≡ v.time → length (l.ticks ++ o ∷ []) ≡ v.time + 1
clock-ticked v l o clock = length-grown l.ticks o ∙ (let same : suc (length l.ticks) ≡ v.time + 1 = omega (arith, clock) in same)

-- a tick that no task with a row uses
pub base-idle : (f : Frame) (v : View) (l : Log) (current : ℕ → ℕ) (ran : Option ℕ) → Base f v l current → SomeLeft f v
    → Base f (after_tick ran v.cores v) (ticked None l) current
base-idle f v l current ran base some = record {
  clock = clock-ticked v l None base.clock;
  logged = idle-logged f.rows l base.logged;
  written = base.written;
  runs = λ j c e r has ready. busy-passes f (now_of v) (now_of (after_tick ran v.cores v)) l None (current j) j r c (base.runs j c e r has
      ready) (some j r c has e ready) refl;
  made = base.made;
}

-- a tick that a task with a row uses
pub base-ticked : (f : Frame) (v : View) (l : Log) (current : ℕ → ℕ) (i r : ℕ) (c : Core) → Base f v l current → SomeLeft f v → HasRow f i r
    → slice_get v.cores i ≡ Some c → c.readiness ≡ Ready
    → Base f (after_tick (Some i) (change i ticked_core v.cores) v) (ticked (Some (current i)) l) current
base-ticked f v l current i r c base some has here ready = record {
  clock = clock-ticked v l (Some (current i)) base.clock;
  logged = ticked-logged f.rows l (current i) busy.own.made base.logged busy.own.stands busy.own.unended
      (λ row asks. busy-less f (now_of v) l (current i) i r c busy (some i r c has here ready) row
      (ap (slice_get f.rows) (sym busy.own.of_row) ∙ asks));
  written = threads-kept i ticked_core v.cores f.system.threads (λ x. refl) base.written;
  runs = each-changed-one (IsBusy f after (ticked (Some (current i)) l) current) i ticked_core v.cores c here
      (λ j d other e s has' rdy.
      let b = base.runs j d e s has' rdy in
      busy-passes f (now_of v) after l (Some (current i)) (current j) j s d b (some j s d has' e rdy)
      (by-other (current j) (current i) (current-apart f (now_of v) l current i j r s c d other b busy)))
      (λ s has' rdy. busy-ticks f (now_of v) l (current i) i s c (base.runs i c here s has' rdy) (some i s c has' here rdy) base.clock);
  made = λ k m e. made-kept f i ticked_core v.cores current k m (λ x rdy. rdy) (base.made k m e);
}
  where
    after : Now
    after = record { time = v.time + 1; phase = Effects; ran = Some i }

    busy : Busy f (now_of v) l (current i) i r c
    busy = base.runs i c here r has ready

-- at a part of the instant where no effect comes activations that are not over have used less than their row's cost
pub base-unended : (f : Frame) (v : View) (l : Log) (current : ℕ → ℕ) → Base f v l current → SomeLeft f v
    → (k : ℕ) (m : Made) (row : ThreadRow) → slice_get l.acts k ≡ Some m → m.over ≡ None → slice_get f.rows m.row ≡ Some row
    → length (schedule.ticks_of k l.ticks) < row.cost
base-unended f v l current base some k m row stands unended asks =
    let is = base.made k m stands in
    let found = is.runs unended in
    let b = base.runs m.task found.0 found.1 m.row is.row found.2 in
    let less = busy-less f (now_of v) l (current m.task) m.task m.row found.0 b (some m.task m.row found.0 is.row found.1 found.2) row asks in
    subst (λ j. length (schedule.ticks_of j l.ticks) < row.cost) found.3 less
