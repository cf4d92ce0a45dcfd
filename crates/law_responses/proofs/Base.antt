-- A log that belongs to a view: the current activation of each ready task with a row, the ticks that it used, and those that it may still take.
-- Each kind of change of a view keeps it; here those that the log takes no part in.
use Rattle.std.specs.Prelude.{◌≡◌, ◌≢◌, ◌⊎◌, ℕ, ◌+◌, ◌≤◌, List, [], ◌∷◌, ◌==◌, map, length, slice_get, Some, None, if◌then◌else◌, refl}
use Rattle.std.proofs.Common.{sym, ◌∙◌, ap, subst, arith, inl, inr}
use Rattle.std.proofs.lemmas.Bool.{cases_eq, eq-eqb, ne_eqb}
use Rattle.seq_tree.specs.Lists.{change}
use Rattle.arrivals_tree.specs.declared.arrivals.Arrival.{Arrival}
use Rattle.rt_response.specs.declared.rows.ThreadRow.{ThreadRow}
use Rattle.machine.specs.Systems.{TaskUnit}
use Rattle.machine.specs.Pieces.{Piece}
use Rattle.machine.specs.States.{Phase, Effects, Ready}
use Rattle.law_schedules.specs.Schedules.{ticks_of}
use Rattle.law_responses.proofs.Logs.{Made, Log, EndsAfter, IsLogged}
use Rattle.law_calls.proofs.Shared.Remaining.{behind, rest}
use Rattle.law_responses.proofs.Views.{Core, View, Now, now_of, on_with, opened_core, changed}
use Rattle.law_responses.proofs.Frames.{Frame, ticks_measure, HasRow, no-row, HasEnd, remaining}
use Rattle.law_responses.proofs.Endings.{remaining-own}
use Rattle.law_lists.proofs.Shared.Places.{change-at, get-other, map-at, mapped-at, map-kept, each-changed, each-changed-one}

-- the activation at a place is one of a task with a row that is not over
pub record IsCurrent (acts : List Made) (place j r : ℕ) : Type 0 where
  pub made : Made
  pub stands : slice_get acts place ≡ Some made
  pub task : made.task ≡ j
  pub of_row : made.row ≡ r
  pub unended : made.over ≡ None

-- a ready task with a row: its activation, the ticks that it used and those that it may still take; ticks are left of its first piece but
-- where an effect comes
pub record Busy (f : Frame) (now : Now) (l : Log) (place j r : ℕ) (c : Core) : Type 0 where
  pub own : IsCurrent l.acts place j r
  pub count : length (ticks_of place l.ticks) ≡ c.used
  pub cost : (row : ThreadRow) → slice_get f.rows r ≡ Some row → c.used + remaining (ticks_measure f) c.left c.pieces ≤ row.cost
  pub ends : HasEnd c.pieces
  pub left : c.left ≡ 0 → (now.phase ≡ Effects) × (now.ran ≡ Some j) × EndsAfter (ticks_of place l.ticks) (Some now.time)

-- a task of which this is known, where it has a row and is ready
abbrev pub IsBusy : Frame → Now → Log → (ℕ → ℕ) → ℕ → Core → Type 0
IsBusy f now l current j c = (r : ℕ) → HasRow f j r → c.readiness ≡ Ready → Busy f now l (current j) j r c

-- the activation at a place is of a task with its row, and is the current one of a ready task as long as it is not over
pub record IsOf (f : Frame) (cores : List Core) (current : ℕ → ℕ) (k : ℕ) (m : Made) : Type 0 where
  pub row : HasRow f m.task m.row
  pub runs : m.over ≡ None → (c : Core) × (slice_get cores m.task ≡ Some c) × (c.readiness ≡ Ready) × (current m.task ≡ k)

-- tasks of a view that are as they are written
pub record AreThreads (cores : List Core) (threads : List TaskUnit) : Type 0 where
  pub same : map (λ c. c.thread) cores ≡ threads

-- a log that belongs to a view, with the place of the last activation of each task
pub record Base (f : Frame) (v : View) (l : Log) (current : ℕ → ℕ) : Type 0 where
  pub clock : length l.ticks ≡ v.time
  pub logged : IsLogged f.rows l
  pub written : AreThreads v.cores f.system.threads
  pub runs : (j : ℕ) (c : Core) → slice_get v.cores j ≡ Some c → IsBusy f (now_of v) l current j c
  pub made : (k : ℕ) (m : Made) → slice_get l.acts k ≡ Some m → IsOf f v.cores current k m

-- ticks are left of the first piece of each ready task with a row
abbrev pub SomeLeft : Frame → View → Type 0
SomeLeft f v = (j r : ℕ) (c : Core) → HasRow f j r → slice_get v.cores j ≡ Some c → c.readiness ≡ Ready → c.left ≢ 0

-- the thread of a task, and the task of a thread
pub written-at : {cores : List Core} {threads : List TaskUnit} → AreThreads cores threads → (j : ℕ) (c : Core) → slice_get cores j ≡ Some c
    → slice_get threads j ≡ Some c.thread
written-at {cores} {threads} written j c e = ap (λ ts. slice_get ts j) (sym written.same) ∙ map-at (λ x. x.thread) cores j c e

pub core-at : {cores : List Core} {threads : List TaskUnit} → AreThreads cores threads → (j : ℕ) (t : TaskUnit) → slice_get threads j ≡ Some t
    → (c : Core) × (slice_get cores j ≡ Some c) × (c.thread ≡ t)
core-at {cores} {threads} written j t e = mapped-at (λ x. x.thread) cores j t (ap (λ ts. slice_get ts j) written.same ∙ e)

-- a change of what a task does leaves it as it is written
pub threads-kept : (i : ℕ) (g : Core → Core) (cores : List Core) (threads : List TaskUnit) → ((c : Core) → (g c).thread ≡ c.thread)
    → AreThreads cores threads → AreThreads (change i g cores) threads
threads-kept i g cores threads same written = record { same = map-kept (λ x. x.thread) i g cores same ∙ written.same }

-- a function with another value at one place
abbrev pub put : {A : Type 0} → ℕ → A → (ℕ → A) → ℕ → A
put j a g k = if k == j then a else g k

pub put-here : {A : Type 0} (j k : ℕ) (a : A) (g : ℕ → A) → k ≡ j → put j a g k ≡ a
put-here j k a g e = ap (λ b. if b then a else g k) (eq-eqb k j e)

pub put-other : {A : Type 0} (j k : ℕ) (a : A) (g : ℕ → A) → k ≢ j → put j a g k ≡ g k
put-other j k a g differ = ap (λ b. if b then a else g k) (ne_eqb k j differ)

-- activations stay those of ready tasks, where a change leaves a ready task ready
pub made-kept : (f : Frame) (i : ℕ) (g : Core → Core) (cores : List Core) (current : ℕ → ℕ) (k : ℕ) (m : Made)
    → ((c : Core) → c.readiness ≡ Ready → (g c).readiness ≡ Ready)
    → IsOf f cores current k m → IsOf f (change i g cores) current k m
made-kept f i g cores current k m stays is = record {
  row = is.row;
  runs = λ unended.
      let found = is.runs unended in
      let now = by found.0 found.1 found.2 (cases_eq m.task i) in
      (now.0, now.1, now.2, found.3);
}
  where
    by : (c : Core) → slice_get cores m.task ≡ Some c → c.readiness ≡ Ready → (m.task ≡ i) ⊎ (m.task ≢ i)
        → (d : Core) × (slice_get (change i g cores) m.task ≡ Some d) × (d.readiness ≡ Ready)
    by c e ready (inr differ) = (c, get-other i m.task g cores c differ e, ready)
    by c e ready (inl same) =
        let here : slice_get cores i ≡ Some c = subst (λ j. slice_get cores j ≡ Some c) same e in
        (g c, subst (λ j. slice_get (change i g cores) j ≡ Some (g c)) (sym same) (change-at i g cores c here), stays c ready)

-- on to a part of the instant: no effect comes
pub base-phase : (f : Frame) (v : View) (l : Log) (current : ℕ → ℕ) (phase : Phase) → Base f v l current → SomeLeft f v
    → Base f (record v { phase = phase }) l current
base-phase f v l current phase base some = record {
  clock = base.clock;
  logged = base.logged;
  written = base.written;
  runs = λ j c e r has ready.
      let b = base.runs j c e r has ready in
      record {
        own = b.own;
        count = b.count;
        cost = b.cost;
        ends = b.ends;
        left = λ none. absurd (some j r c has e ready none);
      };
  made = base.made;
}

-- a task that goes on with other pieces
busy-goes : (f : Frame) (now : Now) (l : Log) (place j r : ℕ) (c : Core) (p : Piece) (ps qs : List Piece)
    → Busy f now l place j r c → c.pieces ≡ p ∷ ps → c.left ≡ 0 → rest (ticks_measure f) qs ≤ behind (ticks_measure f) p + rest (ticks_measure f) ps
    → HasEnd qs
    → Busy f now l place j r (on_with f.system.costs qs c)
busy-goes f now l place j r c p ps [] busy is none less ends = absurd ends
busy-goes f now l place j r c p ps (q ∷ qs) busy is none less ends = record {
  own = busy.own;
  count = busy.count;
  cost = λ row asks.
      let before : c.used + remaining (ticks_measure f) c.left c.pieces ≤ row.cost = busy.cost row asks in
      let named : c.used + remaining (ticks_measure f) c.left (p ∷ ps) ≤ row.cost
      = subst (λ xs. c.used + remaining (ticks_measure f) c.left xs ≤ row.cost) is before in
      omega (arith, named, none, less, remaining-own f (slice_get c.thread.durations c.works) q qs);
  ends = ends;
  left = λ still. busy.left none;
}

-- a task goes on: at its place the pieces are new, and nothing else is
pub base-goes : (f : Frame) (v : View) (l : Log) (current : ℕ → ℕ) (i : ℕ) (c : Core) (p : Piece) (ps qs : List Piece) → Base f v l current
    → slice_get v.cores i ≡ Some c
    → c.pieces ≡ p ∷ ps → c.left ≡ 0 → rest (ticks_measure f) qs ≤ behind (ticks_measure f) p + rest (ticks_measure f) ps
    → (HasEnd c.pieces → HasEnd qs)
    → Base f (changed i (on_with f.system.costs qs) v) l current
base-goes f v l current i c p ps qs base here is none less ends = record {
  clock = base.clock;
  logged = base.logged;
  written = threads-kept i (on_with f.system.costs qs) v.cores f.system.threads (λ x. refl) base.written;
  runs = each-changed-one (IsBusy f (now_of v) l current) i (on_with f.system.costs qs) v.cores c here (λ j d other e. base.runs j d e)
      (λ r has ready.
      let busy = base.runs i c here r has ready in busy-goes f (now_of v) l (current i) i r c p ps qs busy is none less (ends busy.ends));
  made = λ k m e. made-kept f i (on_with f.system.costs qs) v.cores current k m (λ x ready. ready) (base.made k m e);
}

-- a control structure opens
pub base-opens : (f : Frame) (v : View) (l : Log) (current : ℕ → ℕ) (i : ℕ) → Base f v l current → Base f (changed i opened_core v) l current
base-opens f v l current i base = record {
  clock = base.clock;
  logged = base.logged;
  written = threads-kept i opened_core v.cores f.system.threads (λ x. refl) base.written;
  runs = each-changed (IsBusy f (now_of v) l current) i opened_core v.cores (λ j d other e. base.runs j d e) (λ x e r has ready.
      let b = base.runs i x e r has ready in
      record { own = b.own; count = b.count; cost = b.cost; ends = b.ends; left = b.left });
  made = λ k m e. made-kept f i opened_core v.cores current k m (λ x ready. ready) (base.made k m e);
}

pub base-arrivals : (f : Frame) (v : View) (l : Log) (current : ℕ → ℕ) (more : List Arrival) → Base f v l current
    → Base f (record v { arrivals = more }) l current
base-arrivals f v l current more base = record {
  clock = base.clock;
  logged = base.logged;
  written = base.written;
  runs = base.runs;
  made = base.made;
}

-- a task without a row changes
pub base-outside : (f : Frame) (v : View) (l : Log) (current : ℕ → ℕ) (i : ℕ) (g : Core → Core) → f.row_of i ≡ None
    → ((c : Core) → (g c).thread ≡ c.thread)
    → Base f v l current → Base f (changed i g v) l current
base-outside f v l current i g none thread base = record {
  clock = base.clock;
  logged = base.logged;
  written = threads-kept i g v.cores f.system.threads thread base.written;
  runs = each-changed (IsBusy f (now_of v) l current) i g v.cores (λ j d other e. base.runs j d e) (λ x e r has ready.
      absurd (no-row f i r none has));
  made = λ k m e.
      let is = base.made k m e in
      record {
        row = is.row;
        runs = λ going.
            let found = is.runs going in
            let far : m.task ≢ i = λ same. no-row f i m.row none (subst (λ j. f.row_of j ≡ Some m.row) same is.row) in
            (found.0, get-other i m.task g v.cores found.0 far found.1, found.2, found.3);
      };
}
