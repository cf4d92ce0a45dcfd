-- What a part of a run does to a log: its activations and ticks, what is told of them, and who used the ticks.
use Rattle.std.specs.Prelude.{◌≡◌, ◌≢◌, ◌⊎◌, ℕ, suc, ◌+◌, ◌≤◌, List, [], ◌∷◌, ◌++◌, map, length, slice_get, Option, Some, None, ⊤, refl}
use Rattle.std.proofs.Common.{sym, ◌∙◌, ap, subst, arith, inl, inr, append-nil, append_assoc}
use Rattle.std.proofs.lemmas.Option.{slice_get_within}
use Rattle.std.proofs.lemmas.Bool.{cases_eq}
use Rattle.seq_tree.specs.Lists.{change, Each}
use Rattle.trace_tree.specs.declared.event.Event.{Event}
use Rattle.trace_tree.specs.declared.event.Event.TheVariants as event
use Rattle.machine.specs.Systems.{TaskUnit}
use Rattle.machine.specs.States.{Phase, Effects, Delays, Arriving, Use, Ready}
use Rattle.law_responses.proofs.Logs.{Made, Log, started, over_at, finished, ticked}
use Rattle.law_responses.proofs.Later.{WasThere, IsStill, was-self, was-ended, still-grown, still-ended}
use Rattle.law_responses.proofs.Views.{Core, View, now_of}
use Rattle.law_responses.proofs.Frames.{Frame, HasRow, no-row, IsFramed, Notes}
use Rattle.law_responses.proofs.Base.{Busy, Base, written-at}
use Rattle.law_responses.proofs.Asking.{Asking}
use Rattle.law_responses.proofs.Told.{answers, with_end, IsOther, answers-other, answers-release, other-release, answers-end, other-end, ends_of}
use Rattle.law_responses.proofs.Told.{ends-own, ends-else, ends-far, ends-end}
use Rattle.law_lists.proofs.Shared.Places.{get-grown, length-grown, same-item, each-grown}
use Rattle.law_lists.proofs.Shared.Lists.{each-append}

-- a log and notes that belong to a view
pub record Along (f : Frame) (v : View) (l : Log) (n : Notes) : Type 0 where
  pub base : Base f v l n.current
  pub asking : Asking f v l n

-- what is released from this time on is new; all else was there before
abbrev pub Grows : ℕ → List Made → List Made → Type 0
Grows time acts acts' = (k : ℕ) (m : Made) → slice_get acts' k ≡ Some m → (time ≤ m.release) ⊎ WasThere acts k m

-- who used a tick, by what a log says of it
abbrev pub IsUser : Frame → List Made → Option ℕ → Option ℕ → Type 0
IsUser f acts None user = (j r : ℕ) → user ≡ Some j → HasRow f j r → ⊥
IsUser f acts (Some k) user = (m : Made) × (slice_get acts k ≡ Some m) × (user ≡ Some m.task)

pub record AreUsers (f : Frame) (l : Log) (users : List (Option ℕ)) : Type 0 where
  pub count : length users ≡ length l.ticks
  pub each : (t : ℕ) (o user : Option ℕ) → slice_get l.ticks t ≡ Some o → slice_get users t ≡ Some user → IsUser f l.acts o user

-- what is told says of each task with a row what a log does
abbrev pub AreTold : Frame → List Event → List Made → Type 0
AreTold f es acts = (j r : ℕ) (t : TaskUnit) → HasRow f j r → slice_get f.system.threads j ≡ Some t → answers t.unit es ≡ ends_of r acts

-- a release or an end is of a thread's unit
abbrev pub IsOfUnit : Frame → ℕ → Type 0
IsOfUnit f task = (j : ℕ) × (t : TaskUnit) × (slice_get f.system.threads j ≡ Some t) × (t.unit ≡ task)

abbrev pub HasUnit : Frame → Event → Type 0
HasUnit f (event.Release time task value) = IsOfUnit f task
HasUnit f (event.End time task used) = IsOfUnit f task
HasUnit f _ = ⊤

-- the time from which on activations may be released and end: from the use of a tick on the next one
abbrev pub since_by : Phase → ℕ → ℕ
since_by Use time = time + 1
since_by Effects time = time
since_by Delays time = time
since_by Arriving time = time

abbrev pub since : View → ℕ
since v = since_by v.phase v.time

-- a log that has grown through a part of a run, by what the part tells and who used its ticks
pub record Grown (f : Frame) (v v' : View) (l log : Log) (es : List Event) (users : List (Option ℕ)) : Type 0 where
  pub time : since v ≤ since v'
  pub grows : Grows (since v) l.acts log.acts
  pub told : (before : List Event) → AreTold f before l.acts → AreTold f (before ++ es) log.acts
  pub used : (before : List (Option ℕ)) → AreUsers f l before → AreUsers f log (before ++ users)
  pub units : Each (HasUnit f) es

-- a part of a run, from a view and a log to another view
pub record Moved (f : Frame) (v v' : View) (l : Log) (es : List Event) (users : List (Option ℕ)) : Type 0 where
  pub log : Log
  pub notes : Notes
  pub along : Along f v' log notes
  pub grown : Grown f v v' l log es users

-- events that are not of tasks with rows, or are no releases and ends
pub record AreQuiet (f : Frame) (es : List Event) : Type 0 where
  pub same : (j r : ℕ) (t : TaskUnit) (before : List Event) → HasRow f j r → slice_get f.system.threads j ≡ Some t
      → answers t.unit (before ++ es) ≡ answers t.unit before
  pub units : Each (HasUnit f) es

pub quiet-none : (f : Frame) → AreQuiet f []
quiet-none f = record { same = λ j r t before has at. ap (answers t.unit) (append-nil before); units = tt }

pub quiet-one : (f : Frame) (e : Event) → ((u : ℕ) → IsOther u e) → HasUnit f e → AreQuiet f (e ∷ [])
quiet-one f e other unit = record { same = λ j r t before has at. answers-other t.unit before e (other t.unit); units = (unit, tt) }

pub quiet-far : (f : Frame) (i : ℕ) (c : TaskUnit) (e : Event) → IsFramed f → f.row_of i ≡ None → slice_get f.system.threads i ≡ Some c
    → ((u : ℕ) → c.unit ≢ u → IsOther u e) → HasUnit f e → AreQuiet f (e ∷ [])
quiet-far f i c e framed none at other unit = record {
  same = λ j r t before has stands.
      answers-other t.unit before e (other t.unit
      (λ same. no-row f i r none (subst (λ k. f.row_of k ≡ Some r) (sym (framed.units i j c t at stands same)) has)));
  units = (unit, tt);
}

-- a part that leaves the log as it is
pub grown-still : (f : Frame) (v v' : View) (l : Log) (es : List Event) → since v ≤ since v' → AreQuiet f es → Grown f v v' l l es []
grown-still f v v' l es time quiet = record {
  time = time;
  grows = λ k m e. inr (was-self l.acts k m e);
  told = λ before known j r t has at. quiet.same j r t before has at ∙ known j r t has at;
  used = λ before known. subst (AreUsers f l) (sym (append-nil before)) known;
  units = quiet.units;
}

pub moved-still : (f : Frame) (v v' : View) (l : Log) (n : Notes) (es : List Event) → Along f v' l n → since v ≤ since v' → AreQuiet f es
    → Moved f v v' l es []
moved-still f v v' l n es along time quiet = record { log = l; notes = n; along = along; grown = grown-still f v v' l es time quiet }

-- one part after another
pub grown-then : (f : Frame) (v v' v'' : View) (l l' l'' : Log) (es es' : List Event) (users users' : List (Option ℕ)) → Grown f v v' l l' es users
    → Grown f v' v'' l' l'' es' users'
    → Grown f v v'' l l'' (es ++ es') (users ++ users')
grown-then f v v' v'' l l' l'' es es' users users' first second =
    let t1 : since v ≤ since v' = first.time in
    let t2 : since v' ≤ since v'' = second.time in
    record {
      time = omega (arith, t1, t2);
      grows = λ k m e. grows k m (second.grows k m e);
      told = λ before known. subst (λ xs. AreTold f xs l''.acts) (append_assoc before es es') (second.told (before ++ es) (first.told before known));
      used = λ before known. subst (AreUsers f l'') (append_assoc before users users') (second.used (before ++ users) (first.used before known));
      units = each-append (HasUnit f) es es' first.units second.units;
    }
  where
    chain : (k : ℕ) (m : Made) (w : WasThere l'.acts k m) → (since v ≤ w.made.release) ⊎ WasThere l.acts k w.made
        → (since v ≤ m.release) ⊎ WasThere l.acts k m
    chain k m w (inl late) = let same : w.made.release ≡ m.release = w.alike.release in inl (omega (arith, late, same))
    chain k m w (inr u) = inr (record {
      made = u.made;
      stands = u.stands;
      alike = record {
        task = u.alike.task ∙ w.alike.task;
        row = u.alike.row ∙ w.alike.row;
        nominal = u.alike.nominal ∙ w.alike.nominal;
        asked = u.alike.asked ∙ w.alike.asked;
        release = u.alike.release ∙ w.alike.release;
      };
      over = over u.over w.over;
    })
      where
        over : (u.made.over ≡ None) ⊎ (u.made.over ≡ w.made.over) → (w.made.over ≡ None) ⊎ (w.made.over ≡ m.over)
            → (u.made.over ≡ None) ⊎ (u.made.over ≡ m.over)
        over (inl none) b = inl none
        over (inr same) (inl none) = inl (same ∙ none)
        over (inr same) (inr also) = inr (same ∙ also)

    grows : (k : ℕ) (m : Made) → (since v' ≤ m.release) ⊎ WasThere l'.acts k m → (since v ≤ m.release) ⊎ WasThere l.acts k m
    grows k m (inl late) = let t1 : since v ≤ since v' = first.time in inl (omega (arith, late, t1))
    grows k m (inr was) = chain k m was (first.grows k was.made was.stands)

pub moved-then : (f : Frame) (v v' v'' : View) (l l' : Log) (es es' : List Event) (users users' : List (Option ℕ)) → Grown f v v' l l' es users
    → Moved f v' v'' l' es' users'
    → Moved f v v'' l (es ++ es') (users ++ users')
moved-then f v v' v'' l l' es es' users users' first second = record {
  log = second.log;
  notes = second.notes;
  along = second.along;
  grown = grown-then f v v' v'' l l' second.log es es' users users' first second.grown;
}

-- the users of ticks stay those of their activations
user-later : (f : Frame) (acts acts' : List Made) (now : ℕ) → ((k : ℕ) (m : Made) → slice_get acts k ≡ Some m → IsStill acts' now k m)
    → (o user : Option ℕ) → IsUser f acts o user → IsUser f acts' o user
user-later f acts acts' now all None user h = h
user-later f acts acts' now all (Some k) user h = let still = all k h.0 h.1 in (still.made, still.stands, h.2 ∙ ap Some still.alike.task)

-- a release of a task with a row
pub grown-started : (f : Frame) (v v' : View) (l : Log) (i r : ℕ) (c : TaskUnit) (m : Made) (value : Option ℕ) → IsFramed f → since v ≤ since v'
    → HasRow f i r → slice_get f.system.threads i ≡ Some c → m.row ≡ r → m.over ≡ None → m.release ≡ v.time → since v ≤ v.time
    → Grown f v v' l (started m l) (event.Release v.time c.unit value ∷ []) []
grown-started f v v' l i r c m value framed time has at of_row unended now begun = record {
  time = time;
  grows = each-grown (λ k x. (since v ≤ x.release)
      ⊎ WasThere l.acts k x) l.acts m (λ k x e. inr (was-self l.acts k x e)) (inl (omega (arith, now, begun)));
  told = λ before known j s t has' at'. told before known j s t has' at' (cases_eq j i);
  used = λ before known. subst (AreUsers f (started m l)) (sym (append-nil before)) (record {
    count = known.count;
    each = λ k o user e g. user-later f l.acts (l.acts ++ m ∷ []) v.time (still-grown l.acts m v.time) o user (known.each k o user e g);
  });
  units = ((i, c, at, refl), tt);
}
  where
    told : (before : List Event) → AreTold f before l.acts → (j s : ℕ) (t : TaskUnit) → HasRow f j s → slice_get f.system.threads j ≡ Some t
        → (j ≡ i) ⊎ (j ≢ i)
        → answers t.unit (before ++ event.Release v.time c.unit value ∷ []) ≡ ends_of s (l.acts ++ m ∷ [])
    told before known j s t has' at' (inl same) =
        let thread_same : c ≡ t = same-item (slice_get f.system.threads i) c t at (subst (λ k. slice_get f.system.threads k ≡ Some t) same at') in
        let rows_same : r ≡ s = same-item (f.row_of i) r s has (subst (λ k. f.row_of k ≡ Some s) same has') in
        answers-release t.unit before v.time c.unit value (ap (λ x. x.unit) thread_same) ∙ ap (λ xs. xs ++ (v.time, None) ∷ []) (known j s t has' at')
        ∙ ap (λ x. ends_of s l.acts ++ (x, None) ∷ []) (sym now) ∙ ap (λ o. ends_of s l.acts ++ (m.release, o) ∷ []) (sym unended)
        ∙ sym (ends-own s l.acts m (of_row ∙ rows_same))
    told before known j s t has' at' (inr differ) =
        answers-other t.unit before (event.Release v.time c.unit value)
        (other-release t.unit v.time c.unit value (λ same. differ (framed.units j i t c at' at (sym same))))
        ∙ known j s t has' at' ∙ sym (ends-else s l.acts m
        (λ same. differ (framed.one j i s has' (subst (λ x. f.row_of i ≡ Some x) (sym of_row ∙ same) has))))

-- the end of an activation of a task with a row
pub grown-finished : (f : Frame) (v v' : View) (l : Log) (n : Notes) (i r : ℕ) (c : Core) (used : ℕ) → IsFramed f → Base f v l n.current
    → since v ≤ since v'
    → HasRow f i r → slice_get v.cores i ≡ Some c → c.readiness ≡ Ready
    → Grown f v v' l (finished (n.current i) l) (event.End v.time c.thread.unit used ∷ []) []
grown-finished f v v' l n i r c used framed base time has here ready = record {
  time = time;
  grows = λ k x e. inr (was-ended l.acts (n.current i) (length l.ticks) busy.own.made busy.own.stands busy.own.unended k x e);
  told = λ before known j s t has' at'. told before known j s t has' at' (cases_eq j i);
  used = λ before known. subst (AreUsers f (finished (n.current i) l)) (sym (append-nil before)) (record {
    count = known.count;
    each = λ k o user e g.
        user-later f l.acts (change (n.current i) (over_at (length l.ticks)) l.acts) (length l.ticks) (still-ended l.acts (n.current i)
        (length l.ticks) busy.own.made busy.own.stands busy.own.unended) o user (known.each k o user e g);
  });
  units = ((i, c.thread, written-at base.written i c here, refl), tt);
}
  where
    busy : Busy f (now_of v) l (n.current i) i r c
    busy = base.runs i c here r has ready

    at : slice_get f.system.threads i ≡ Some c.thread
    at = written-at base.written i c here

    alone : (k : ℕ) (x : Made) → slice_get l.acts k ≡ Some x → x.row ≡ r → x.over ≡ None → k ≡ n.current i
    alone k x e same unended =
        let is = base.made k x e in
        let found = is.runs unended in
        let task_is : x.task ≡ i = framed.one x.task i r (subst (λ z. f.row_of x.task ≡ Some z) same is.row) has in
        sym found.3 ∙ ap n.current task_is

    told : (before : List Event) → AreTold f before l.acts → (j s : ℕ) (t : TaskUnit) → HasRow f j s → slice_get f.system.threads j ≡ Some t
        → (j ≡ i) ⊎ (j ≢ i)
        → answers t.unit (before ++ event.End v.time c.thread.unit used ∷ []) ≡ ends_of s (change (n.current i) (over_at (length l.ticks)) l.acts)
    told before known j s t has' at' (inl same) =
        let thread_same : c.thread ≡ t = same-item (slice_get f.system.threads i) c.thread t at
        (subst (λ k. slice_get f.system.threads k ≡ Some t) same at') in
        let rows_same : r ≡ s = same-item (f.row_of i) r s has (subst (λ k. f.row_of k ≡ Some s) same has') in
        let ends : ends_of r (change (n.current i) (over_at (length l.ticks)) l.acts) ≡ map (with_end (Some (length l.ticks))) (ends_of r l.acts) =
        ends-end r (n.current i) (length l.ticks) l.acts busy.own.made busy.own.stands busy.own.of_row busy.own.unended alone in
        answers-end t.unit before v.time c.thread.unit used (ap (λ x. x.unit) thread_same) ∙ ap (map (with_end (Some v.time))) (known j s t has' at')
        ∙ ap (λ z. map (with_end (Some z)) (ends_of s l.acts)) (sym base.clock) ∙ ap (λ z. map (with_end (Some (length l.ticks))) (ends_of z l.acts))
        (sym rows_same)
        ∙ sym ends ∙ ap (λ z. ends_of z (change (n.current i) (over_at (length l.ticks)) l.acts)) rows_same
    told before known j s t has' at' (inr differ) =
        answers-other t.unit before (event.End v.time c.thread.unit used)
        (other-end t.unit v.time c.thread.unit used (λ same. differ (framed.units j i t c.thread at' at (sym same))))
        ∙ known j s t has' at'
        ∙ sym (ends-far s (n.current i) (length l.ticks) l.acts (λ m e same. differ (framed.one j i s has' (has_s m e same))))
      where
        has_s : (m : Made) → slice_get l.acts (n.current i) ≡ Some m → m.row ≡ s → HasRow f i s
        has_s m e same =
            let is : busy.own.made ≡ m = same-item (slice_get l.acts (n.current i)) busy.own.made m busy.own.stands e in
            subst (λ z. f.row_of i ≡ Some z) (sym busy.own.of_row ∙ ap (λ y. y.row) is ∙ same) has

-- a tick
pub grown-ticked : (f : Frame) (v v' : View) (l : Log) (o user : Option ℕ) → since v ≤ since v' → IsUser f l.acts o user
    → Grown f v v' l (ticked o l) [] (user ∷ [])
grown-ticked f v v' l o user time is = record {
  time = time;
  grows = λ k m e. inr (was-self l.acts k m e);
  told = λ before known j r t has at. ap (answers t.unit) (append-nil before) ∙ known j r t has at;
  used = λ before known. record {
    count = length-grown before user ∙ ap suc known.count ∙ sym (length-grown l.ticks o);
    each = λ t x y e g. each before known t x y (get-grown l.ticks o t x e) (get-grown before user t y g);
  };
  units = tt;
}
  where
    each : (before : List (Option ℕ)) → AreUsers f l before → (t : ℕ) (x y : Option ℕ) → (slice_get l.ticks t ≡ Some x)
        ⊎ ((t ≡ length l.ticks) × (o ≡ x))
        → (slice_get before t ≡ Some y) ⊎ ((t ≡ length before) × (user ≡ y)) → IsUser f l.acts x y
    each before known t x y (inl e) (inl g) = known.each t x y e g
    each before known t x y (inl e) (inr new) = absurd (omega (arith, new.0, known.count, slice_get_within l.ticks t x e))
    each before known t x y (inr new) (inl g) = absurd (omega (arith, new.0, known.count, slice_get_within before t y g))
    each before known t x y (inr a) (inr b) = subst (λ z. IsUser f l.acts z y) a.1 (subst (λ z. IsUser f l.acts o z) b.1 is)
