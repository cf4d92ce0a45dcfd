-- The releases of a cyclic task are at its times, where each of its activations ends before the next: from the stop of a run backwards.
use Rattle.std.specs.Prelude.{◌≡◌, ℕ, ◌+◌, ◌≤◌, ◌<◌, Bool, true, false, List, [], ◌∷◌, nat_le, None, ⊤, refl}
use Rattle.std.specs.List.{cons_option}
use Rattle.std.proofs.Common.{sym, ◌∙◌, ap, subst, arith}
use Rattle.seq_tree.specs.Names.{Name, same_name}
use Rattle.seq_tree.specs.Variables.{Variables}
use Rattle.ods_tree.specs.Walk.{only_if}
use Rattle.machine.specs.Systems.{System, TaskUnit, Periodic}
use Rattle.machine.specs.States.{Task, Phase, Effects, Delays, Arriving, Use, Readiness, Asleep, Waiting, Ready}
use Rattle.machine.specs.Releases.{released, next_time}
use Rattle.machine.specs.Effects.{ended, resting}
use Rattle.guarantee.specs.Events.{Release, End, Event, By, Horizon}
use Rattle.guarantee.specs.Events as names
use Rattle.guarantee.specs.Releases.{Released, releases, AreOnTime}
use Rattle.guarantee.specs.Bounded.{Response, Either, EndsBy, Responds}
use Rattle.law_lists.proofs.Shared.Facts.{same-self}
use Rattle.machine.specs.Steps.{is_due}
use Rattle.law_releases.proofs.Shared.Carrying.{SameFace, IsElse, IsCarried}

module _ (name : Name) (period until : ℕ) (ticks : ℕ) where
  abbrev pub r : Response
  r = record { thread = name; ticks = ticks }

  -- a time at which a sleeper sleeps
  abbrev pub Sleeps : Phase → ℕ → ℕ → Type 0
  Sleeps Effects now m = now ≤ m
  Sleeps Delays now m = now ≤ m
  Sleeps Arriving now m = now < m
  Sleeps Use now m = now < m

  -- a task that is asleep until its next time, or whose activation ends by then
  abbrev pub IsAhead : Phase → ℕ → Readiness → ℕ → List Event → Type 0
  IsAhead phase now (Asleep m) next told = (m ≡ next) × Sleeps phase now m
  IsAhead phase now Waiting next told = ⊥
  IsAhead phase now Ready next told = next ≤ until → EndsBy name next told

  abbrev pub OnTime : Phase → ℕ → Task → List Event → Type 0
  OnTime phase now t told = t.gate.value ≡ None → Responds until told r → IsAhead phase now t.readiness t.next told
      → AreOnTime period until t.next (releases name told)

  -- an event that is no release and no end of the task
  record IsUnheard (e : Event) : Type 0 where
    releases' : (told : List Event) → releases name (e ∷ told) ≡ releases name told
    responds : (told : List Event) → Responds until (e ∷ told) r → Responds until told r
    ends : (told : List Event) (latest : ℕ) → EndsBy name latest (e ∷ told) → EndsBy name latest told

  unheard-else : (e : Event) → IsElse name e → IsUnheard e
  unheard-else (By time task (Release value)) apart = record {
    releases' = λ told. ap (λ b. cons_option (only_if b (record { time = time; value = value })) (releases name told)) apart;
    responds = λ told h. h.1;
    ends = λ told latest h. h;
  }
  unheard-else (By time task (End used)) apart = record {
    releases' = λ told. refl;
    responds = λ told h. h;
    ends = λ told latest h. let P : Bool → Type 0 = λ b. Either b (time ≤ latest) (EndsBy name latest told) in subst P apart h;
  }
  unheard-else (By time task (names.Arrive value)) e = record { releases' = λ told. refl; responds = λ told h. h; ends = λ told latest h. h }
  unheard-else (By time task (names.Enter op values)) e = record { releases' = λ told. refl; responds = λ told h. h; ends = λ told latest h. h }
  unheard-else (By time task (names.Leave op values)) e = record { releases' = λ told. refl; responds = λ told h. h; ends = λ told latest h. h }
  unheard-else (By time task (names.Request target value)) e = record { releases' = λ told. refl; responds = λ told h. h; ends = λ told latest h. h }
  unheard-else (By time task (names.Print value)) e = record { releases' = λ told. refl; responds = λ told h. h; ends = λ told latest h. h }
  unheard-else (By time task (names.Stop object priority ceiling)) e =
      record { releases' = λ told. refl; responds = λ told h. h; ends = λ told latest h. h }
  unheard-else (Horizon time) e = record { releases' = λ told. refl; responds = λ told h. h; ends = λ told latest h. h }

  ahead_later : (phase : Phase) (now : ℕ) (e : Event) (rd : Readiness) (next : ℕ) (told : List Event) → IsUnheard e
      → IsAhead phase now rd next (e ∷ told) → IsAhead phase now rd next told
  ahead_later phase now e (Asleep m) next told u h = h
  ahead_later phase now e Waiting next told u h = h
  ahead_later phase now e Ready next told u h = λ early. u.ends told next (h early)

  unheard_back : (phase : Phase) (now : ℕ) (t : Task) (e : Event) (told : List Event) → IsElse name e → OnTime phase now t told
      → OnTime phase now t (e ∷ told)
  unheard_back phase now t e told apart c none responds ahead =
      let u : IsUnheard e = unheard-else e apart in
      let P : List Released → Type 0 = λ rs. AreOnTime period until t.next rs in
      subst P (sym (u.releases' told)) (c none (u.responds told responds) (ahead_later phase now e t.readiness t.next told u ahead))

  face_back : (phase : Phase) (now : ℕ) (t u : Task) (told : List Event) → SameFace t u → OnTime phase now u told → OnTime phase now t told
  face_back phase now t u told s c none responds ahead =
      let N : ℕ → Type 0 = λ n. AreOnTime period until n (releases name told) in
      let A : Readiness → Type 0 = λ rd. IsAhead phase now rd t.next told in
      let B : ℕ → Type 0 = λ n. IsAhead phase now u.readiness n told in
      subst N s.next (c (s.value ∙ none) responds (subst B (sym s.next) (subst A (sym s.readiness) ahead)))

  waits_back : (phase : Phase) (now : ℕ) (t : Task) (told : List Event) → t.readiness ≡ Waiting → OnTime phase now t told
  waits_back phase now t told waits none responds ahead =
      let A : Readiness → Type 0 = λ rd. IsAhead phase now rd t.next told in
      absurd (subst A waits ahead)

  -- the end of the task
  end_back : (th : TaskUnit) (offset : ℕ) (vars : Variables) (now : ℕ) (t : Task) (told : List Event) → th.timing ≡ Periodic offset period
      → t.thread ≡ th → t.readiness ≡ Ready → now ≤ until → OnTime Effects now (ended vars t) told
      → OnTime Effects now t (By now name (End t.used) ∷ told)
  end_back th offset vars now t told timing thread ready early c none responds ahead =
      let rests : (ended vars t).readiness ≡ Asleep t.next = ap (λ z. resting z t.next) (ap (λ z. z.timing) thread ∙ timing) in
      let A : Readiness → Type 0 = λ rd. IsAhead Effects now rd t.next (By now name (End t.used) ∷ told) in
      let busy : t.next ≤ until → EndsBy name t.next (By now name (End t.used) ∷ told) = subst A ready ahead in
      let by : Bool → Type 0 = λ b. Either b (now ≤ t.next) (EndsBy name t.next told) in
      let sleeps : now ≤ t.next = before (nat_le t.next until) refl (λ h. subst by (same-self name) (busy h)) in
      let B : Readiness → Type 0 = λ rd. IsAhead Effects now rd t.next told in
      c none responds (subst B (sym rests) (refl, sleeps))
    where
      before : (b : Bool) → nat_le t.next until ≡ b → (t.next ≤ until → now ≤ t.next) → now ≤ t.next
      before true e h = h (grind arith)
      before false e h = let late : until < t.next = grind arith in omega (arith, late, early)

  -- ends that come earlier
  ends_mono : (m n : ℕ) (told : List Event) → m ≤ n → EndsBy name m told → EndsBy name n told
  ends_mono m n [] h e = e
  ends_mono m n (By time task (End used) ∷ told) h e = by (same_name task name) e (ends_mono m n told h)
    where
      by : (b : Bool) → Either b (time ≤ m) (EndsBy name m told) → (EndsBy name m told → EndsBy name n told)
          → Either b (time ≤ n) (EndsBy name n told)
      by true z later = omega (arith, z, h)
      by false z later = later z
  ends_mono m n (By time task (Release value) ∷ told) h e = ends_mono m n told h e
  ends_mono m n (By time task (names.Arrive value) ∷ told) h e = ends_mono m n told h e
  ends_mono m n (By time task (names.Enter op values) ∷ told) h e = ends_mono m n told h e
  ends_mono m n (By time task (names.Leave op values) ∷ told) h e = ends_mono m n told h e
  ends_mono m n (By time task (names.Request target value) ∷ told) h e = ends_mono m n told h e
  ends_mono m n (By time task (names.Print value) ∷ told) h e = ends_mono m n told h e
  ends_mono m n (By time task (names.Stop object priority ceiling) ∷ told) h e = ends_mono m n told h e
  ends_mono m n (Horizon time ∷ told) h e = ends_mono m n told h e

  -- the release of the task at its time
  release_back : (y : System) (th : TaskUnit) (offset now m : ℕ) (t : Task) (told : List Event) → th.timing ≡ Periodic offset period
      → ticks ≤ period → now ≤ until → t.readiness ≡ Asleep m → m ≤ now
      → (released y.costs t).readiness ≡ Ready → (released y.costs t).next ≡ next_time th.timing t.next → (released y.costs t).gate.value ≡ None
      → OnTime Delays now (released y.costs t) told → OnTime Delays now t (By now name (Release t.gate.value) ∷ told)
  release_back y th offset now m t told timing short early asleep due ready again empty c none responds ahead =
      let A : Readiness → Type 0 = λ rd. IsAhead Delays now rd t.next (By now name (Release t.gate.value) ∷ told) in
      let sleeps : (m ≡ t.next) × (now ≤ m) = subst A asleep ahead in
      let next : (released y.costs t).next ≡ t.next + period = again ∙ ap (λ z. next_time z t.next) timing in
      let by : Bool → Type 0 = λ b. Either b (now + ticks ≤ until → EndsBy name (now + ticks) told) ⊤ in
      let soon : now + ticks ≤ until → EndsBy name (now + ticks) told = subst by (same-self name) responds.0 in
      let B : Readiness → Type 0 = λ rd. IsAhead Delays now rd (released y.costs t).next told in
      let ends : (released y.costs t).next ≤ until → EndsBy name (released y.costs t).next told =
      λ h. ends_mono (now + ticks) (released y.costs t).next told (omega (arith, next, sleeps.0, sleeps.1, due, short))
      (soon (omega (arith, next, sleeps.0, sleeps.1, due, short, h))) in
      let rest : AreOnTime period until (released y.costs t).next (releases name told) = c empty responds.1 (subst B (sym ready) ends) in
      let N : ℕ → Type 0 = λ n. AreOnTime period until n (releases name told) in
      let R : List Released → Type 0 = λ rs. AreOnTime period until t.next rs in
      let told_here : releases name (By now name (Release t.gate.value) ∷ told) ≡ record { time = now; value = t.gate.value } ∷ releases name told =
      ap (λ b. cons_option (only_if b (record { time = now; value = t.gate.value })) (releases name told)) (same-self name) in
      subst R (sym told_here) (omega (arith, sleeps.0, due, early), omega (arith, sleeps.0, sleeps.1, due), none, subst N next rest)

  -- sleepers from one part of an instant to another
  on_by : (phase phase' : Phase) (now now' : ℕ) (rd : Readiness) (next : ℕ) (told : List Event)
      → ((m : ℕ) → rd ≡ Asleep m → Sleeps phase now m → Sleeps phase' now' m) → IsAhead phase now rd next told → IsAhead phase' now' rd next told
  on_by phase phase' now now' (Asleep m) next told f h = (h.0, f m refl h.1)
  on_by phase phase' now now' Waiting next told f h = h
  on_by phase phase' now now' Ready next told f h = h

  phase_back : (phase phase' : Phase) (now now' : ℕ) (t : Task) (told : List Event)
      → ((m : ℕ) → t.readiness ≡ Asleep m → Sleeps phase now m → Sleeps phase' now' m) → OnTime phase' now' t told → OnTime phase now t told
  phase_back phase phase' now now' t told on c none responds ahead =
      c none responds (on_by phase phase' now now' t.readiness t.next told on ahead)

  late : (now m : ℕ) → nat_le m now ≡ false → now < m
  late now m e = grind arith

  at_last : (t : Task) → OnTime Arriving until t (Horizon until ∷ [])
  at_last t none responds ahead = by t.readiness ahead
    where
      by : (rd : Readiness) → IsAhead Arriving until rd t.next (Horizon until ∷ []) → until < t.next
      by (Asleep m) h = omega (arith, h.0, h.1)
      by Waiting h = absurd h
      by Ready h = past (nat_le t.next until) refl
        where
          past : (b : Bool) → nat_le t.next until ≡ b → until < t.next
          past true e = absurd (h (grind arith))
          past false e = grind arith

-- that a cyclic task is on time is carried back
pub on-time-carried : (y : System) (th : TaskUnit) (offset period ticks : ℕ) → th.timing ≡ Periodic offset period → ticks ≤ period
    → IsCarried y th (OnTime th.name period y.until ticks)
on-time-carried y th offset period ticks timing short = record {
  unheard = unheard_back th.name period y.until ticks;
  same_face = face_back th.name period y.until ticks;
  waits = waits_back th.name period y.until ticks;
  ends = λ vars now t told. end_back th.name period y.until ticks th offset vars now t told timing;
  releases = λ now m t told. release_back th.name period y.until ticks y th offset now m t told timing short;
  to_delays = λ now t told. phase_back th.name period y.until ticks Effects Delays now now t told (λ m e z. z);
  to_arriving = λ now t told still. phase_back th.name period y.until ticks Delays Arriving now now t told (λ m e z.
      let D : Readiness → Type 0 = λ rd. is_due now rd ≡ false in late th.name period y.until ticks now m (subst D e still));
  to_use = λ now t told. phase_back th.name period y.until ticks Arriving Use now now t told (λ m e z. z);
  to_next = λ now t told. phase_back th.name period y.until ticks Use Effects now (now + 1) t told (λ m e z. omega (arith, z));
  at_last = at_last th.name period y.until ticks;
}
