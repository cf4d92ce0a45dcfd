-- A cyclic task of offset 0 and period 1 is released again at once: from the stop of a run backwards, what is told of its turns.
use Rattle.std.specs.Prelude.{◌≡◌, ℕ, ◌+◌, ◌≤◌, ◌<◌, false, List, [], ◌∷◌, nat_le, Option, Some, None, refl}
use Rattle.std.specs.List.{cons_option}
use Rattle.std.proofs.Common.{sym, ◌∙◌, ap, subst, arith}
use Rattle.seq_tree.specs.Names.{Name}
use Rattle.seq_tree.specs.Variables.{Variables}
use Rattle.ods_tree.specs.Walk.{only_if}
use Rattle.machine.specs.Systems.{System, TaskUnit, Periodic}
use Rattle.machine.specs.States.{Task, Phase, Effects, Delays, Arriving, Use, Readiness, Asleep, Waiting, Ready}
use Rattle.machine.specs.Releases.{released, next_time}
use Rattle.machine.specs.Effects.{ended, resting}
use Rattle.machine.specs.Steps.{is_due}
use Rattle.guarantee.specs.Events.{Release, End, Event, By, Horizon}
use Rattle.guarantee.specs.Events as names
use Rattle.law_lists.proofs.Shared.Facts.{same-self}
use Rattle.law_releases.proofs.Shared.Carrying.{SameFace, IsElse, IsCarried}
use Rattle.background_designs.specs.Turns.{Turn, Begun, Ended, turns, AreAtOnce}

-- a task that is due where it sleeps, and whose next time comes no later than the next tick where it is ready
abbrev pub IsPrompt : Phase → ℕ → Readiness → ℕ → Type 0
IsPrompt Effects now (Asleep m) next = (m ≡ next) × (m ≤ now)
IsPrompt Delays now (Asleep m) next = (m ≡ next) × (m ≤ now)
IsPrompt Arriving now (Asleep m) next = ⊥
IsPrompt Use now (Asleep m) next = ⊥
IsPrompt phase now Waiting next = ⊥
IsPrompt Effects now Ready next = next ≤ now
IsPrompt Delays now Ready next = next ≤ now + 1
IsPrompt Arriving now Ready next = next ≤ now + 1
IsPrompt Use now Ready next = next ≤ now + 1

-- since when a task is idle
abbrev pub idle_since : ℕ → Readiness → Option ℕ
idle_since now (Asleep m) = Some now
idle_since now Waiting = None
idle_since now Ready = None

module _ (name : Name) where
  -- a task that is prompt takes its turns at once
  pub record AtOnce (phase : Phase) (now : ℕ) (t : Task) (told : List Event) : Type 0 where
    pub gives : t.gate.value ≡ None → IsPrompt phase now t.readiness t.next → AreAtOnce (idle_since now t.readiness) (turns name told)

  -- an event that is neither a release nor an end of the task is no turn of it
  skipped : (e : Event) (told : List Event) → IsElse name e → turns name (e ∷ told) ≡ turns name told
  skipped (By time task (Release value)) told apart = ap (λ b. cons_option (only_if b (Begun time value)) (turns name told)) apart
  skipped (By time task (End used)) told apart = ap (λ b. cons_option (only_if b (Ended time)) (turns name told)) apart
  skipped (By time task (names.Arrive value)) told e = refl
  skipped (By time task (names.Enter op values)) told e = refl
  skipped (By time task (names.Leave op values)) told e = refl
  skipped (By time task (names.Request target value)) told e = refl
  skipped (By time task (names.Print value)) told e = refl
  skipped (By time task (names.Stop object priority ceiling)) told e = refl
  skipped (Horizon time) told e = refl

  unheard_back : (phase : Phase) (now : ℕ) (t : Task) (e : Event) (told : List Event) → IsElse name e → AtOnce phase now t told
      → AtOnce phase now t (e ∷ told)
  unheard_back phase now t e told apart c = record {
    gives = λ none prompt. let P : List Turn → Type 0 = λ zs. AreAtOnce (idle_since now t.readiness) zs
        in subst P (sym (skipped e told apart)) (c.gives none prompt);
  }

  face_back : (phase : Phase) (now : ℕ) (t u : Task) (told : List Event) → SameFace t u → AtOnce phase now u told → AtOnce phase now t told
  face_back phase now t u told s c = record {
    gives = λ none prompt.
        let N : Readiness → Type 0 = λ rd. AreAtOnce (idle_since now rd) (turns name told) in
        let A : Readiness → Type 0 = λ rd. IsPrompt phase now rd t.next in
        let B : ℕ → Type 0 = λ n. IsPrompt phase now u.readiness n in
        subst N s.readiness (c.gives (s.value ∙ none) (subst B (sym s.next) (subst A (sym s.readiness) prompt)));
  }

  waits_back : (phase : Phase) (now : ℕ) (t : Task) (told : List Event) → t.readiness ≡ Waiting → AtOnce phase now t told
  waits_back phase now t told waits = record {
    gives = λ none prompt. let A : Readiness → Type 0 = λ rd. IsPrompt phase now rd t.next in absurd (never phase (subst A waits prompt));
  }
    where
      never : (ph : Phase) → IsPrompt ph now Waiting t.next → ⊥
      never Effects h = h
      never Delays h = h
      never Arriving h = h
      never Use h = h

  -- the end of the task
  end_back : (th : TaskUnit) (vars : Variables) (now : ℕ) (t : Task) (told : List Event) → th.timing ≡ Periodic 0 1 → t.thread ≡ th
      → t.readiness ≡ Ready → AtOnce Effects now (ended vars t) told → AtOnce Effects now t (By now name (End t.used) ∷ told)
  end_back th vars now t told timing thread ready c = record {
    gives = λ none prompt.
        let rests : (ended vars t).readiness ≡ Asleep t.next = ap (λ z. resting z t.next) (ap (λ z. z.timing) thread ∙ timing) in
        let A : Readiness → Type 0 = λ rd. IsPrompt Effects now rd t.next in
        let late : t.next ≤ now = subst A ready prompt in
        let B : Readiness → Type 0 = λ rd. IsPrompt Effects now rd t.next in
        let next : AreAtOnce (idle_since now (ended vars t).readiness) (turns name told) = c.gives none (subst B (sym rests) (refl, late)) in
        let R : Readiness → Type 0 = λ rd. AreAtOnce (idle_since now rd) (turns name told) in
        let E : List Turn → Type 0 = λ zs. AreAtOnce None zs in
        let M : Readiness → Type 0 = λ rd. AreAtOnce (idle_since now rd) (turns name (By now name (End t.used) ∷ told)) in
        let head : Ended now ∷ turns name told ≡ turns name (By now name (End t.used) ∷ told) =
        ap (λ b. cons_option (only_if b (Ended now)) (turns name told)) (sym (same-self name)) in
        subst M (sym ready) (subst E head (subst R rests next));
  }

  -- the release of the task
  release_back : (y : System) (th : TaskUnit) (now m : ℕ) (t : Task) (told : List Event) → th.timing ≡ Periodic 0 1 → t.readiness ≡ Asleep m
      → (released y.costs t).readiness ≡ Ready → (released y.costs t).next ≡ next_time th.timing t.next → (released y.costs t).gate.value ≡ None
      → AtOnce Delays now (released y.costs t) told → AtOnce Delays now t (By now name (Release t.gate.value) ∷ told)
  release_back y th now m t told timing asleep ready again empty c = record {
    gives = λ none prompt.
        let A : Readiness → Type 0 = λ rd. IsPrompt Delays now rd t.next in
        let due : (m ≡ t.next) × (m ≤ now) = subst A asleep prompt in
        let following : (released y.costs t).next ≡ t.next + 1 = again ∙ ap (λ z. next_time z t.next) timing in
        let B : Readiness → Type 0 = λ rd. IsPrompt Delays now rd (released y.costs t).next in
        let soon : (released y.costs t).next ≤ now + 1 = omega (arith, following, due.0, due.1) in
        let next : AreAtOnce (idle_since now (released y.costs t).readiness) (turns name told) = c.gives empty (subst B (sym ready) soon) in
        let R : Readiness → Type 0 = λ rd. AreAtOnce (idle_since now rd) (turns name told) in
        let E : List Turn → Type 0 = λ zs. AreAtOnce (Some now) zs in
        let M : Readiness → Type 0 = λ rd. AreAtOnce (idle_since now rd) (turns name (By now name (Release t.gate.value) ∷ told)) in
        let head : Begun now t.gate.value ∷ turns name told ≡ turns name (By now name (Release t.gate.value) ∷ told) =
        ap (λ b. cons_option (only_if b (Begun now t.gate.value)) (turns name told)) (sym (same-self name)) in
        subst M (sym asleep) (subst E head (refl, none, subst R ready next));
  }

  -- from one part of an instant to the next
  phase_back : (phase phase' : Phase) (now now' : ℕ) (t : Task) (told : List Event)
      → (IsPrompt phase now t.readiness t.next
      → IsPrompt phase' now' t.readiness t.next × (idle_since now' t.readiness ≡ idle_since now t.readiness))
      → AtOnce phase' now' t told → AtOnce phase now t told
  phase_back phase phase' now now' t told on c = record {
    gives = λ none prompt. let P : Option ℕ → Type 0 = λ o. AreAtOnce o (turns name told) in
        let o = on prompt in subst P o.1 (c.gives none o.0);
  }

  at_last : (until : ℕ) (t : Task) → AtOnce Arriving until t (Horizon until ∷ [])
  at_last until t = record { gives = λ none prompt. by t.readiness prompt }
    where
      by : (rd : Readiness) → IsPrompt Arriving until rd t.next → AreAtOnce (idle_since until rd) []
      by (Asleep m) h = absurd h
      by Waiting h = absurd h
      by Ready h = tt

late : (now m : ℕ) → nat_le m now ≡ false → now < m
late now m e = grind arith

to_delays : (now : ℕ) (rd : Readiness) (next : ℕ) → IsPrompt Effects now rd next → IsPrompt Delays now rd next
    × (idle_since now rd ≡ idle_since now rd)
to_delays now (Asleep m) next h = (h, refl)
to_delays now Waiting next h = (h, refl)
to_delays now Ready next h = (let l : next ≤ now = h in omega (arith, l), refl)

to_arriving : (now : ℕ) (rd : Readiness) (next : ℕ) → is_due now rd ≡ false → IsPrompt Delays now rd next
    → IsPrompt Arriving now rd next × (idle_since now rd ≡ idle_since now rd)
to_arriving now (Asleep m) next e h = absurd (let a : now < m = late now m e in omega (arith, a, h.1))
to_arriving now Waiting next e h = (h, refl)
to_arriving now Ready next e h = (h, refl)

to_use : (now : ℕ) (rd : Readiness) (next : ℕ) → IsPrompt Arriving now rd next → IsPrompt Use now rd next × (idle_since now rd ≡ idle_since now rd)
to_use now (Asleep m) next h = (h, refl)
to_use now Waiting next h = (h, refl)
to_use now Ready next h = (h, refl)

to_next : (now : ℕ) (rd : Readiness) (next : ℕ) → IsPrompt Use now rd next
    → IsPrompt Effects (now + 1) rd next × (idle_since (now + 1) rd ≡ idle_since now rd)
to_next now (Asleep m) next h = absurd h
to_next now Waiting next h = (h, refl)
to_next now Ready next h = (h, refl)

-- that a task is released at once is carried back
pub at-once-carried : (y : System) (th : TaskUnit) → th.timing ≡ Periodic 0 1 → IsCarried y th (AtOnce th.name)
at-once-carried y th timing = record {
  unheard = unheard_back th.name;
  same_face = face_back th.name;
  waits = waits_back th.name;
  ends = λ vars now t told thread ready early. end_back th.name th vars now t told timing thread ready;
  releases = λ now m t told early asleep due. release_back th.name y th now m t told timing asleep;
  to_delays = λ now t told. phase_back th.name Effects Delays now now t told (to_delays now t.readiness t.next);
  to_arriving = λ now t told still. phase_back th.name Delays Arriving now now t told (to_arriving now t.readiness t.next still);
  to_use = λ now t told. phase_back th.name Arriving Use now now t told (to_use now t.readiness t.next);
  to_next = λ now t told. phase_back th.name Use Effects now (now + 1) t told (to_next now t.readiness t.next);
  at_last = at_last th.name y.until;
}
