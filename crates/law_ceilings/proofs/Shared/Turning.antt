-- Mutual exclusion: in every run the passages of an object are an enter and a leave of the same task, again and again.
use Rattle.std.specs.Prelude.{◌≡◌, ◌≢◌, ◌⊎◌, ◌++◌, ℕ, zero, suc, Bool, true, false, List, [], ◌∷◌, map, drop, slice_get, Option, Some, None}
use Rattle.std.specs.Prelude.{option_map, unwrap_or, ◌==◌, if◌then◌else◌, refl}
use Rattle.std.proofs.Common.{sym, ◌∙◌, ap, subst, arith, inl, inr}
use Rattle.std.proofs.lemmas.Option.{none-some, same_Some, slice_get-map}
use Rattle.seq_tree.specs.Lists.{change}
use Rattle.arrivals_tree.specs.declared.arrivals.Arrival.{Arrival}
use Rattle.trace_tree.specs.declared.event.Event.{Event}
use Rattle.trace_tree.specs.Exclusion.{Passage, Into, Out, passages, TakesTurns, Exclusive}
use Rattle.machine.specs.Systems.{System, TaskUnit, ProtectedUnit}
use Rattle.machine.specs.States.{State, Task, Resource, Object, Control, opening, first_task}
use Rattle.machine.specs.Effects.{object_unit}
use Rattle.machine.specs.Releases.{Next}
use Rattle.machine.specs.Steps.{step}
use Rattle.machine.specs.Meanings.{run, Rest}
use Rattle.law_ceilings.specs.Sections.{Stands, sections, IsAmong}
use Rattle.law_ceilings.specs.Premises.{MayExclude}
use Rattle.law_ceilings.proofs.Shared.Permissions.{AllFall}
use Rattle.law_ceilings.proofs.Shared.Excludes.{IsThere, AreHeld, Excludes}
use Rattle.law_ceilings.proofs.Shared.Passing.{Face, face, faces, into, out_of, Passing, Stays, Enters, Leaves, step-passing}
use Rattle.law_ceilings.proofs.Shared.Excluding.{face-at, at-face, falls-text, falls-bars, entry-free, step-excludes, opening-excludes}
use Rattle.law_lists.proofs.Shared.Places.{change-at, change-else, changed}

-- turns after the enter of a task, where one is inside
abbrev pub TakesTurnsFrom : Option ℕ → List Passage → Type 0
TakesTurnsFrom None ps = TakesTurns ps
TakesTurnsFrom (Some task) ps = TakesTurns (Into task ∷ ps)

-- the object of a unit is held by nobody, or by the task of a unit
abbrev pub IsHeldBy : System → List Face → ℕ → Option ℕ → Type 0
IsHeldBy y fs u None = (i object : ℕ) (f : Face) → slice_get fs i ≡ Some f → IsAmong (Object object) f.1 → object_unit y object ≡ u → ⊥
IsHeldBy y fs u (Some task) =
    (i : ℕ) × (object : ℕ) × (f : Face) × (slice_get fs i ≡ Some f) × IsAmong (Object object) f.1 × (object_unit y object ≡ u) × (f.0 ≡ task)

pub among-there : (y : System) (as' : List Arrival) (section : Resource) (ss : List Resource) → AreHeld y as' ss → IsAmong section ss
    → IsThere y as' section
among-there y as' section [] h a = absurd a
among-there y as' section (z ∷ ss) h (inl is) = subst (IsThere y as') is h.1
among-there y as' section (z ∷ ss) h (inr a) = among-there y as' section ss h.2 a

pub unit-of : (y : System) (object : ℕ) (g : ProtectedUnit) → slice_get y.objects object ≡ Some g → object_unit y object ≡ g.unit
unit-of y object g e = ap (λ o. unwrap_or (option_map (λ x. x.unit) o) 0) e

pub fewer-among : (section : Resource) (ss : List Resource) → IsAmong section (drop 1 ss) → IsAmong section ss
fewer-among section [] a = a
fewer-among section (z ∷ ss) a = inr a

-- an object that isn't the innermost section stays when that is left
other-stays : (section : Resource) (object : ℕ) (ss others : List Resource) → ss ≡ section ∷ others → (section ≡ Object object → ⊥)
    → IsAmong (Object object) ss → IsAmong (Object object) (drop 1 ss)
other-stays section object ss others e not a = subst (λ xs. IsAmong (Object object) (drop 1 xs)) (sym e) (by (subst (IsAmong (Object object)) e a))
  where
    by : (section ≡ Object object) ⊎ IsAmong (Object object) others → IsAmong (Object object) others
    by (inl is) = absurd (not is)
    by (inr b) = b

no-control : (task object : ℕ) → Control task ≡ Object object → ⊥
no-control task object e = cc

-- what a step leaves of the turns of a unit
pub record Turn (y : System) (u : ℕ) (n : Next) (o : Option ℕ) : Type 0 where
  pub next : Option ℕ
  pub held : IsHeldBy y (faces n.0.tasks) u next
  pub turns : (more : List Event) → TakesTurnsFrom next (passages u more) → TakesTurnsFrom o (passages u (n.1 ++ more))

module _ (y : System) (as' : List Arrival) (ex : MayExclude y as') (s : State) (x : Excludes y as' ex.ranking s) (u : ℕ) where
  -- two objects of one unit that are held are one
  same-object : (i j a b : ℕ) (f g : Face) → slice_get (faces s.tasks) i ≡ Some f → slice_get (faces s.tasks) j ≡ Some g
      → IsAmong (Object a) f.1 → IsAmong (Object b) g.1 → object_unit y a ≡ object_unit y b → a ≡ b
  same-object i j a b f g af ag among among' units =
      let p = face-at s.tasks i f af in
      let q = face-at s.tasks j g ag in
      let there = among-there y as' (Object a) f.1 (subst (λ z. AreHeld y as' z.1) p.2 (x.held i p.0 p.1)) among in
      let there' = among-there y as' (Object b) g.1 (subst (λ z. AreHeld y as' z.1) q.2 (x.held j q.0 q.1)) among' in
      ex.objects a b there.0 there'.0 there.1 there'.1 (sym (unit-of y a there.0 there.1) ∙ units ∙ unit-of y b there'.0 there'.1)

  -- it is held by one task alone
  same-holder : (i j a : ℕ) (f g : Face) → slice_get (faces s.tasks) i ≡ Some f → slice_get (faces s.tasks) j ≡ Some g
      → IsAmong (Object a) f.1 → IsAmong (Object a) g.1 → i ≡ j
  same-holder i j a f g af ag among among' =
      let p = face-at s.tasks i f af in
      let q = face-at s.tasks j g ag in
      x.keeps.alone i j p.0 q.0 (Object a) p.1 q.1 (subst (λ z. IsAmong (Object a) z.1) (sym p.2) among)
      (subst (λ z. IsAmong (Object a) z.1) (sym q.2) among')

  module _ (n : Next) (i : ℕ) (t : Task) (section : Resource) where
    -- the entry of a section that isn't the object of this unit
    enters-other : (e : Stands s.tasks i t) → faces n.0.tasks ≡ change i (into section) (faces s.tasks)
        → ((a : ℕ) → section ≡ Object a → object_unit y a ≡ u → ⊥) → (o : Option ℕ) → IsHeldBy y (faces s.tasks) u o
        → IsHeldBy y (faces n.0.tasks) u o
    enters-other e changes other None held = λ j a f at among is.
        changed i j (into section) (faces s.tasks) f (ap (λ fs. slice_get fs j) (sym changes) ∙ at)
        (λ g here there same. by j a f g is there (subst (λ z. IsAmong (Object a) z.1) same among))
        (λ not there. held j a f there among is)
      where
        by : (j a : ℕ) (f g : Face) → object_unit y a ≡ u → slice_get (faces s.tasks) i ≡ Some g → (section ≡ Object a) ⊎ IsAmong (Object a) g.1 → ⊥
        by j a f g is there (inl new) = other a new is
        by j a f g is there (inr old) = held i a g there old is
    enters-other e changes other (Some w) held = by (held.0 == i) refl
      where
        now : (k : ℕ) → slice_get (faces n.0.tasks) k ≡ slice_get (change i (into section) (faces s.tasks)) k
        now k = ap (λ fs. slice_get fs k) changes

        by : (b : Bool) → (held.0 == i) ≡ b → IsHeldBy y (faces n.0.tasks) u (Some w)
        by true is =
            let same : held.0 ≡ i = grind arith in
            let at : slice_get (faces s.tasks) i ≡ Some held.2 = subst (λ k. slice_get (faces s.tasks) k ≡ Some held.2) same held.3 in
            (i, held.1, into section held.2, now i ∙ change-at i (into section) (faces s.tasks) held.2 at, inr held.4, held.5, held.6)
        by false is =
            let not : held.0 ≢ i = λ h. grind arith in
            (held.0, held.1, held.2, now held.0 ∙ change-else i held.0 (into section) (faces s.tasks) not ∙ held.3, held.4, held.5, held.6)

    leaves-other : (others : List Resource) → Stands s.tasks i t → sections t ≡ section ∷ others → faces n.0.tasks ≡ change i out_of (faces s.tasks)
        → ((a : ℕ) → section ≡ Object a → object_unit y a ≡ u → ⊥) → (o : Option ℕ) → IsHeldBy y (faces s.tasks) u o
        → IsHeldBy y (faces n.0.tasks) u o
    leaves-other others stands inside changes other None held = λ j a f at among is.
        changed i j out_of (faces s.tasks) f (ap (λ fs. slice_get fs j) (sym changes) ∙ at)
        (λ g here there same. held i a g there (fewer-among (Object a) g.1 (subst (λ z. IsAmong (Object a) z.1) same among)) is)
        (λ not there. held j a f there among is)
    leaves-other others stands inside changes other (Some w) held = by (held.0 == i) refl
      where
        now : (k : ℕ) → slice_get (faces n.0.tasks) k ≡ slice_get (change i out_of (faces s.tasks)) k
        now k = ap (λ fs. slice_get fs k) changes

        by : (b : Bool) → (held.0 == i) ≡ b → IsHeldBy y (faces n.0.tasks) u (Some w)
        by true is =
            let same : held.0 ≡ i = grind arith in
            let at : slice_get (faces s.tasks) i ≡ Some held.2 = subst (λ k. slice_get (faces s.tasks) k ≡ Some held.2) same held.3 in
            let mine : face t ≡ held.2 = same_Some (face t) held.2 (sym (at-face s.tasks i t stands) ∙ at) in (
              i,
              held.1,
              out_of held.2,
              now i ∙ change-at i out_of (faces s.tasks) held.2 at,
              other-stays section held.1 (held.2).1 others (sym (ap (λ z. z.1) mine) ∙ inside) (λ h. other held.1 h held.5) held.4,
              held.5,
              held.6,
            )
        by false is =
            let not : held.0 ≢ i = λ h. grind arith in
            (held.0, held.1, held.2, now held.0 ∙ change-else i held.0 out_of (faces s.tasks) not ∙ held.3, held.4, held.5, held.6)

  turn : (n : Next) → Passing y (AllFall ex.ranking) s n → (o : Option ℕ) → IsHeldBy y (faces s.tasks) u o → Turn y u n o
  turn n (Stays same unheard) o held = record {
    next = o;
    held = subst (λ fs. IsHeldBy y fs u o) (sym same) held;
    turns = λ more h. subst (TakesTurnsFrom o) (sym (unheard u more)) h;
  }
  turn n (Enters i t (Control task) e changes tells) o held = record {
    next = o;
    held = enters-other n i t (Control task) e.stands changes (λ a h is. no-control task a h) o held;
    turns = λ more h. subst (TakesTurnsFrom o) (sym (tells u more)) h;
  }
  turn n (Enters i t (Object object) e changes tells) o held = by (object_unit y object == u) refl
    where
      told : (b : Bool) → (object_unit y object == u) ≡ b → (more : List Event)
          → passages u (n.1 ++ more) ≡ (if b then Into t.thread.unit ∷ passages u more else passages u more)
      told b is more = tells u more ∙ ap (λ c. if c then Into t.thread.unit ∷ passages u more else passages u more) is

      first : (unit : object_unit y object ≡ u) → ((more : List Event) → passages u (n.1 ++ more) ≡ Into t.thread.unit ∷ passages u more)
          → (p : Option ℕ) → IsHeldBy y (faces s.tasks) u p → Turn y u n p
      first unit tells' None held' = record {
        next = Some t.thread.unit;
        held = (
          i,
          object,
          into (Object object) (face t),
          ap (λ fs. slice_get fs i) changes ∙ change-at i (into (Object object)) (faces s.tasks) (face t) (at-face s.tasks i t e.stands),
          inl refl,
          unit,
          refl,
        );
        turns = λ more h. subst TakesTurns (sym (tells' more)) h;
      }
      first unit tells' (Some w) held' =
          let found = face-at s.tasks held'.0 held'.2 held'.3 in
          let there = (falls-bars y as' ex (Object object) (sections t) e.entered).1 in
          let there' = among-there y as' (Object held'.1) (held'.2).1
          (subst (λ z. AreHeld y as' z.1) found.2 (x.held held'.0 found.0 found.1)) held'.4 in
          let one : held'.1 ≡ object = ex.objects held'.1 object there'.0 there.0 there'.1 there.1
          (sym (unit-of y held'.1 there'.0 there'.1) ∙ held'.5 ∙ sym unit ∙ unit-of y object there.0 there.1) in
          absurd (entry-free y as' ex s x i t (Object object) e (
            held'.0,
            found.0,
            found.1,
            subst (λ z. IsAmong (Object object) z.1) (sym found.2) (subst (λ k. IsAmong (Object k) (held'.2).1) one held'.4),
          ))

      by : (b : Bool) → (object_unit y object == u) ≡ b → Turn y u n o
      by true is = first (let unit : object_unit y object ≡ u = grind arith in unit) (told true is) o held
      by false is = record {
        next = o;
        held = enters-other n i t (Object object) e.stands changes (λ a h is'. differ a h is') o held;
        turns = λ more h. subst (TakesTurnsFrom o) (sym (told false is more)) h;
      }
        where
          differ : (a : ℕ) → Object object ≡ Object a → object_unit y a ≡ u → ⊥
          differ a h is' =
              let same : object ≡ a = cc in
              let unit : object_unit y object ≡ u = ap (object_unit y) same ∙ is' in
              grind arith
  turn n (Leaves i t (Control task) l changes tells) o held = record {
    next = o;
    held = leaves-other n i t (Control task) l.others l.stands l.inside changes (λ a h is. no-control task a h) o held;
    turns = λ more h. subst (TakesTurnsFrom o) (sym (tells u more)) h;
  }
  turn n (Leaves i t (Object object) l changes tells) o held = by (object_unit y object == u) refl
    where
      told : (b : Bool) → (object_unit y object == u) ≡ b → (more : List Event)
          → passages u (n.1 ++ more) ≡ (if b then Out t.thread.unit ∷ passages u more else passages u more)
      told b is more = tells u more ∙ ap (λ c. if c then Out t.thread.unit ∷ passages u more else passages u more) is

      inside : IsAmong (Object object) (sections t)
      inside = subst (IsAmong (Object object)) (sym l.inside) (inl refl)

      last : (unit : object_unit y object ≡ u) → ((more : List Event) → passages u (n.1 ++ more) ≡ Out t.thread.unit ∷ passages u more)
          → (p : Option ℕ) → IsHeldBy y (faces s.tasks) u p → Turn y u n p
      last unit tells' None held' = absurd (held' i object (face t) (at-face s.tasks i t l.stands) inside unit)
      last unit tells' (Some w) held' =
          let one : held'.1 ≡ object = same-object held'.0 i held'.1 object held'.2 (face t) held'.3 (at-face s.tasks i t l.stands) held'.4 inside
          (held'.5 ∙ sym unit) in
          let place : held'.0 ≡ i = same-holder held'.0 i object held'.2 (face t) held'.3 (at-face s.tasks i t l.stands)
          (subst (λ k. IsAmong (Object k) (held'.2).1) one held'.4) inside in
          let mine : face t ≡ held'.2 = same_Some (face t) held'.2 (sym (at-face s.tasks i t l.stands) ∙ subst (λ k. slice_get (faces s.tasks) k
          ≡ Some held'.2) place held'.3) in
          record {
            next = None;
            held = λ j a f at among is.
                changed i j out_of (faces s.tasks) f (ap (λ fs. slice_get fs j) (sym changes) ∙ at)
                (λ g here there same. gone a g is there (subst (λ z. IsAmong (Object a) z.1) same among))
                (λ not there.
                let one' : a ≡ object = same-object j i a object f (face t) there (at-face s.tasks i t l.stands) among inside (is ∙ sym unit) in
                not (same-holder j i object f (face t) there (at-face s.tasks i t l.stands) (subst (λ k. IsAmong (Object k) f.1) one' among) inside));
            turns = λ more h. subst (λ ps. TakesTurns (Into w ∷ ps)) (sym (tells' more)) (sym held'.6 ∙ ap (λ z. z.0) (sym mine), h);
          }
        where
          gone : (a : ℕ) (g : Face) → object_unit y a ≡ u → slice_get (faces s.tasks) i ≡ Some g → IsAmong (Object a) (drop 1 g.1) → ⊥
          gone a g is there among =
              let same : face t ≡ g = same_Some (face t) g (sym (at-face s.tasks i t l.stands) ∙ there) in
              let among' : IsAmong (Object a) (drop 1 (sections t)) = subst (λ z. IsAmong (Object a) (drop 1 z.1)) (sym same) among in
              let one' : a ≡ object = same-object i i a object (face t) (face t) (at-face s.tasks i t l.stands) (at-face s.tasks i t l.stands)
              (fewer-among (Object a) (sections t) among') inside (is ∙ sym unit) in
              let once : AreHeld y as' (Object object ∷ l.others) = subst (AreHeld y as') l.inside (x.held i t l.stands) in
              once.0 (subst (λ k. IsAmong (Object k) l.others) one' (subst (λ ss. IsAmong (Object a) (drop 1 ss)) l.inside among'))

      by : (b : Bool) → (object_unit y object == u) ≡ b → Turn y u n o
      by true is = last (let unit : object_unit y object ≡ u = grind arith in unit) (told true is) o held
      by false is = record {
        next = o;
        held = leaves-other n i t (Object object) l.others l.stands l.inside changes (λ a h is'. differ a h is') o held;
        turns = λ more h. subst (TakesTurnsFrom o) (sym (told false is more)) h;
      }
        where
          differ : (a : ℕ) → Object object ≡ Object a → object_unit y a ≡ u → ⊥
          differ a h is' =
              let same : object ≡ a = cc in
              let unit : object_unit y object ≡ u = ap (object_unit y) same ∙ is' in
              grind arith

module _ (y : System) (as' : List Arrival) (ex : MayExclude y as') where
  -- the turns of a unit from a state on
  run-turns : (u n : ℕ) (s : State) → Excludes y as' ex.ranking s → (o : Option ℕ) → IsHeldBy y (faces s.tasks) u o
      → TakesTurnsFrom o (passages u (run y n s).1)
  run-turns u zero s x None held = tt
  run-turns u zero s x (Some w) held = tt
  run-turns u (suc n) s x o held =
      let one = turn y as' ex s x u (step y s) (step-passing y (AllFall ex.ranking) (falls-text y as' ex) s x.keeps) o held in
      one.turns (run y n (step y s).0).1 (run-turns u n (step y s).0 (step-excludes y as' ex s x) one.next one.held)

  -- at the opening nobody is inside anything
  nobody : (u : ℕ) → IsHeldBy y (faces (map first_task y.threads)) u None
  nobody u i object f at among is =
      let found = face-at (map first_task y.threads) i f at in
      by (slice_get y.threads i) found.0 (sym (slice_get-map first_task y.threads i) ∙ found.1)
      (subst (λ z. IsAmong (Object object) z.1) (sym found.2) among)
    where
      by : (o : Option TaskUnit) (t : Task) → option_map first_task o ≡ Some t → IsAmong (Object object) (sections t) → ⊥
      by None t e a = absurd (none-some t e)
      by (Some th) t e a = subst (λ z. IsAmong (Object object) (sections z)) (sym (same_Some (first_task th) t e)) a

  -- what is told from the opening on, up to the stop of the run, takes turns at each object
  pub rest-exclusive : (told : List Event) → Rest y (opening y as') told → Exclusive told
  rest-exclusive told rest u =
      subst (λ es. TakesTurns (passages u es)) rest.tells (run-turns u rest.steps (opening y as') (opening-excludes y as' ex) None (nobody u))
