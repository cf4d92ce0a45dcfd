-- The ways of objects that are served are those that are computed of the whole trace; those of broken objects are asked of no activation.
use Rattle.std.proofs.Common.{◌≡◌, ℕ, Bool, true, false, ◌&&◌, ◌||◌, List, [], ◌∷◌, ◌++◌, drop, Option, Some, None}
use Rattle.std.proofs.Common.{refl, sym, ap, subst, ◌∙◌}
use Rattle.std.specs.Prelude.{bytes_eq, if◌then◌else◌, ⊤}
use Rattle.std.proofs.lemmas.Slice.Eq.{bytes_eq-Decides}
use Rattle.seq_tree.specs.Names.{Name, same_name}
use Rattle.seq_tree.specs.Operations.{Operation}
use Rattle.seq_tree.specs.Variables.{Variables, kept, opened}
use Rattle.seq_tree.specs.Runs.{Path}
use Rattle.ods_tree.specs.Flats.{Guarded}
use Rattle.guarantee.specs.Software.{Software}
use Rattle.guarantee.specs.Events.{Deed, Release, Arrive, Enter, Leave, Request, Print, End, Stop, Event, By, Horizon}
use Rattle.guarantee.specs.Steps.{first_way}
use Rattle.law_traces.specs.Checks.{scripted, run_along, begins_along, run_of, op_named, object_named, body_by}
use Rattle.law_traces.specs.Checks.{is_passage, is_passed, does_in, endless, body_in, way_of, way_in, kept_in, data_after, ways_from}
use Rattle.law_traces.proofs.Shared.Finding.{found-passes}
use Rattle.law_traces.specs.Entries.{Entry, entry_at, entries_in}
use Rattle.law_traces.specs.Services.{Service, Free, Inside, Last, Broken, is_sound, inside_by, last_by, ran_by, entered_by, entered_in, left_in}
use Rattle.law_traces.specs.Services.{charge_by, run_by_op, charge_in, served_by, served_from, changed_by, charge_for, charge_at, charges_from}
use Rattle.law_traces.specs.Services.{is_served}
use Rattle.law_traces.specs.Progress.{is_good}
use Rattle.law_traces.proofs.Shared.Served.{wrong, broken-stays}

-- the ticks of a way
abbrev PairOf : ℕ × ℕ → Path → Type 0
PairOf c p = (c.0 ≡ p.low) × (c.1 ≡ p.high)

-- the ticks of events, right where they enter an object that is served
abbrev pub DeedCharged : Bool → Deed → Path → ℕ × ℕ → Type 0
DeedCharged good (Enter name values) p c = good ≡ true → (c.0 ≡ p.low) × (c.1 ≡ p.high)
DeedCharged good _ p c = ⊤

abbrev pub EventIsCharged : (Name → Bool) → Event → Path → ℕ × ℕ → Type 0
EventIsCharged served (By time task deed) p c = DeedCharged (is_good served deed) deed p c
EventIsCharged served (Horizon time) p c = ⊤

abbrev pub AllCharged : (Name → Bool) → List Event → List Path → List (ℕ × ℕ) → Type 0
AllCharged served [] bodies cs = ⊤
AllCharged served (e ∷ told) bodies [] = ⊥
AllCharged served (e ∷ told) bodies (c ∷ cs) = EventIsCharged served e (first_way bodies) c × AllCharged served told (drop 1 bodies) cs

charge-way : (most : ℕ) (again : Bool) (o : Option Path) → PairOf (charge_by most again o) (way_of most again o)
charge-way most false o = (refl, refl)
charge-way most true None = (refl, refl)
charge-way most true (Some p) = (refl, refl)

-- an object that is found has the name that it is found by
pub found-name : (w : Software) (object : Name) (g : Guarded) → object_named w object ≡ Some g → g.name ≡ object
found-name w object g e = (bytes_eq-Decides g.name object).0 (found-passes (λ h. same_name h.name object) w.shared g e)

module _ (w : Software) (depth most : ℕ) where
  abbrev pub Owns : Guarded → Type 0
  Owns g = object_named w g.name ≡ Some g

  -- what is known of an object that is served
  abbrev pub Matches : Service → Variables → Bool → Type 0
  Matches (Free d) data' again = d ≡ data'
  Matches (Inside thread op gives after) data' again = after ≡ data'
  Matches Last data' again = again ≡ false
  Matches Broken data' again = ⊤

  pub record Keeps (served : Guarded → Bool) (told : List Event) (st : Name → Service) (data' : Name → Variables) (g : Guarded) : Type 0 where
    pub sound : served g ≡ is_sound (served_from w depth g told (entries_in w told) (st g.name))
    pub matches : served g ≡ true → Matches (st g.name) (data' g.name) (is_passed g.name told)

  abbrev pub Kept : (Guarded → Bool) → List Event → (Name → Service) → (Name → Variables) → Type 0
  Kept served told st data' = (g : Guarded) → Owns g → Keeps served told st data' g

  abbrev st_after : Event → List Event → (Name → Service) → Name → Service
  st_after e told st object = changed_by w depth e (entry_at w e told) (st object) (object_named w object)

  module _ (served : Guarded → Bool) where
    -- AN EVENT that is no passage
    other-kept : (e : Event) (told : List Event) (st : Name → Service) (data' : Name → Variables) (p : Path) (g : Guarded) → Owns g
        → served_by w depth g e (entry_at w e told) (st g.name) ≡ st g.name → is_passage g.name e ≡ false
        → data_after w data' e p g.name ≡ data' g.name → Keeps served (e ∷ told) st data' g
        → Keeps served told (st_after e told st) (data_after w data' e p) g
    other-kept e told st data' p g own same none stays h =
        let after : st_after e told st g.name ≡ st g.name =
        ap (changed_by w depth e (entry_at w e told) (st g.name)) own ∙ same in
        record {
          sound = h.sound ∙ ap (λ z. is_sound (served_from w depth g told (entries_in w told) z)) (same ∙ sym after);
          matches = λ s.
              let m : Matches (st g.name) (data' g.name) (is_passed g.name told) =
              subst (λ z. Matches (st g.name) (data' g.name) (z || is_passed g.name told)) none (h.matches s) in
              subst (λ z. Matches z (data_after w data' e p g.name) (is_passed g.name told)) (sym after)
              (subst (λ z. Matches (st g.name) z (is_passed g.name told)) (sym stays) m);
        }

    -- AN EVENT that is a passage, by what the object is at behind it
    passage-kept : (e : Event) (told : List Event) (st : Name → Service) (data' : Name → Variables) (p : Path) (g : Guarded) → Owns g
        → (after : Service) → served_by w depth g e (entry_at w e told) (st g.name) ≡ after → Keeps served (e ∷ told) st data' g
        → (served g ≡ true → is_sound (served_from w depth g told (entries_in w told) after) ≡ true
        → Matches after (data_after w data' e p g.name) (is_passed g.name told))
        → Keeps served told (st_after e told st) (data_after w data' e p) g
    passage-kept e told st data' p g own after same h right =
        let to : st_after e told st g.name ≡ after =
        ap (changed_by w depth e (entry_at w e told) (st g.name)) own ∙ same in
        let sound' : served g ≡ is_sound (served_from w depth g told (entries_in w told) after) =
        h.sound ∙ ap (λ z. is_sound (served_from w depth g told (entries_in w told) z)) same in
        record {
          sound = sound' ∙ ap (λ z. is_sound (served_from w depth g told (entries_in w told) z)) (sym to);
          matches = λ s. subst (λ z. Matches z (data_after w data' e p g.name) (is_passed g.name told)) (sym to) (right s (sym sound' ∙ s));
        }

    broken-right : (told : List Event) (g : Guarded) {A : Type 0} → is_sound (served_from w depth g told (entries_in w told) Broken) ≡ true → A
    broken-right told g e = wrong (sym e ∙ broken-stays w depth g told (entries_in w told))

    -- AN EXIT
    exit-right : (task op : Name) (results : List ℕ) (told : List Event) (g : Guarded) (s : Service) (d : Variables) (again : Bool)
        → Matches s d again
        → is_sound (served_from w depth g told (entries_in w told) (left_in task op results s)) ≡ true
        → Matches (left_in task op results s) d (is_passed g.name told)
    exit-right task op results told g (Free d') d again m e = broken-right told g e
    exit-right task op results told g (Inside other same gives after) d again m e =
        by (same_name other task && same_name same op && bytes_eq results gives) e
      where
        by : (b : Bool) → is_sound (served_from w depth g told (entries_in w told) (if b then Free after else Broken)) ≡ true
            → Matches (if b then Free after else Broken) d (is_passed g.name told)
        by true e = m
        by false e = broken-right told g e
    exit-right task op results told g Last d again m e = broken-right told g e
    exit-right task op results told g Broken d again m e = broken-right told g e

    abbrev IsSound : List Event → Guarded → Service → Type 0
    IsSound told g s = is_sound (served_from w depth g told (entries_in w told) s) ≡ true

    -- AN ENTRY
    entered-right : (task op : Name) (values : List ℕ) (does : List Deed) (told : List Event) (g : Guarded) (d : Variables)
        (o : Option Operation) (again : Bool) → is_passed g.name told ≡ again → (x : Entry) → x.script ≡ scripted w does → x.again ≡ again
        → is_sound (served_from w depth g told (entries_in w told) (entered_by w depth g task op values d x o)) ≡ true
        → Matches (entered_by w depth g task op values d x o) (kept g.vars (way_of most again (body_by w depth d values does o)).vars)
        (is_passed g.name told)
    unfolding run_of
    entered-right task op values does told g d None again passed x i j e = broken-right told g e
    entered-right task op values does told g d (Some o) again passed x i j e = by again passed j
      where
        vars : Variables
        vars = opened o values ++ d

        ran : (p : Option Path) → IsSound told g (inside_by g task op o p)
            → Matches (inside_by g task op o p) (kept g.vars (way_of most true p).vars) (is_passed g.name told)
        ran None e = broken-right told g e
        ran (Some p) e = refl

        ended : (b : Bool) → is_passed g.name told ≡ false → IsSound told g (last_by b) → (v : Variables) → Matches (last_by b) v (is_passed g.name told)
        ended true passed e v = passed
        ended false passed e v = broken-right told g e

        by : (b : Bool) → is_passed g.name told ≡ b → x.again ≡ b
            → Matches (ran_by w depth g task op o vars x.script x.again) (kept g.vars (way_of most b (run_along w depth o.block vars (scripted w does))).vars)
            (is_passed g.name told)
        by true passed j =
            let e' : IsSound told g (ran_by w depth g task op o vars x.script true) = subst (λ z. IsSound told g (ran_by w depth g task op o vars x.script z)) j e in
            subst (λ z. Matches (ran_by w depth g task op o vars x.script z)
            (kept g.vars (way_of most true (run_along w depth o.block vars (scripted w does))).vars) (is_passed g.name told)) (sym j)
            (subst (λ z. Matches (inside_by g task op o (run_along w depth o.block vars x.script))
            (kept g.vars (way_of most true (run_along w depth o.block vars z)).vars) (is_passed g.name told)) i
            (ran (run_along w depth o.block vars x.script) e'))
        by false passed j =
            let e' : IsSound told g (ran_by w depth g task op o vars x.script false) = subst (λ z. IsSound told g (ran_by w depth g task op o vars x.script z)) j e in
            subst (λ z. Matches (ran_by w depth g task op o vars x.script z)
            (kept g.vars (way_of most false (run_along w depth o.block vars (scripted w does))).vars) (is_passed g.name told)) (sym j)
            (ended (begins_along w depth o.block vars x.script) passed e' (kept g.vars (endless most).vars))

    entry-right : (task op : Name) (values : List ℕ) (told : List Event) (g : Guarded) (s : Service) (d : Variables) (again : Bool) (x : Entry)
        → x.script ≡ scripted w (does_in task told) → x.again ≡ is_passed g.name told → Matches s d again
        → is_sound (served_from w depth g told (entries_in w told) (entered_in w depth g task op values x s)) ≡ true
        → Matches (entered_in w depth g task op values x s)
        (kept g.vars (way_of most (is_passed g.name told) (body_by w depth d values (does_in task told) (op_named g op))).vars) (is_passed g.name told)
    entry-right task op values told g (Free d') d again x i j m e =
        subst (λ z. Matches (entered_by w depth g task op values d' x (op_named g op))
        (kept g.vars (way_of most (is_passed g.name told) (body_by w depth z values (does_in task told) (op_named g op))).vars) (is_passed g.name told)) m
        (entered-right task op values (does_in task told) told g d' (op_named g op) (is_passed g.name told) refl x i j e)
    entry-right task op values told g (Inside other same gives after) d again x i j m e = broken-right told g e
    entry-right task op values told g Last d again x i j m e = broken-right told g e
    entry-right task op values told g Broken d again x i j m e = broken-right told g e

    -- the ticks of an entry
    charge-right : (task op : Name) (values : List ℕ) (told : List Event) (g : Guarded) (s : Service) (d : Variables) (again : Bool) (x : Entry)
        → x.script ≡ scripted w (does_in task told) → x.again ≡ is_passed g.name told → Matches s d again
        → is_sound (served_from w depth g told (entries_in w told) (entered_in w depth g task op values x s)) ≡ true
        → PairOf (charge_in w depth most g op values x s)
        (way_of most (is_passed g.name told) (body_by w depth d values (does_in task told) (op_named g op)))
    unfolding run_of
    charge-right task op values told g (Free d') d again x i j m e =
        let P : Bool → Option Path → Type 0 = λ b o. PairOf (charge_by most x.again (run_by_op w depth values d' x.script (op_named g op))) (way_of most b o) in
        subst (λ z. P z (body_by w depth d values (does_in task told) (op_named g op))) j
        (subst (λ z. P x.again (body_by w depth z values (does_in task told) (op_named g op))) m
        (subst (λ z. P x.again z) (same (op_named g op)) (charge-way most x.again (run_by_op w depth values d' x.script (op_named g op)))))
      where
        same : (o : Option Operation) → run_by_op w depth values d' x.script o ≡ body_by w depth d' values (does_in task told) o
        same None = refl
        same (Some o) = ap (run_along w depth o.block (opened o values ++ d')) i
    charge-right task op values told g (Inside other same gives after) d again x i j m e = broken-right told g e
    charge-right task op values told g Last d again x i j m e = broken-right told g e
    charge-right task op values told g Broken d again x i j m e = broken-right told g e

    -- EVENTS
    name-one : (object : Name) (g : Guarded) → same_name object g.name ≡ true → object ≡ g.name
    name-one object g e = (bytes_eq-Decides object g.name).0 e

    way-here : (time : ℕ) (task object op : Name) (values : List ℕ) (data' : Name → Variables) (told : List Event) (g : Guarded) → Owns g
        → object ≡ g.name
        → way_in w depth most data' (By time task (Enter (record { object = object; op = op }) values)) told
        ≡ way_of most (is_passed g.name told) (body_by w depth (data' g.name) values (does_in task told) (op_named g op))
    way-here time task object op values data' told g own same =
        ap (λ n. way_of most (is_passed n told) (body_in w depth data' op values (does_in task told) (object_named w n))) same
        ∙ ap (λ o. way_of most (is_passed g.name told) (body_in w depth data' op values (does_in task told) o)) own

    enter-kept : (time : ℕ) (task object op : Name) (values : List ℕ) (told : List Event) (st : Name → Service) (data' : Name → Variables)
        (g : Guarded) → Owns g → (b : Bool) → same_name object g.name ≡ b
        → Keeps served (By time task (Enter (record { object = object; op = op }) values) ∷ told) st data' g
        → Keeps served told (st_after (By time task (Enter (record { object = object; op = op }) values)) told st)
        (data_after w data' (By time task (Enter (record { object = object; op = op }) values))
        (way_in w depth most data' (By time task (Enter (record { object = object; op = op }) values)) told)) g
    enter-kept time task object op values told st data' g own false e h =
        let ev : Event = By time task (Enter (record { object = object; op = op }) values) in
        let p : Path = way_in w depth most data' ev told in
        let F : Bool → Service = λ z. if z then entered_in w depth g task op values (entry_at w ev told) (st g.name) else st g.name in
        let D : Bool → Variables = λ z. if z then kept_in (object_named w object) p (data' g.name) else data' g.name in
        other-kept ev told st data' p g own (ap F e) e (ap D e) h
    enter-kept time task object op values told st data' g own true e h =
        let ev : Event = By time task (Enter (record { object = object; op = op }) values) in
        let x : Entry = entry_at w ev told in
        let p : Path = way_in w depth most data' ev told in
        let same : object ≡ g.name = name-one object g e in
        let after : Service = entered_in w depth g task op values x (st g.name) in
        let F : Bool → Service = λ z. if z then after else st g.name in
        let D : Bool → Variables = λ z. if z then kept_in (object_named w object) p (data' g.name) else data' g.name in
        let way : Path = way_of most (is_passed g.name told) (body_by w depth (data' g.name) values (does_in task told) (op_named g op)) in
        let data-same : kept g.vars way.vars ≡ data_after w data' ev p g.name =
        ap (λ z. kept g.vars z.vars) (sym (way-here time task object op values data' told g own same))
        ∙ ap (λ o. kept_in o p (data' g.name)) (sym (ap (object_named w) same ∙ own)) ∙ sym (ap D e) in
        passage-kept ev told st data' p g own after (ap F e) h
        (λ s sound'. subst (λ z. Matches after z (is_passed g.name told)) data-same
        (entry-right task op values told g (st g.name) (data' g.name) (is_passed g.name (ev ∷ told)) x refl (ap (λ z. is_passed z told) same)
        (h.matches s) sound'))

    leave-kept : (time : ℕ) (task object op : Name) (results : List ℕ) (told : List Event) (st : Name → Service) (data' : Name → Variables)
        (p : Path) (g : Guarded) → Owns g → (b : Bool) → same_name object g.name ≡ b
        → Keeps served (By time task (Leave (record { object = object; op = op }) results) ∷ told) st data' g
        → Keeps served told (st_after (By time task (Leave (record { object = object; op = op }) results)) told st)
        (data_after w data' (By time task (Leave (record { object = object; op = op }) results)) p) g
    leave-kept time task object op results told st data' p g own false e h =
        let ev : Event = By time task (Leave (record { object = object; op = op }) results) in
        let F : Bool → Service = λ z. if z then left_in task op results (st g.name) else st g.name in
        other-kept ev told st data' p g own (ap F e) e refl h
    leave-kept time task object op results told st data' p g own true e h =
        let ev : Event = By time task (Leave (record { object = object; op = op }) results) in
        let after : Service = left_in task op results (st g.name) in
        let F : Bool → Service = λ z. if z then after else st g.name in
        passage-kept ev told st data' p g own after (ap F e) h
        (λ s sound'. exit-right task op results told g (st g.name) (data' g.name) (is_passed g.name (ev ∷ told)) (h.matches s) sound')

    event-kept : (e : Event) (told : List Event) (st : Name → Service) (data' : Name → Variables) → Kept served (e ∷ told) st data'
        → Kept served told (st_after e told st) (data_after w data' e (way_in w depth most data' e told))
    event-kept (By time task (Enter name values)) told st data' h g own =
        enter-kept time task name.object name.op values told st data' g own (same_name name.object g.name) refl (h g own)
    event-kept (By time task (Leave name values)) told st data' h g own =
        leave-kept time task name.object name.op values told st data' (endless most) g own (same_name name.object g.name) refl (h g own)
    event-kept (By time task (Release v)) told st data' h g own =
        other-kept (By time task (Release v)) told st data' (endless most) g own refl refl refl (h g own)
    event-kept (By time task (Arrive v)) told st data' h g own =
        other-kept (By time task (Arrive v)) told st data' (endless most) g own refl refl refl (h g own)
    event-kept (By time task (Request target v)) told st data' h g own =
        other-kept (By time task (Request target v)) told st data' (endless most) g own refl refl refl (h g own)
    event-kept (By time task (Print v)) told st data' h g own =
        other-kept (By time task (Print v)) told st data' (endless most) g own refl refl refl (h g own)
    event-kept (By time task (End used)) told st data' h g own =
        other-kept (By time task (End used)) told st data' (endless most) g own refl refl refl (h g own)
    event-kept (By time task (Stop object priority ceiling)) told st data' h g own =
        other-kept (By time task (Stop object priority ceiling)) told st data' (endless most) g own refl refl refl (h g own)
    event-kept (Horizon time) told st data' h g own =
        other-kept (Horizon time) told st data' (endless most) g own refl refl refl (h g own)

    -- the ticks of an event
    enter-charged : (time : ℕ) (task object op : Name) (values : List ℕ) (told : List Event) (st : Name → Service) (data' : Name → Variables)
        → Kept served (By time task (Enter (record { object = object; op = op }) values) ∷ told) st data'
        → (o : Option Guarded) → object_named w object ≡ o → is_served served o ≡ true
        → PairOf (charge_for w depth most op values (entry_at w (By time task (Enter (record { object = object; op = op }) values)) told) (st object) o)
        (way_in w depth most data' (By time task (Enter (record { object = object; op = op }) values)) told)
    enter-charged time task object op values told st data' h None e good =
        let way : Option Guarded → Path = λ o. way_of most (is_passed object told) (body_in w depth data' op values (does_in task told) o) in
        let P : Path → Type 0 = λ z. PairOf (0, most) z in
        subst (λ o. P (way o)) (sym e) (by (is_passed object told))
      where
        by : (b : Bool) → PairOf (0, most) (way_of most b None)
        by true = (refl, refl)
        by false = (refl, refl)
    enter-charged time task object op values told st data' h (Some g) e good =
        let ev : Event = By time task (Enter (record { object = object; op = op }) values) in
        let x : Entry = entry_at w ev told in
        let same : object ≡ g.name = sym (found-name w object g e) in
        let own : Owns g = ap (object_named w) (sym same) ∙ e in
        let k : Keeps served (ev ∷ told) st data' g = h g own in
        let F : Bool → Bool = λ z. is_sound (served_from w depth g told (entries_in w told)
        (if z then entered_in w depth g task op values x (st g.name) else st g.name)) in
        let sound' : IsSound told g (entered_in w depth g task op values x (st g.name)) =
        sym (k.sound ∙ ap F ((bytes_eq-Decides object g.name).1 same)) ∙ good in
        let r = charge-right task op values told g (st g.name) (data' g.name) (is_passed g.name (ev ∷ told)) x refl
        (ap (λ z. is_passed z told) same) (k.matches good) sound' in
        subst (λ z. PairOf (charge_in w depth most g op values x (st z)) (way_in w depth most data' ev told)) (sym same)
        (subst (λ z. PairOf (charge_in w depth most g op values x (st g.name)) z) (sym (way-here time task object op values data' told g own same)) r)

    event-charged : (e : Event) (told : List Event) (st : Name → Service) (data' : Name → Variables) → Kept served (e ∷ told) st data'
        → EventIsCharged (λ object. is_served served (object_named w object)) e (way_in w depth most data' e told)
        (charge_at w depth most e (entry_at w e told) st)
    event-charged (By time task (Enter name values)) told st data' h =
        λ good. enter-charged time task name.object name.op values told st data' h (object_named w name.object) refl good
    event-charged (By time task (Leave name values)) told st data' h = tt
    event-charged (By time task (Release v)) told st data' h = tt
    event-charged (By time task (Arrive v)) told st data' h = tt
    event-charged (By time task (Request target v)) told st data' h = tt
    event-charged (By time task (Print v)) told st data' h = tt
    event-charged (By time task (End used)) told st data' h = tt
    event-charged (By time task (Stop object priority ceiling)) told st data' h = tt
    event-charged (Horizon time) told st data' h = tt

    -- A WHOLE TRACE
    pub charged-from : (told : List Event) (st : Name → Service) (data' : Name → Variables) → Kept served told st data'
        → AllCharged (λ object. is_served served (object_named w object)) told (ways_from w depth most data' told)
        (charges_from w depth most told (entries_in w told) st)
    charged-from [] st data' h = tt
    charged-from (e ∷ told) st data' h = (
      event-charged e told st data' h,
      charged-from told (st_after e told st) (data_after w data' e (way_in w depth most data' e told)) (event-kept e told st data' h),
    )
