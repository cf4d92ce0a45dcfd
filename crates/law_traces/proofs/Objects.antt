-- The operations of an object: the ways that are computed serve it where any do, and are those of any ways that serve it, or endless.
-- By induction on the trace, outside of the object's operations and inside one.
use Rattle.std.proofs.Common.{◌≡◌, ◌⊎◌, inl, inr, ℕ, Bool, true, false, ◌&&◌, ◌||◌, List, [], ◌∷◌, ◌++◌, drop, Option, Some, None, refl, sym, ap}
use Rattle.std.proofs.Common.{subst, ◌∙◌}
use Rattle.std.specs.Prelude.{find, if◌then◌else◌}
use Rattle.std.specs.List.{cons_option}
use Rattle.std.proofs.lemmas.Bool.{and_from, and_parts}
use Rattle.std.proofs.lemmas.Option.{same_Some, none-some}
use Rattle.std.proofs.lemmas.Slice.Eq.{bytes_eq-Decides}
use Rattle.seq_tree.specs.Lists.{Each}
use Rattle.seq_tree.specs.Names.{Name, same_name}
use Rattle.seq_tree.specs.Operations.{Operation, out_names}
use Rattle.seq_tree.specs.Variables.{Variables, kept, reads, opened}
use Rattle.seq_tree.specs.Runs.{Path}
use Rattle.seq_tree.specs.declared.tree.OpName.{OpName}
use Rattle.ods_tree.specs.Flats.{Guarded}
use Rattle.ods_tree.specs.Walk.{only_if}
use Rattle.law_walks.specs.Fit.{MayRun}
use Rattle.guarantee.specs.Software.{Software, leads_to}
use Rattle.guarantee.specs.Events.{Deed, Release, Arrive, Enter, Leave, Request, Print, End, Stop, Event, By, Horizon}
use Rattle.guarantee.specs.Steps.{Moment, moments, first_way, steps_of, inside}
use Rattle.guarantee.specs.Passages.{Passage, Into, Out, passages, IsBody, IsBodyBegun, IsOpOf, IsServed, AreOneByOne}
use Rattle.law_traces.specs.Clear.{IsClear}
use Rattle.law_traces.specs.Checks.{op_named, body_by, begun_by, gives_by, out_by, one_by_one, is_passage, is_passed, does_in, endless, object_named}
use Rattle.law_traces.specs.Checks.{body_in, way_of, way_in, kept_in, data_after, ways_from}
use Rattle.law_traces.proofs.RunLaws.{run-found, run-only, begins-found, begins-only}
use Rattle.law_traces.proofs.Shared.Pairs.{Pairs, inside-same}

pub wrong : {A : Type 0} → true ≡ false → A
wrong e = absurd (cc)

-- ways that are alike where an object is entered
abbrev pub AlikeAt : ℕ → Guarded → Moment → Moment → Type 0
AlikeAt most g m n = (time : ℕ) (task : Name) (name : OpName) (values : List ℕ)
    → m.event ≡ By time task (Enter name values) → same_name name.object g.name ≡ true → (m.body ≡ n.body) ⊎ (n.body ≡ endless most)

-- what is found is one of the items
pub found-each : {A : Type 0} (test : A → Bool) (P : A → Type 0) (xs : List A) (x : A) → Each P xs → find test xs ≡ Some x → P x
found-each {A} test P [] x h e = absurd (none-some x e)
found-each {A} test P (y ∷ ys) x h e = by (test y) refl (λ f. found-each test P ys x h.1 f)
  where
    by : (b : Bool) → test y ≡ b → (find test ys ≡ Some x → P x) → P x
    by true t more =
        let F : Bool → Option A = λ z. if z then Some y else find test ys in
        subst P (same_Some y x (sym (ap F t) ∙ e)) h.0
    by false t more =
        let F : Bool → Option A = λ z. if z then Some y else find test ys in
        more (sym (ap F t) ∙ e)

module _ (w : Software) (clear : IsClear w) (most : ℕ) (g : Guarded) (may : Each (λ o. MayRun (leads_to w) clear.depth o.block) g.ops)
    (own : object_named w g.name ≡ Some g) where
  may-run : (op : Name) (o : Operation) → IsOpOf g op o → MayRun (leads_to w) clear.depth o.block
  may-run op o e = found-each (λ q. same_name q.sig.name op) (λ q. MayRun (leads_to w) clear.depth q.block) g.ops o may e

  -- EVENTS and the passages of the object
  abbrev later_deeds : Name → List Event → List Path → List Deed
  later_deeds task told bodies = inside (steps_of task (moments told bodies))

  enter-in : (time : ℕ) (task : Name) (object op : Name) (values : List ℕ) (told : List Event) (bodies : List Path) (b : Bool)
      → same_name object g.name ≡ b
      → passages g.name (moments (By time task (Enter (record { object = object; op = op }) values) ∷ told) bodies)
      ≡ cons_option (only_if b (Into task op values (later_deeds task told (drop 1 bodies)) (first_way bodies)))
      (passages g.name (moments told (drop 1 bodies)))
  enter-in time task object op values told bodies b e =
      let F : Bool → List Passage = λ z. cons_option (only_if z (Into task op values (later_deeds task told (drop 1 bodies)) (first_way bodies)))
      (passages g.name (moments told (drop 1 bodies))) in
      ap F e

  leave-out : (time : ℕ) (task : Name) (object op : Name) (values : List ℕ) (told : List Event) (bodies : List Path) (b : Bool)
      → same_name object g.name ≡ b
      → passages g.name (moments (By time task (Leave (record { object = object; op = op }) values) ∷ told) bodies)
      ≡ cons_option (only_if b (Out task op values)) (passages g.name (moments told (drop 1 bodies)))
  leave-out time task object op values told bodies b e =
      let F : Bool → List Passage = λ z. cons_option (only_if z (Out task op values)) (passages g.name (moments told (drop 1 bodies))) in
      ap F e

  -- the data of the object after an event that enters another object
  data-kept : (time : ℕ) (task object op : Name) (values : List ℕ) (data' : Name → Variables) (p : Path) → same_name object g.name ≡ false
      → data_after w data' (By time task (Enter (record { object = object; op = op }) values)) p g.name ≡ data' g.name
  data-kept time task object op values data' p e =
      let F : Bool → Variables = λ z. if z then kept_in (object_named w object) p (data' g.name) else data' g.name in ap F e

  object-one : (object : Name) → same_name object g.name ≡ true → object_named w object ≡ Some g
  object-one object e = ap (object_named w) ((bytes_eq-Decides object g.name).0 e) ∙ own

  data-left : (time : ℕ) (task object op : Name) (values : List ℕ) (data' : Name → Variables) (p : Path) → same_name object g.name ≡ true
      → data_after w data' (By time task (Enter (record { object = object; op = op }) values)) p g.name ≡ kept g.vars p.vars
  data-left time task object op values data' p e =
      let F : Bool → Variables = λ z. if z then kept_in (object_named w object) p (data' g.name) else data' g.name in
      ap F e ∙ ap (λ o. kept_in o p (data' g.name)) (object-one object e)

  -- the way that is computed where the object is entered
  way-here : (time : ℕ) (task object op : Name) (values : List ℕ) (data' : Name → Variables) (told : List Event) → same_name object g.name ≡ true
      → way_in w clear.depth most data' (By time task (Enter (record { object = object; op = op }) values)) told
      ≡ way_of most (is_passed g.name told) (body_by w clear.depth (data' g.name) values (does_in task told) (op_named g op))
  way-here time task object op values data' told e =
      let same : object ≡ g.name = (bytes_eq-Decides object g.name).0 e in
      ap (λ n. way_of most (is_passed n told) (body_in w clear.depth data' op values (does_in task told) (object_named w object))) same
      ∙ ap (λ o. way_of most (is_passed g.name told) (body_in w clear.depth data' op values (does_in task told) o)) (object-one object e)

  -- RUNS of the operations
  body-only : (data' : Variables) (op : Name) (values : List ℕ) (does : List Deed) (o : Operation) (body : Path) → IsOpOf g op o
      → IsBody w o data' values does body → body_by w clear.depth data' values does (op_named g op) ≡ Some body
  body-only data' op values does o body stands runs =
      ap (body_by w clear.depth data' values does) stands
      ∙ run-only w clear o.block (may-run op o stands) (opened o values ++ data') does body (runs.run, runs.shows)

  body-found : (data' : Variables) (op : Name) (values : List ℕ) (does : List Deed) (found : Option Operation) (body : Path)
      → op_named g op ≡ found → body_by w clear.depth data' values does found ≡ Some body
      → (o : Operation) × (IsOpOf g op o × (found ≡ Some o) × IsBody w o data' values does body)
  body-found data' op values does None body stands e = absurd (none-some body e)
  body-found data' op values does (Some o) body stands e =
      let r = run-found w clear o.block (may-run op o stands) (opened o values ++ data') does body e in
      (o, (stands, refl, record { run = r.0; shows = r.1 }))

  begun-only : (data' : Variables) (op : Name) (values : List ℕ) (does : List Deed) (o : Operation) → IsOpOf g op o
      → IsBodyBegun w o data' values does → begun_by w clear.depth data' values does (op_named g op) ≡ true
  begun-only data' op values does o stands b =
      ap (begun_by w clear.depth data' values does) stands
      ∙ begins-only w clear o.block (may-run op o stands) (opened o values ++ data') does (b.script, b.begins, b.shows)

  begun-found : (data' : Variables) (op : Name) (values : List ℕ) (does : List Deed) (found : Option Operation) → op_named g op ≡ found
      → begun_by w clear.depth data' values does found ≡ true → (o : Operation) × (IsOpOf g op o × IsBodyBegun w o data' values does)
  begun-found data' op values does None stands e = wrong (sym e)
  begun-found data' op values does (Some o) stands e =
      let b = begins-found w clear o.block (may-run op o stands) (opened o values ++ data') does e in
      (o, (stands, record { script = b.0; begins = b.1; shows = b.2 }))

  -- the check passes where the operations are run one by one
  pub one-only : (data' : Variables) (ps : List Passage) → AreOneByOne w g data' ps → one_by_one w clear.depth g data' ps ≡ true
  one-only data' [] h = refl
  one-only data' (Into thread op values does body ∷ []) h = begun-only data' op values does h.0 h.1 h.2
  one-only data' (Into thread op values does body ∷ Out other same results ∷ more) h =
      let s = h.2 in
      let e = body-only data' op values does s.operation body s.stands s.runs in
      let gives : gives_by results (op_named g op) body ≡ true =
      ap (λ o. gives_by results o body) s.stands ∙ (bytes_eq-Decides results (reads (out_names s.operation.sig.params) body.vars)).1 s.gives in
      and_from _ _ (and_from _ _ h.0 h.1)
      (ap (λ x. out_by g results (op_named g op) x (λ d. one_by_one w clear.depth g d more)) e
      ∙ and_from _ _ gives (one-only (kept g.vars body.vars) more h.3))
  one-only data' (Into thread op values does body ∷ Into other another values' does' body' ∷ more) h = absurd h
  one-only data' (Out thread op results ∷ more) h = absurd h

  -- WAYS of any kind against those that are computed
  abbrev pub IsAlike : Moment → Moment → Type 0
  IsAlike = AlikeAt most g

  -- what is known of an operation that is entered: its way is the run that is found where the object is passed again, and else endless
  abbrev Computed : Variables → Name → List ℕ → List Deed → List Event → Path → Type 0
  Computed data' op values does told c = c ≡ way_of most (is_passed g.name told) (body_by w clear.depth data' values does (op_named g op))

  -- an event that is no passage changes nothing of it
  computed-on : (data' : Variables) (op : Name) (values : List ℕ) (does : List Deed) (e : Event) (told : List Event) (c : Path)
      → is_passage g.name e ≡ false → Computed data' op values does (e ∷ told) c → Computed data' op values does told c
  computed-on data' op values does e told c none h =
      h ∙ ap (λ b. way_of most (b || is_passed g.name told) (body_by w clear.depth data' values does (op_named g op))) none

  -- and at a passage it is the run
  computed-now : (data' : Variables) (op : Name) (values : List ℕ) (does : List Deed) (e : Event) (told : List Event) (c body : Path)
      → is_passage g.name e ≡ true → Computed data' op values does (e ∷ told) c → body_by w clear.depth data' values does (op_named g op) ≡ Some body
      → body ≡ c
  computed-now data' op values does e told c body here h found =
      sym (h ∙ ap (λ b. way_of most (b || is_passed g.name told) (body_by w clear.depth data' values does (op_named g op))) here
      ∙ ap (way_of most true) found)

  abbrev waysof : (Name → Variables) → List Event → List Path
  waysof data' told = ways_from w clear.depth most data' told

  abbrev ps_of : List Event → List Path → List Passage
  ps_of told bodies = passages g.name (moments told bodies)

  -- outside of the object: any ways that serve it, and those that are computed
  abbrev Outside : (Name → Variables) → List Event → List Path → Type 0
  Outside data' told bs = AreOneByOne w g (data' g.name) (ps_of told bs)
      → AreOneByOne w g (data' g.name) (ps_of told (waysof data' told)) × Pairs IsAlike (moments told bs) (moments told (waysof data' told))

  -- inside of an operation that was entered with these values
  abbrev Inside : Variables → Name → Name → List ℕ → List Deed → (Name → Variables) → List Event → Path → Path → List Path → Type 0
  Inside entry thread op values does data' told b c bs =
      AreOneByOne w g entry (Into thread op values does b ∷ ps_of told bs) → data' g.name ≡ kept g.vars c.vars
      → Computed entry op values does told c
      → AreOneByOne w g entry (Into thread op values does c ∷ ps_of told (waysof data' told))
      × (Pairs IsAlike (moments told bs) (moments told (waysof data' told)) × ((b ≡ c) ⊎ (c ≡ endless most)))

  abbrev AllOutside : List Event → Type 0
  AllOutside told = (data' : Name → Variables) (bs : List Path) → Outside data' told bs

  abbrev AllInside : List Event → Type 0
  AllInside told = (entry : Variables) (thread op : Name) (values : List ℕ) (does : List Deed) (data' : Name → Variables) (b c : Path) (bs : List Path)
      → Inside entry thread op values does data' told b c bs

  -- an event that is no passage of the object
  record IsOther (e : Event) (told : List Event) : Type 0 where
    none : is_passage g.name e ≡ false
    skips : (bs : List Path) → ps_of (e ∷ told) bs ≡ ps_of told (drop 1 bs)
    keeps : (data' : Name → Variables) (p : Path) → data_after w data' e p g.name ≡ data' g.name
    alike : (b c : Path) → IsAlike (record { event = e; body = b }) (record { event = e; body = c })

  other-outside : (e : Event) (told : List Event) → IsOther e told → AllOutside told → AllOutside (e ∷ told)
  other-outside e told other outer data' bs h =
      let c : Path = way_in w clear.depth most data' e told in
      let after : Name → Variables = data_after w data' e c in
      let same : after g.name ≡ data' g.name = other.keeps data' c in
      let h' : AreOneByOne w g (after g.name) (ps_of told (drop 1 bs)) =
      subst (λ z. AreOneByOne w g z (ps_of told (drop 1 bs))) (sym same) (subst (AreOneByOne w g (data' g.name)) (other.skips bs) h) in
      let r = outer after (drop 1 bs) h' in (
        subst (AreOneByOne w g (data' g.name)) (sym (other.skips (c ∷ waysof after told)))
            (subst (λ z. AreOneByOne w g z (ps_of told (waysof after told))) same r.0),
        (other.alike (first_way bs) c, r.1),
      )

  other-inside : (e : Event) (told : List Event) → IsOther e told → AllInside told → AllInside (e ∷ told)
  other-inside e told other inner entry thread op values does data' b c bs h kept' computed =
      let p : Path = way_in w clear.depth most data' e told in
      let after : Name → Variables = data_after w data' e p in
      let r = inner entry thread op values does after b c (drop 1 bs)
      (subst (λ ps. AreOneByOne w g entry (Into thread op values does b ∷ ps)) (other.skips bs) h)
      (other.keeps data' p ∙ kept') (computed-on entry op values does e told c other.none computed) in (
        subst (λ ps. AreOneByOne w g entry (Into thread op values does c ∷ ps)) (sym (other.skips (p ∷ waysof after told))) r.0,
        ((other.alike (first_way bs) p, r.1.0), r.1.1),
      )

  -- a deed that is no entry
  abbrev is_entry : Deed → Bool
  is_entry (Enter name values) = true
  is_entry _ = false

  no_entry : (time : ℕ) (task : Name) (deed : Deed) → is_entry deed ≡ false → (b c : Path)
      → IsAlike (record { event = By time task deed; body = b }) (record { event = By time task deed; body = c })
  no_entry time task deed e b c time' task' name values at same = wrong (sym (ap is_entry_of at) ∙ e)
    where
      is_entry_of : Event → Bool
      is_entry_of (By t k d) = is_entry d
      is_entry_of (Horizon t) = false

  -- the object is entered
  enter-outside : (time : ℕ) (task object op : Name) (values : List ℕ) (told : List Event) → same_name object g.name ≡ true → AllInside told
      → AllOutside (By time task (Enter (record { object = object; op = op }) values) ∷ told)
  enter-outside time task object op values told e inner data' bs h =
      let event : Event = By time task (Enter (record { object = object; op = op }) values) in
      let c : Path = way_in w clear.depth most data' event told in
      let after : Name → Variables = data_after w data' event c in
      let In : List Deed → Path → List Passage → Type 0 = λ does body ps. AreOneByOne w g (data' g.name) (Into task op values does body ∷ ps) in
      let h' : In (later_deeds task told (drop 1 bs)) (first_way bs) (ps_of told (drop 1 bs)) =
      subst (AreOneByOne w g (data' g.name)) (enter-in time task object op values told bs true e) h in
      let h'' : In (does_in task told) (first_way bs) (ps_of told (drop 1 bs)) =
      subst (λ does. In does (first_way bs) (ps_of told (drop 1 bs))) (inside-same task told (drop 1 bs) []) h' in
      let r = inner (data' g.name) task op values (does_in task told) after (first_way bs) c (drop 1 bs) h''
      (data-left time task object op values data' c e) (way-here time task object op values data' told e) in
      let k : In (later_deeds task told (waysof after told)) c (ps_of told (waysof after told)) =
      subst (λ does. In does c (ps_of told (waysof after told))) (sym (inside-same task told (waysof after told) [])) r.0 in (
        subst (AreOneByOne w g (data' g.name)) (sym (enter-in time task object op values told (c ∷ waysof after told) true e)) k,
        ((λ time' task' name values' at same. r.1.1), r.1.0),
      )

  enter-inside : (time : ℕ) (task object op : Name) (values : List ℕ) (told : List Event) → same_name object g.name ≡ true
      → AllInside (By time task (Enter (record { object = object; op = op }) values) ∷ told)
  enter-inside time task object op values told e entry thread op' values' does data' b c bs h kept' computed =
      absurd (subst (λ ps. AreOneByOne w g entry (Into thread op' values' does b ∷ ps)) (enter-in time task object op values told bs true e) h)

  -- the object is left
  leave-outside : (time : ℕ) (task object op : Name) (values : List ℕ) (told : List Event) → same_name object g.name ≡ true
      → AllOutside (By time task (Leave (record { object = object; op = op }) values) ∷ told)
  leave-outside time task object op values told e data' bs h =
      absurd (subst (AreOneByOne w g (data' g.name)) (leave-out time task object op values told bs true e) h)

  leave-inside : (time : ℕ) (task object op : Name) (results : List ℕ) (told : List Event) → same_name object g.name ≡ true → AllOutside told
      → AllInside (By time task (Leave (record { object = object; op = op }) results) ∷ told)
  leave-inside time task object op results told e outer entry thread op' values does data' b c bs h kept' computed =
      let event : Event = By time task (Leave (record { object = object; op = op }) results) in
      let p : Path = way_in w clear.depth most data' event told in
      let after : Name → Variables = data_after w data' event p in
      let h' = subst (λ ps. AreOneByOne w g entry (Into thread op' values does b ∷ ps)) (leave-out time task object op results told bs true e) h in
      let served : IsServed w g entry op' values does b results = h'.2 in
      let same : b ≡ c =
      computed-now entry op' values does event told c b e computed
      (body-only entry op' values does served.operation b served.stands served.runs) in
      let data-same : kept g.vars b.vars ≡ after g.name = ap (λ x. kept g.vars x.vars) same ∙ sym kept' in
      let r = outer after (drop 1 bs) (subst (λ z. AreOneByOne w g z (ps_of told (drop 1 bs))) data-same h'.3) in
      let rest : AreOneByOne w g (kept g.vars c.vars) (ps_of told (waysof after told)) =
      subst (λ z. AreOneByOne w g z (ps_of told (waysof after told))) kept' r.0 in
      let k : AreOneByOne w g entry (Into thread op' values does c ∷ Out task op results ∷ ps_of told (waysof after told)) =
      (h'.0, h'.1, subst (λ x. IsServed w g entry op' values does x results) same served, rest) in (
        subst (λ ps. AreOneByOne w g entry (Into thread op' values does c ∷ ps))
            (sym (leave-out time task object op results told (p ∷ waysof after told) true e)) k,
        ((no_entry time task (Leave (record { object = object; op = op }) results) refl (first_way bs) p, r.1), inl same),
      )

  other-entry : (time : ℕ) (task object op : Name) (values : List ℕ) (told : List Event) → same_name object g.name ≡ false
      → IsOther (By time task (Enter (record { object = object; op = op }) values)) told
  other-entry time task object op values told e = record {
    none = e;
    skips = λ bs. enter-in time task object op values told bs false e;
    keeps = λ data' p. data-kept time task object op values data' p e;
    alike = λ b c time' task' name values' at same.
        wrong (sym same ∙ ap (λ o. same_name o g.name) (sym (ap object_of at)) ∙ e);
  }
    where
      object_of : Event → Name
      object_of (By t k (Enter name vs)) = name.object
      object_of _ = []

  other-exit : (time : ℕ) (task object op : Name) (values : List ℕ) (told : List Event) → same_name object g.name ≡ false
      → IsOther (By time task (Leave (record { object = object; op = op }) values)) told
  other-exit time task object op values told e = record {
    none = e;
    skips = λ bs. leave-out time task object op values told bs false e;
    keeps = λ data' p. refl;
    alike = no_entry time task (Leave (record { object = object; op = op }) values) refl;
  }

  -- what holds outside and inside, by the event
  abbrev Holds : List Event → Type 0
  Holds told = AllOutside told × AllInside told

  by-other : (e : Event) (told : List Event) → IsOther e told → Holds told → Holds (e ∷ told)
  by-other e told other h = (other-outside e told other h.0, other-inside e told other h.1)

  by-entry : (b : Bool) (time : ℕ) (task object op : Name) (values : List ℕ) (told : List Event) → same_name object g.name ≡ b → Holds told
      → Holds (By time task (Enter (record { object = object; op = op }) values) ∷ told)
  by-entry true time task object op values told e h =
      (enter-outside time task object op values told e h.1, enter-inside time task object op values told e)
  by-entry false time task object op values told e h = by-other _ told (other-entry time task object op values told e) h

  by-exit : (b : Bool) (time : ℕ) (task object op : Name) (values : List ℕ) (told : List Event) → same_name object g.name ≡ b → Holds told
      → Holds (By time task (Leave (record { object = object; op = op }) values) ∷ told)
  by-exit true time task object op values told e h =
      (leave-outside time task object op values told e, leave-inside time task object op values told e h.0)
  by-exit false time task object op values told e h = by-other _ told (other-exit time task object op values told e) h

  simple : (time : ℕ) (task : Name) (deed : Deed) (told : List Event) → is_entry deed ≡ false → is_passage g.name (By time task deed) ≡ false
      → ((bs : List Path) → ps_of (By time task deed ∷ told) bs ≡ ps_of told (drop 1 bs))
      → ((data' : Name → Variables) (p : Path) → data_after w data' (By time task deed) p g.name ≡ data' g.name)
      → IsOther (By time task deed) told
  simple time task deed told e none skips keeps =
      record { none = none; skips = skips; keeps = keeps; alike = no_entry time task deed e }

  no_horizon : (time : ℕ) (b c : Path) → IsAlike (record { event = Horizon time; body = b }) (record { event = Horizon time; body = c })
  no_horizon time b c time' task name values at same = cc

  both-hold : (told : List Event) → Holds told
  both-hold [] =
      ((λ data' bs h. (tt, tt)), (λ entry thread op values does data' b c bs h kept' computed. (h, (tt, inr computed))))
  both-hold (Horizon time ∷ told) =
      by-other (Horizon time) told
      (record { none = refl; skips = λ bs. refl; keeps = λ data' p. refl; alike = no_horizon time }) (both-hold told)
  both-hold (By time task (Enter name values) ∷ told) =
      by-entry (same_name name.object g.name) time task name.object name.op values told refl (both-hold told)
  both-hold (By time task (Leave name values) ∷ told) =
      by-exit (same_name name.object g.name) time task name.object name.op values told refl (both-hold told)
  both-hold (By time task (Release v) ∷ told) =
      by-other _ told (simple time task (Release v) told refl refl (λ bs. refl) (λ data' p. refl)) (both-hold told)
  both-hold (By time task (Arrive v) ∷ told) =
      by-other _ told (simple time task (Arrive v) told refl refl (λ bs. refl) (λ data' p. refl)) (both-hold told)
  both-hold (By time task (Request target v) ∷ told) =
      by-other _ told (simple time task (Request target v) told refl refl (λ bs. refl) (λ data' p. refl)) (both-hold told)
  both-hold (By time task (Print v) ∷ told) =
      by-other _ told (simple time task (Print v) told refl refl (λ bs. refl) (λ data' p. refl)) (both-hold told)
  both-hold (By time task (End used) ∷ told) =
      by-other _ told (simple time task (End used) told refl refl (λ bs. refl) (λ data' p. refl)) (both-hold told)
  both-hold (By time task (Stop object priority ceiling) ∷ told) =
      by-other _ told (simple time task (Stop object priority ceiling) told refl refl (λ bs. refl) (λ data' p. refl)) (both-hold told)

  -- the ways that are computed serve the object where any do, and those are the same or endless
  pub ways-serve : (data' : Name → Variables) (told : List Event) (bs : List Path) → AreOneByOne w g (data' g.name) (passages g.name (moments told bs))
      → AreOneByOne w g (data' g.name) (passages g.name (moments told (ways_from w clear.depth most data' told)))
      × Pairs IsAlike (moments told bs) (moments told (ways_from w clear.depth most data' told))
  ways-serve data' told bs h = (both-hold told).0 data' bs h

  -- THE CHECK passes with the ways that are computed only where they serve the object
  abbrev PassesOutside : List Event → Type 0
  PassesOutside told = (data' : Name → Variables) → one_by_one w clear.depth g (data' g.name) (ps_of told (waysof data' told)) ≡ true
      → AreOneByOne w g (data' g.name) (ps_of told (waysof data' told))

  abbrev PassesInside : List Event → Type 0
  PassesInside told = (entry : Variables) (thread op : Name) (values : List ℕ) (does : List Deed) (data' : Name → Variables) (c : Path)
      → one_by_one w clear.depth g entry (Into thread op values does c ∷ ps_of told (waysof data' told)) ≡ true → data' g.name ≡ kept g.vars c.vars
      → Computed entry op values does told c → AreOneByOne w g entry (Into thread op values does c ∷ ps_of told (waysof data' told))

  abbrev Passes : List Event → Type 0
  Passes told = PassesOutside told × PassesInside told

  other-passes : (e : Event) (told : List Event) → IsOther e told → Passes told → Passes (e ∷ told)
  other-passes e told other p = (outside, inside')
    where
      outside : PassesOutside (e ∷ told)
      outside data' h =
          let c : Path = way_in w clear.depth most data' e told in
          let after : Name → Variables = data_after w data' e c in
          let same : after g.name ≡ data' g.name = other.keeps data' c in
          let h' : one_by_one w clear.depth g (after g.name) (ps_of told (waysof after told)) ≡ true =
          ap (λ z. one_by_one w clear.depth g z (ps_of told (waysof after told))) same
          ∙ ap (one_by_one w clear.depth g (data' g.name)) (sym (other.skips (c ∷ waysof after told))) ∙ h in
          subst (AreOneByOne w g (data' g.name)) (sym (other.skips (c ∷ waysof after told)))
          (subst (λ z. AreOneByOne w g z (ps_of told (waysof after told))) same (p.0 after h'))

      inside' : PassesInside (e ∷ told)
      inside' entry thread op values does data' c h kept' computed =
          let x : Path = way_in w clear.depth most data' e told in
          let after : Name → Variables = data_after w data' e x in
          let skip = other.skips (x ∷ waysof after told) in
          let h' : one_by_one w clear.depth g entry (Into thread op values does c ∷ ps_of told (waysof after told)) ≡ true =
          ap (λ ps. one_by_one w clear.depth g entry (Into thread op values does c ∷ ps)) (sym skip) ∙ h in
          subst (λ ps. AreOneByOne w g entry (Into thread op values does c ∷ ps)) (sym skip)
          (p.1 entry thread op values does after c h' (other.keeps data' x ∙ kept') (computed-on entry op values does e told c other.none computed))

  entry-passes : (time : ℕ) (task object op : Name) (values : List ℕ) (told : List Event) → same_name object g.name ≡ true → Passes told
      → Passes (By time task (Enter (record { object = object; op = op }) values) ∷ told)
  entry-passes time task object op values told e p = (outside, inside')
    where
      event : Event
      event = By time task (Enter (record { object = object; op = op }) values)

      outside : PassesOutside (event ∷ told)
      outside data' h =
          let c : Path = way_in w clear.depth most data' event told in
          let after : Name → Variables = data_after w data' event c in
          let into = enter-in time task object op values told (c ∷ waysof after told) true e in
          let does-same : later_deeds task told (waysof after told) ≡ does_in task told = inside-same task told (waysof after told) [] in
          let Check : List Deed → Bool = λ does. one_by_one w clear.depth g (data' g.name) (Into task op values does c ∷ ps_of told (waysof after told)) in
          let h' : Check (does_in task told) ≡ true =
          ap Check (sym does-same) ∙ ap (one_by_one w clear.depth g (data' g.name)) (sym into) ∙ h in
          let r = p.1 (data' g.name) task op values (does_in task told) after c h' (data-left time task object op values data' c e)
          (way-here time task object op values data' told e) in
          subst (AreOneByOne w g (data' g.name)) (sym into)
          (subst (λ does. AreOneByOne w g (data' g.name) (Into task op values does c ∷ ps_of told (waysof after told))) (sym does-same) r)

      inside' : PassesInside (event ∷ told)
      inside' entry thread op' values' does data' c h kept' computed =
          let x : Path = way_in w clear.depth most data' event told in
          let after : Name → Variables = data_after w data' event x in
          let into = enter-in time task object op values told (x ∷ waysof after told) true e in
          wrong (sym h ∙ ap (λ ps. one_by_one w clear.depth g entry (Into thread op' values' does c ∷ ps)) into)

  -- the parts of what is behind an operation that is left
  out-parts : (results : List ℕ) (o : Option Operation) (found : Option Path) (next : Variables → Bool) → out_by g results o found next ≡ true
      → (body : Path) × (found ≡ Some body) × (gives_by results o body ≡ true) × (next (kept g.vars body.vars) ≡ true)
  out-parts results o None next h = wrong (sym h)
  out-parts results o (Some body) next h = let p = and_parts (gives_by results o body) _ h in (body, refl, p.0, p.1)

  exit-passes : (time : ℕ) (task object op : Name) (results : List ℕ) (told : List Event) → same_name object g.name ≡ true → Passes told
      → Passes (By time task (Leave (record { object = object; op = op }) results) ∷ told)
  exit-passes time task object op results told e p = (outside, inside')
    where
      event : Event
      event = By time task (Leave (record { object = object; op = op }) results)

      outside : PassesOutside (event ∷ told)
      outside data' h =
          let x : Path = way_in w clear.depth most data' event told in
          let out = leave-out time task object op results told (x ∷ waysof (data_after w data' event x) told) true e in
          wrong (sym h ∙ ap (one_by_one w clear.depth g (data' g.name)) out)

      inside' : PassesInside (event ∷ told)
      inside' entry thread op' values does data' c h kept' computed =
          let x : Path = way_in w clear.depth most data' event told in
          let after : Name → Variables = data_after w data' event x in
          let out = leave-out time task object op results told (x ∷ waysof after told) true e in
          let rest : List Passage = ps_of told (waysof after told) in
          let h' : one_by_one w clear.depth g entry (Into thread op' values does c ∷ Out task op results ∷ rest) ≡ true =
          ap (λ ps. one_by_one w clear.depth g entry (Into thread op' values does c ∷ ps)) (sym out) ∙ h in
          let parts = and_parts (same_name thread task && same_name op' op) _ h' in
          let names = and_parts (same_name thread task) (same_name op' op) parts.0 in
          let o = out-parts results (op_named g op') (body_by w clear.depth entry values does (op_named g op'))
          (λ d. one_by_one w clear.depth g d rest) parts.1 in
          let same : o.0 ≡ c = computed-now entry op' values does event told c o.0 e computed o.1 in
          let found = body-found entry op' values does (op_named g op') o.0 refl o.1 in
          let operation : Operation = found.0 in
          let gives : results ≡ reads (out_names operation.sig.params) o.0.vars =
          (bytes_eq-Decides results (reads (out_names operation.sig.params) o.0.vars)).0
          (ap (λ z. gives_by results z o.0) (sym found.1.1) ∙ o.2) in
          let served : IsServed w g entry op' values does o.0 results =
          record { operation = operation; stands = found.1.0; runs = found.1.2; gives = gives } in
          let data-same : after g.name ≡ kept g.vars o.0.vars = kept' ∙ sym (ap (λ z. kept g.vars z.vars) same) in
          let more = p.0 after (ap (λ z. one_by_one w clear.depth g z rest) data-same ∙ o.3) in
          subst (λ ps. AreOneByOne w g entry (Into thread op' values does c ∷ ps)) (sym out) (
            names.0,
            names.1,
            subst (λ z. IsServed w g entry op' values does z results) same served,
            subst (λ z. AreOneByOne w g z rest) kept' more,
          )

  by-entry-passes : (b : Bool) (time : ℕ) (task object op : Name) (values : List ℕ) (told : List Event) → same_name object g.name ≡ b → Passes told
      → Passes (By time task (Enter (record { object = object; op = op }) values) ∷ told)
  by-entry-passes true time task object op values told e p = entry-passes time task object op values told e p
  by-entry-passes false time task object op values told e p = other-passes _ told (other-entry time task object op values told e) p

  by-exit-passes : (b : Bool) (time : ℕ) (task object op : Name) (values : List ℕ) (told : List Event) → same_name object g.name ≡ b → Passes told
      → Passes (By time task (Leave (record { object = object; op = op }) values) ∷ told)
  by-exit-passes true time task object op values told e p = exit-passes time task object op values told e p
  by-exit-passes false time task object op values told e p = other-passes _ told (other-exit time task object op values told e) p

  all-pass : (told : List Event) → Passes told
  all-pass [] = ((λ data' h. tt), at-end)
    where
      at-end : PassesInside []
      at-end entry thread op values does data' c h kept' computed =
          let b = begun-found entry op values does (op_named g op) refl h in (b.0, b.1.0, b.1.1)
  all-pass (Horizon time ∷ told) =
      other-passes (Horizon time) told
      (record { none = refl; skips = λ bs. refl; keeps = λ data' p. refl; alike = no_horizon time }) (all-pass told)
  all-pass (By time task (Enter name values) ∷ told) =
      by-entry-passes (same_name name.object g.name) time task name.object name.op values told refl (all-pass told)
  all-pass (By time task (Leave name values) ∷ told) =
      by-exit-passes (same_name name.object g.name) time task name.object name.op values told refl (all-pass told)
  all-pass (By time task (Release v) ∷ told) =
      other-passes _ told (simple time task (Release v) told refl refl (λ bs. refl) (λ data' p. refl)) (all-pass told)
  all-pass (By time task (Arrive v) ∷ told) =
      other-passes _ told (simple time task (Arrive v) told refl refl (λ bs. refl) (λ data' p. refl)) (all-pass told)
  all-pass (By time task (Request target v) ∷ told) =
      other-passes _ told (simple time task (Request target v) told refl refl (λ bs. refl) (λ data' p. refl)) (all-pass told)
  all-pass (By time task (Print v) ∷ told) =
      other-passes _ told (simple time task (Print v) told refl refl (λ bs. refl) (λ data' p. refl)) (all-pass told)
  all-pass (By time task (End used) ∷ told) =
      other-passes _ told (simple time task (End used) told refl refl (λ bs. refl) (λ data' p. refl)) (all-pass told)
  all-pass (By time task (Stop object priority ceiling) ∷ told) =
      other-passes _ told (simple time task (Stop object priority ceiling) told refl refl (λ bs. refl) (λ data' p. refl)) (all-pass told)

  pub check-serves : (data' : Name → Variables) (told : List Event)
      → one_by_one w clear.depth g (data' g.name) (passages g.name (moments told (ways_from w clear.depth most data' told))) ≡ true
      → AreOneByOne w g (data' g.name) (passages g.name (moments told (ways_from w clear.depth most data' told)))
  check-serves data' told h = (all-pass told).0 data' h
