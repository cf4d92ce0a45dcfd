-- From behind an enter or a leave to before it: what is claimed of the tasks and of the objects.
use Rattle.std.specs.Prelude.{◌≡◌, ℕ, zero, suc, ◌-◌, true, false, List, [], ◌∷◌, ◌++◌, set, Some, slice_get, option_map, unwrap_or, refl}
use Rattle.std.specs.List.{cons_option}
use Rattle.std.proofs.Common.{sym, ◌∙◌, ap, subst, arith, inl, inr, append-nil}
use Rattle.seq_tree.specs.Lists.{change}
use Rattle.seq_tree.specs.Names.{Name, same_name}
use Rattle.seq_tree.specs.Operations.{Operation, out_names}
use Rattle.seq_tree.specs.Variables.{Variables, kept, reads}
use Rattle.seq_tree.specs.Runs.{Path, silent}
use Rattle.seq_tree.specs.declared.tree.OpName.{OpName}
use Rattle.ada_tree.specs.Programs.{Program}
use Rattle.trace_tree.specs.Lines.{unit_name}
use Rattle.ods_tree.specs.Walk.{only_if}
use Rattle.machine.specs.Systems.{System, TaskUnit, ProtectedUnit, system}
use Rattle.machine.specs.Pieces.{Piece}
use Rattle.machine.specs.States.{Task, Resource, Object}
use Rattle.guarantee.specs.Software.{Software, program_software}
use Rattle.guarantee.specs.Events.{Deed, Event, By}
use Rattle.guarantee.specs.Events as names
use Rattle.guarantee.specs.Steps.{Moment, Step, steps_of, closes, before_leave, inside}
use Rattle.guarantee.specs.Passages.{Passage, Into, Out, passages, AreOneByOne, IsOpOf}
use Rattle.law_written.proofs.Shared.Moves.{threads_of}
use Rattle.law_written.proofs.Shared.Claims.{Naming, did, step_at, Stands, Holds, GoesOut, HeldUntil, Serves, Conducts, guarded_at}
use Rattle.law_written.proofs.Shared.Back.{places, other_name, steps-own, steps-other, threads_back, serves_back, held_same, held_step}
use Rattle.law_written.proofs.Acts.{IsEntry}
use Rattle.std.proofs.lemmas.Option.{none-some, same_Some}
use Rattle.std.proofs.lemmas.Bool.{false_from_ne_true}
use Rattle.law_lists.proofs.Shared.Facts.{same-self}
use Rattle.law_lists.proofs.Shared.Places.{change-at, change-else, set-else}
use Rattle.arrivals_tree.specs.Arriving.{Arrivals}
use Rattle.law_tasks.proofs.Shared.Courses.{Course}
use Rattle.law_tasks.proofs.Shared.Programs.{course, entry_name}
use Rattle.law_tasks.proofs.Shared.Ways.{Within, Passes}
use Rattle.ada_tree.specs.Rules.{MeetsRules}
use Rattle.law_written.proofs.Shared.Namings.{naming}
use Rattle.law_tasks.proofs.Shared.Depths.{before-closed, open-leave}
use Rattle.std.proofs.lemmas.List.{append_cancel_left}
use Rattle.law_ceilings.specs.Sections.{sections}

-- no object is held by two tasks or twice
abbrev pub Alone : List Task → Type 0
Alone ts = (j k k' d d' : ℕ) (u u' : Task) → slice_get ts k ≡ Some u → slice_get ts k' ≡ Some u' → Holds j d (sections u) → Holds j d' (sections u')
    → (k ≡ k') × (d ≡ d')

-- each object has its data
abbrev pub HasStores : System → List Variables → Type 0
HasStores y stores = (j : ℕ) (g : ProtectedUnit) → slice_get y.objects j ≡ Some g → (data' : Variables) × (slice_get stores j ≡ Some data')

pub set-here : {A : Type 0} (xs : List A) (k : ℕ) (x v : A) → slice_get xs k ≡ Some x → slice_get (set xs k v) k ≡ Some v
set-here [] k x v e = absurd (none-some x e)
set-here (a ∷ xs) zero x v e = refl
set-here (a ∷ xs) (suc k) x v e = set-here xs k x v e

pub set-stores : (y : System) (stores : List Variables) (k : ℕ) (v : Variables) → HasStores y stores → HasStores y (set stores k v)
set-stores y stores k v has j g at = places j k
    (λ e. let there : slice_get stores k ≡ Some (has j g at).0 = ap (slice_get stores) (sym e) ∙ (has j g at).1 in
    (v, ap (slice_get (set stores k v)) e ∙ set-here stores k (has j g at).0 v there))
    (λ apart. ((has j g at).0, set-else k j v stores apart ∙ (has j g at).1))

-- what a leave is to depths
closes-leave : (d : Deed) (name : OpName) (values : List ℕ) → d ≡ names.Leave name values → closes 0 d ≡ true
closes-leave d name values e = ap (closes 0) e

closes-enter : (d : ℕ) (name : OpName) (values : List ℕ) → closes d (names.Enter name values) ≡ false
closes-enter zero name values = refl
closes-enter (suc d) name values = refl

leave_names : (a b : OpName) (us vs : List ℕ) → names.Leave a us ≡ names.Leave b vs → (a ≡ b) × (us ≡ vs)
leave_names a b us vs e = (cc, cc)

zero_suc : (d : ℕ) → suc d ≡ 0 → ⊥
zero_suc d e = omega (arith, e)

module _ (p : Program) (arrivals : Arrivals) (meets : MeetsRules p) where
  abbrev y : System
  y = system p arrivals

  abbrev w : Software
  w = program_software p

  abbrev setup : Course
  setup = course p arrivals

  names' : Naming p y w
  names' = naming p arrivals meets

  -- the name of an object in a trace
  object_named : (k op : ℕ) (g : ProtectedUnit) → slice_get y.objects k ≡ Some g → (entry_name p y k op).object ≡ g.name
  object_named k op g at = ap (λ o. unit_name p (unwrap_or (option_map (λ h. h.unit) o) 0)) at ∙ names'.object_name k g at

  -- the passages of the object, and of others
  into_here : (k op time : ℕ) (g : ProtectedUnit) (name : Name) (values : List ℕ) (body : Path) (ms : List Moment) → slice_get y.objects k ≡ Some g
      → passages g.name (did time name (names.Enter (entry_name p y k op) values) body ∷ ms)
      ≡ Into name (entry_name p y k op).op values (inside (steps_of name ms)) body ∷ passages g.name ms
  into_here k op time g name values body ms at =
      ap (λ n. cons_option (only_if (same_name n g.name) (Into name (entry_name p y k op).op values (inside (steps_of name ms)) body))
      (passages g.name ms)) (object_named k op g at)
      ∙ ap (λ b. cons_option (only_if b (Into name (entry_name p y k op).op values (inside (steps_of name ms)) body)) (passages g.name ms))
      (same-self g.name)

  out_here : (k op time : ℕ) (g : ProtectedUnit) (name : Name) (values : List ℕ) (body : Path) (ms : List Moment) → slice_get y.objects k ≡ Some g
      → passages g.name (did time name (names.Leave (entry_name p y k op) values) body ∷ ms)
      ≡ Out name (entry_name p y k op).op values ∷ passages g.name ms
  out_here k op time g name values body ms at =
      ap (λ n. cons_option (only_if (same_name n g.name) (Out name (entry_name p y k op).op values)) (passages g.name ms)) (object_named k op g at)
      ∙ ap (λ b. cons_option (only_if b (Out name (entry_name p y k op).op values)) (passages g.name ms)) (same-self g.name)

  apart_named : (j k op : ℕ) (g g' : ProtectedUnit) → slice_get y.objects k ≡ Some g → slice_get y.objects j ≡ Some g' → (j ≡ k → ⊥)
      → same_name (entry_name p y k op).object g'.name ≡ false
  apart_named j k op g g' at there apart =
      ap (λ n. same_name n g'.name) (object_named k op g at) ∙ false_from_ne_true _ (λ e. apart (sym (names'.objects_apart k j g g' at there e)))

  into_other : (j k op time : ℕ) (g g' : ProtectedUnit) (name : Name) (values : List ℕ) (body : Path) (ms : List Moment)
      → slice_get y.objects k ≡ Some g → slice_get y.objects j ≡ Some g' → (j ≡ k → ⊥)
      → passages g'.name (did time name (names.Enter (entry_name p y k op) values) body ∷ ms) ≡ passages g'.name ms
  into_other j k op time g g' name values body ms at there apart =
      ap (λ b. cons_option (only_if b (Into name (entry_name p y k op).op values (inside (steps_of name ms)) body)) (passages g'.name ms))
      (apart_named j k op g g' at there apart)

  out_other : (j k op time : ℕ) (g g' : ProtectedUnit) (name : Name) (values : List ℕ) (body : Path) (ms : List Moment)
      → slice_get y.objects k ≡ Some g → slice_get y.objects j ≡ Some g' → (j ≡ k → ⊥)
      → passages g'.name (did time name (names.Leave (entry_name p y k op) values) body ∷ ms) ≡ passages g'.name ms
  out_other j k op time g g' name values body ms at there apart =
      ap (λ b. cons_option (only_if b (Out name (entry_name p y k op).op values)) (passages g'.name ms)) (apart_named j k op g g' at there apart)

  -- a leave
  pub leave_back : (i : ℕ) (f : Task → Task) (t : Task) (ts : List Task) (stores : List Variables) (now k op : ℕ) (g : ProtectedUnit)
      (values : List ℕ) (data' : Variables) (cs : List Resource) (told : List Event)
      → slice_get ts i ≡ Some t → threads_of ts ≡ y.threads → (f t).thread ≡ t.thread → slice_get y.objects k ≡ Some g → data' ≡ kept g.vars t.vars
      → HasStores y stores → Alone ts
      → sections t ≡ Object k ∷ cs → sections (f t) ≡ cs
      → ((ss : List Step) → Stands p arrivals now (f t) (f t).pieces ss
      → Stands p arrivals now t t.pieces (step_at now (names.Leave (entry_name p y k op) values) (silent 0 t.vars) ∷ ss))
      → Conducts p arrivals now (change i f ts) (set stores k data') told
      → Conducts p arrivals now ts stores (By now t.thread.name (names.Leave (entry_name p y k op) values) ∷ told)
  leave_back i f t ts stores now k op g values data' cs told here same thread at is_kept has alone before behind stand c =
      let deed : Deed = names.Leave (entry_name p y k op) values in
      let way : Path = silent 0 t.vars in
      let m : Moment = did now t.thread.name deed way in
      let ms : List Moment = c.moments' in
      let own : steps_of t.thread.name (m ∷ ms) ≡ step_at now deed way ∷ steps_of t.thread.name ms = steps-own t.thread.name now deed way ms refl in
      let P : TaskUnit → Type 0 = λ th. Stands p arrivals now (f t) (f t).pieces (steps_of th.name ms) in
      let Q : List Step → Type 0 = λ ss. Stands p arrivals now t t.pieces ss in
      let other : (n : ℕ) (u : Task) → (n ≡ i → ⊥) → slice_get ts n ≡ Some u → steps_of u.thread.name (m ∷ ms) ≡ steps_of u.thread.name ms =
      λ n u apart there. steps-other t.thread.name u.thread.name now deed way ms (other_name p y w names' ts i n t u same here there apart) in
      let top : Holds k 0 (sections t) = (let H : List Resource → Type 0 = λ z. Holds k 0 z in subst H (sym before) refl) in
      let deeper : (j d : ℕ) → Holds j d (sections (f t)) → Holds j (suc d) (sections t) =
      λ j d h. (let H : List Resource → Type 0 = λ z. Holds j d z in let K : List Resource → Type 0 = λ z. Holds j (suc d) z
      in subst K (sym before) (subst H behind h)) in
      let mine : Serves w k g ts stores (m ∷ ms) = record {
        held = λ n u d there holds.
            let one : (n ≡ i) × (d ≡ 0) = alone k n i d 0 u t there here holds top in
            let is : t ≡ u = same_Some t u (sym here ∙ ap (slice_get ts) (sym one.0) ∙ there) in
            let none : (n' : ℕ) (u' : Task) (d' : ℕ) → slice_get (change i f ts) n' ≡ Some u' → Holds k d' (sections u')
            → ⊥ = λ n' u' d' there' holds'. places n' i
            (λ e. let now' : f t ≡ u' = same_Some (f t) u' (sym (change-at i f ts t here) ∙ ap (slice_get (change i f ts)) (sym e) ∙ there') in
            let H : Task → Type 0 = λ z. Holds k d' (sections z) in
            zero_suc d' (alone k i i (suc d') 0 t t here here (deeper k d' (subst H (sym now') holds')) top).1)
            (λ apart. apart (alone k n' i d' 0 u' t (sym (change-else i n' f ts apart) ∙ there') here holds' top).0) in
            let stored : unwrap_or (slice_get (set stores k data') k) [] ≡ kept g.vars t.vars =
            ap (λ o. unwrap_or o []) (set-here stores k (has k g at).0 data' (has k g at).1) ∙ is_kept in
            let A : Variables → Type 0 = λ v. AreOneByOne w (guarded_at g) v (passages g.name ms) in
            let out : GoesOut w g t.thread.name 0 (m ∷ ms) = record {
              op = entry_name p y k op;
              results = values;
              more = passages g.name ms;
              inner = [];
              leave = step_at now deed way;
              later = steps_of t.thread.name ms;
              next = out_here k op now g t.thread.name values way ms at;
              parts = own;
              within = refl;
              deed = refl;
              after = subst A stored ((c.objects k g at).free none);
            } in
            let R : Task → Type 0 = λ z. HeldUntil w g z.thread.name 0 (m ∷ ms) in
            let S : ℕ → Type 0 = λ e. HeldUntil w g u.thread.name e (m ∷ ms) in
            subst S (sym one.1) (subst R is (inr out));
        free = λ none. absurd (none i t 0 here top);
      } in
      record {
        moments' = m ∷ ms;
        tells = ap (λ es. By now t.thread.name deed ∷ es) c.tells;
        threads = threads_back p arrivals meets i f t ts now now ms (m ∷ ms) here (λ s. subst Q (sym own) (stand _ (subst P thread s)))
            (λ n u apart there s. let R : List Step → Type 0 = λ ss. Stands p arrivals now u u.pieces ss
            in subst R (sym (other n u apart there)) s) c.threads;
        objects = λ j g' there. places j k
            (λ e. let is : g ≡ g' = same_Some g g' (sym at ∙ ap (slice_get y.objects) (sym e) ∙ there) in
            let R : ProtectedUnit → Type 0 = λ z. Serves w k z ts stores (m ∷ ms) in
            let S : ℕ → Type 0 = λ n. Serves w n g' ts stores (m ∷ ms) in
            subst S (sym e) (subst R is mine))
            (λ apart.
            let pass : passages g'.name (m ∷ ms) ≡ passages g'.name ms = out_other j k op now g g' t.thread.name values way ms at there apart in
            serves_back p arrivals meets j g' i f t ts stores (set stores k data') ms (m ∷ ms) here thread pass
            (sym (ap (λ o. unwrap_or o []) (set-else k j data' stores apart)))
            (λ d h. let H : List Resource → Type 0 = λ z. Holds j d z in leaves j g' apart pass own d (subst H before h))
            (λ n u d far at' s. held_same p arrivals meets g' u.thread.name d ms (m ∷ ms) pass (other n u far at') s)
            (λ d h. (suc d, deeper j d h)) (c.objects j g' there));
      }
    where
      leaves : (j : ℕ) (g' : ProtectedUnit) → (j ≡ k → ⊥)
          → passages g'.name (did now t.thread.name (names.Leave (entry_name p y k op) values) (silent 0 t.vars) ∷ c.moments')
          ≡ passages g'.name c.moments'
          → steps_of t.thread.name (did now t.thread.name (names.Leave (entry_name p y k op) values) (silent 0 t.vars) ∷ c.moments')
          ≡ step_at now (names.Leave (entry_name p y k op) values) (silent 0 t.vars) ∷ steps_of t.thread.name c.moments'
          → (d : ℕ) → Holds j d (Object k ∷ cs)
          → (d' : ℕ) × Holds j d' (sections (f t)) × (HeldUntil w g' t.thread.name d' c.moments'
          → HeldUntil w g' t.thread.name d (did now t.thread.name (names.Leave (entry_name p y k op) values) (silent 0 t.vars) ∷ c.moments'))
      leaves j g' apart pass own zero h = absurd (apart (sym h))
      leaves j g' apart pass own (suc d) h =
          let H : List Resource → Type 0 = λ z. Holds j d z in
          let down : d ≡ suc d - 1 = omega arith in
          let K : ℕ → Type 0 = λ e. HeldUntil w g' t.thread.name e c.moments' in (
            d,
            subst H (sym behind) h,
            λ s. held_step p arrivals meets g' t.thread.name (suc d) (step_at now (names.Leave (entry_name p y k op) values)
                (silent 0 t.vars)) c.moments' _ pass own refl (subst K down s),
          )

  -- the way out that an entry has, is that of the object
  heads : (a b : Step) (us vs : List Step) → a ∷ us ≡ b ∷ vs → a ≡ b
  heads a b us vs e = cc

  same_leave : (ss inner inner' later later' : List Step) (leave leave' : Step) (name name' : OpName) (values values' : List ℕ)
      → ss ≡ inner ++ leave ∷ later → ss ≡ inner' ++ leave' ∷ later' → Within 0 0 inner → Within 0 0 inner' → leave.deed ≡ names.Leave name values
      → leave'.deed ≡ names.Leave name' values'
      → leave ≡ leave'
  same_leave ss inner inner' later later' leave leave' name name' values values' e e' within within' deed deed' =
      let one : before_leave 0 ss ≡ inner = ap (before_leave 0) e ∙ before-closed 0 inner leave later within
      (closes-leave leave.deed name values deed) in
      let two : before_leave 0 ss ≡ inner' = ap (before_leave 0) e' ∙ before-closed 0 inner' leave' later' within'
      (closes-leave leave'.deed name' values' deed') in
      heads leave leave' later later' (append_cancel_left inner' (leave ∷ later) (leave' ∷ later')
      (ap (λ i. i ++ leave ∷ later) (sym (sym one ∙ two)) ∙ sym e ∙ e'))

  -- the passages from an entry on
  entry_serves : (g : ProtectedUnit) (o : Operation) (name : Name) (nm : OpName) (data' : Variables) (values : List ℕ) (body : Path)
      (ms : List Moment) → IsOpOf (guarded_at g) nm.op o
      → Passes setup o data' values nm (steps_of name ms) body
      → HeldUntil w g name 0 ms
      → AreOneByOne w (guarded_at g) data' (Into name nm.op values (inside (steps_of name ms)) body ∷ passages g.name ms)
  entry_serves g o name nm data' values body ms is_op (inl q) (inl none) =
      let A : List Passage → Type 0 = λ ps. AreOneByOne w (guarded_at g) data' (Into name nm.op values (inside (steps_of name ms)) body ∷ ps) in
      subst A (sym none) (
        o,
        is_op,
        record {
          script = body.script;
          begins = ([], (body, q.run, sym (append-nil body.script)));
          shows = q.shows;
        },
      )
  entry_serves g o name nm data' values body ms is_op (inr z) (inl none) =
      let A : List Passage → Type 0 = λ ps. AreOneByOne w (guarded_at g) data' (Into name nm.op values (inside (steps_of name ms)) body ∷ ps) in
      subst A (sym none) (o, is_op, record { script = z.script; begins = z.begins; shows = z.shows })
  entry_serves g o name nm data' values body ms is_op (inl q) (inr out) =
      let A : List Passage → Type 0 = λ ps. AreOneByOne w (guarded_at g) data' (Into name nm.op values (inside (steps_of name ms)) body ∷ ps) in
      let one : q.leave ≡ out.leave =
      same_leave (steps_of name ms) q.inner out.inner q.later out.later q.leave out.leave nm out.op
      (reads (out_names o.sig.params) body.vars) out.results q.parts out.parts q.within out.within q.deed out.deed in
      let deeds : (nm ≡ out.op) × (reads (out_names o.sig.params) body.vars ≡ out.results) =
      leave_names nm out.op (reads (out_names o.sig.params) body.vars) out.results (sym q.deed ∙ ap (λ s. s.deed) one ∙ out.deed) in
      let left : out.leave.body.vars ≡ body.vars = sym (ap (λ s. s.body.vars) one) ∙ q.leaves in
      let B : Variables → Type 0 = λ v. AreOneByOne w (guarded_at g) (kept g.vars v) out.more in
      subst A (sym out.next) (
        same-self name,
        ap (λ n. same_name nm.op n.op) (sym deeds.0) ∙ same-self nm.op,
        record { operation = o; stands = is_op; runs = record { run = q.run; shows = q.shows }; gives = sym deeds.1 },
        subst B left out.after,
      )
  entry_serves g o name nm data' values body ms is_op (inr z) (inr out) =
      absurd (open-leave 0 z.depth out.inner out.later out.leave out.within (closes-leave out.leave.deed out.op out.results out.deed)
      (let W : List Step → Type 0 = λ ss. Within 0 z.depth ss in subst W out.parts z.within))

  -- an enter
  pub enter_back : (i : ℕ) (f : Task → Task) (t : Task) (x : Piece) (rest : List Piece) (ts : List Task) (stores : List Variables) (now k op : ℕ)
      (values : List ℕ) (told : List Event)
      → slice_get ts i ≡ Some t → threads_of ts ≡ y.threads → (f t).thread ≡ t.thread → Alone (change i f ts)
      → sections (f t) ≡ Object k ∷ sections t
      → ((ss : List Step) → Stands p arrivals now (f t) (f t).pieces ss
      → IsEntry p arrivals meets now t x rest (unwrap_or (slice_get stores k) []) k op values ss)
      → Conducts p arrivals now (change i f ts) (set stores k []) told
      → Conducts p arrivals now ts stores (By now t.thread.name (names.Enter (entry_name p y k op) values) ∷ told)
  enter_back i f t x rest ts stores now k op values told here same thread alone inside' stand c =
      let ms : List Moment = c.moments' in
      let P : TaskUnit → Type 0 = λ th. Stands p arrivals now (f t) (f t).pieces (steps_of th.name ms) in
      let e : IsEntry p arrivals meets now t x rest (unwrap_or (slice_get stores k) []) k op values (steps_of t.thread.name ms) =
      stand (steps_of t.thread.name ms) (subst P thread (c.threads i (f t) (change-at i f ts t here))) in
      let deed : Deed = names.Enter (entry_name p y k op) values in
      let m : Moment = did now t.thread.name deed e.body in
      let g : ProtectedUnit = e.guarded in
      let link : (slice_get y.objects k ≡ Some g) × IsOpOf (guarded_at g) (entry_name p y k op).op e.operation
      = names'.callees e.unit e.name k op g e.operation e.calls in
      let own : steps_of t.thread.name (m ∷ ms) ≡ step_at now deed e.body ∷ steps_of t.thread.name ms
      = steps-own t.thread.name now deed e.body ms refl in
      let Q : List Step → Type 0 = λ ss. Stands p arrivals now t t.pieces ss in
      let other : (n : ℕ) (u : Task) → (n ≡ i → ⊥) → slice_get ts n ≡ Some u → steps_of u.thread.name (m ∷ ms) ≡ steps_of u.thread.name ms =
      λ n u apart there. steps-other t.thread.name u.thread.name now deed e.body ms (other_name p y w names' ts i n t u same here there apart) in
      let top : Holds k 0 (sections (f t)) = (let H : List Resource → Type 0 = λ z. Holds k 0 z in subst H (sym inside') refl) in
      let deeper : (j d : ℕ) → Holds j d (sections t) → Holds j (suc d) (sections (f t)) =
      λ j d h. (let K : List Resource → Type 0 = λ z. Holds j (suc d) z in subst K (sym inside') h) in
      let now_here : slice_get (change i f ts) i ≡ Some (f t) = change-at i f ts t here in
      let none : (n : ℕ) (u : Task) (d : ℕ) → slice_get ts n ≡ Some u → Holds k d (sections u) → ⊥ = λ n u d there holds. places n i
      (λ is. let same_task : t ≡ u = same_Some t u (sym here ∙ ap (slice_get ts) (sym is) ∙ there) in
      let H : Task → Type 0 = λ z. Holds k d (sections z) in
      zero_suc d (alone k i i (suc d) 0 (f t) (f t) now_here now_here (deeper k d (subst H (sym same_task) holds)) top).1)
      (λ apart. apart (alone k n i d 0 u (f t) (change-else i n f ts apart ∙ there) now_here holds top).0) in
      let mine : Serves w k g ts stores (m ∷ ms) = record {
        held = λ n u d there holds. absurd (none n u d there holds);
        free = λ nobody.
            let R : TaskUnit → Type 0 = λ th. HeldUntil w g th.name 0 ms in
            let A : List Passage → Type 0 = λ ps. AreOneByOne w (guarded_at g) (unwrap_or (slice_get stores k) []) ps in
            subst A (sym (into_here k op now g t.thread.name values e.body ms link.0))
            (entry_serves g e.operation t.thread.name (entry_name p y k op) (unwrap_or (slice_get stores k) []) values e.body ms link.1 e.passes
            (subst R thread ((c.objects k g link.0).held i (f t) 0 now_here top)));
      } in
      record {
        moments' = m ∷ ms;
        tells = ap (λ es. By now t.thread.name deed ∷ es) c.tells;
        threads = threads_back p arrivals meets i f t ts now now ms (m ∷ ms) here (λ s. subst Q (sym own) e.stands)
            (λ n u apart there s. let R : List Step → Type 0 = λ ss. Stands p arrivals now u u.pieces ss
            in subst R (sym (other n u apart there)) s) c.threads;
        objects = λ j g' there. places j k
            (λ is. let one : g ≡ g' = same_Some g g' (sym link.0 ∙ ap (slice_get y.objects) (sym is) ∙ there) in
            let R : ProtectedUnit → Type 0 = λ z. Serves w k z ts stores (m ∷ ms) in
            let S : ℕ → Type 0 = λ n. Serves w n g' ts stores (m ∷ ms) in
            subst S (sym is) (subst R one mine))
            (λ apart.
            let pass : passages g'.name (m ∷ ms) ≡ passages g'.name ms
            = into_other j k op now g g' t.thread.name values e.body ms link.0 there apart in
            serves_back p arrivals meets j g' i f t ts stores (set stores k []) ms (m ∷ ms) here thread pass
            (sym (ap (λ o. unwrap_or o []) (set-else k j [] stores apart)))
            (λ d h. (
              suc d,
              deeper j d h,
              λ s. held_step p arrivals meets g' t.thread.name d (step_at now deed e.body) ms (m
                  ∷ ms) pass own (closes-enter d (entry_name p y k op) values) s,
            ))
            (λ n u d far at' s. held_same p arrivals meets g' u.thread.name d ms (m ∷ ms) pass (other n u far at') s)
            (λ d h. let H : List Resource → Type 0 = λ z. Holds j d z in back j apart d (subst H inside' h)) (c.objects j g' there));
      }
    where
      back : (j : ℕ) → (j ≡ k → ⊥) → (d : ℕ) → Holds j d (Object k ∷ sections t) → (d' : ℕ) × Holds j d' (sections t)
      back j apart zero h = absurd (apart (sym h))
      back j apart (suc d) h = (d, h)
