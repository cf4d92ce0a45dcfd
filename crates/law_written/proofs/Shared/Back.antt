-- From behind a change of one task to before it: what is claimed of the other tasks and of the objects stays.
use Rattle.std.specs.Prelude.{◌≡◌, ℕ, Bool, true, false, ◌&&◌, ◌==◌, List, [], ◌∷◌, Option, Some, None, slice_get, option_map, unwrap_or, refl}
use Rattle.std.specs.Prelude.{if◌then◌else◌}
use Rattle.std.specs.List.{cons_option}
use Rattle.std.proofs.Common.{sym, ◌∙◌, ap, subst, inl, inr}
use Rattle.std.proofs.lemmas.Option.{slice_get-map, same_Some}
use Rattle.seq_tree.specs.Lists.{change}
use Rattle.seq_tree.specs.Names.{Name, same_name}
use Rattle.seq_tree.specs.Variables.{Variables}
use Rattle.seq_tree.specs.Runs.{Path, silent}
use Rattle.ada_tree.specs.Programs.{Program}
use Rattle.machine.specs.Systems.{System, TaskUnit, ProtectedUnit, system}
use Rattle.machine.specs.States.{Task}
use Rattle.guarantee.specs.Software.{Software, program_software}
use Rattle.guarantee.specs.Events.{Deed, Event, By}
use Rattle.guarantee.specs.Events as names
use Rattle.guarantee.specs.Steps.{Moment, Step, steps_of, is_own, closes, depth_after}
use Rattle.guarantee.specs.Passages.{Passage, passages, AreOneByOne}
use Rattle.law_written.proofs.Shared.Moves.{threads_of}
use Rattle.law_written.proofs.Shared.Claims.{Naming, did, step_at, Stands, Threads, Holds, HeldUntil, Serves, Conducts, guarded_at}
use Rattle.std.proofs.lemmas.Bool.{false_from_ne_true, eqb-true, eqb-false}
use Rattle.law_lists.proofs.Shared.Facts.{same-self}
use Rattle.law_lists.proofs.Shared.Places.{change-at, change-else}
use Rattle.arrivals_tree.specs.Arriving.{Arrivals}
use Rattle.ada_tree.specs.Rules.{MeetsRules}
use Rattle.law_written.proofs.Shared.Namings.{naming}
use Rattle.law_ceilings.specs.Sections.{sections}

-- a place is another one or not
pub places : {P : Type 0} (k i : ℕ) → (k ≡ i → P) → ((k ≡ i → ⊥) → P) → P
places {P} k i same apart = by (k == i) refl
  where
    by : (b : Bool) → (k == i) ≡ b → P
    by true e = same (eqb-true k i e)
    by false e = apart (eqb-false k i e)

pub thread_at : (ths : List TaskUnit) (ts : List Task) (k : ℕ) (t : Task) → threads_of ts ≡ ths → slice_get ts k ≡ Some t
    → slice_get ths k ≡ Some t.thread
thread_at ths ts k t same at = ap (λ hs. slice_get hs k) (sym same) ∙ slice_get-map (λ u. u.thread) ts k ∙ ap (option_map (λ u. u.thread)) at

pub other_name : (p : Program) (y : System) (w : Software) → Naming p y w → (ts : List Task) (i k : ℕ) (t u : Task) → threads_of ts ≡ y.threads
    → slice_get ts i ≡ Some t → slice_get ts k ≡ Some u → (k ≡ i → ⊥) → same_name t.thread.name u.thread.name ≡ false
other_name p y w names' ts i k t u same at there apart =
    false_from_ne_true _ (λ e. apart
    (sym (names'.threads_apart i k t.thread u.thread (thread_at y.threads ts i t same at) (thread_at y.threads ts k u same there) e)))

-- the steps of a thread, with a moment before
pub steps-own : (name : Name) (time : ℕ) (deed : Deed) (body : Path) (ms : List Moment) → is_own deed ≡ true
    → steps_of name (did time name deed body ∷ ms) ≡ step_at time deed body ∷ steps_of name ms
steps-own name time deed body ms own =
    ap (λ b. cons_option (if b && is_own deed then Some (step_at time deed body) else None) (steps_of name ms)) (same-self name)
    ∙ ap (λ b. cons_option (if b then Some (step_at time deed body) else None) (steps_of name ms)) own

pub steps-other : (n name : Name) (time : ℕ) (deed : Deed) (body : Path) (ms : List Moment) → same_name n name ≡ false
    → steps_of name (did time n deed body ∷ ms) ≡ steps_of name ms
steps-other n name time deed body ms apart =
    ap (λ b. cons_option (if b && is_own deed then Some (step_at time deed body) else None) (steps_of name ms)) apart

pub steps-not_own : (n name : Name) (time : ℕ) (deed : Deed) (body : Path) (ms : List Moment) → is_own deed ≡ false
    → steps_of name (did time n deed body ∷ ms) ≡ steps_of name ms
steps-not_own n name time deed body ms other =
    ap (λ b. cons_option (if same_name n name && b then Some (step_at time deed body) else None) (steps_of name ms)) other ∙ by (same_name n name)
  where
    by : (b : Bool) → cons_option (if b && false then Some (step_at time deed body) else None) (steps_of name ms) ≡ steps_of name ms
    by true = refl
    by false = refl

-- a deed that is no passage
pub record IsPlain (deed : Deed) : Type 0 where
  pub own : is_own deed ≡ true
  pub stays : (d : ℕ) → closes d deed ≡ false
  pub level : (d : ℕ) → depth_after d deed ≡ d
  pub passes : (g : Name) (time : ℕ) (name : Name) (body : Path) (ms : List Moment) → passages g (did time name deed body ∷ ms) ≡ passages g ms

module _ (p : Program) (arrivals : Arrivals) (meets : MeetsRules p) where
  abbrev y : System
  y = system p arrivals

  abbrev w : Software
  w = program_software p

  names' : Naming p y w
  names' = naming p arrivals meets

  -- the tasks
  pub threads_back : (i : ℕ) (f : Task → Task) (t : Task) (ts : List Task) (now now' : ℕ) (ms ms' : List Moment) → slice_get ts i ≡ Some t
      → (Stands p arrivals now' (f t) (f t).pieces (steps_of (f t).thread.name ms) → Stands p arrivals now t t.pieces (steps_of t.thread.name ms'))
      → ((k : ℕ) (u : Task) → (k ≡ i → ⊥) → slice_get ts k ≡ Some u → Stands p arrivals now' u u.pieces (steps_of u.thread.name ms)
      → Stands p arrivals now u u.pieces (steps_of u.thread.name ms'))
      → Threads p arrivals now' (change i f ts) ms → Threads p arrivals now ts ms'
  threads_back i f t ts now now' ms ms' here own others all k u at = places k i
      (λ e. let same : t ≡ u = same_Some t u (sym here ∙ ap (slice_get ts) (sym e) ∙ at) in
      let P : Task → Type 0 = λ z. Stands p arrivals now z z.pieces (steps_of z.thread.name ms') in
      subst P same (own (all i (f t) (change-at i f ts t here))))
      (λ apart. others k u apart at (all k u (change-else i k f ts apart ∙ at)))

  -- an object
  pub serves_back : (j : ℕ) (g : ProtectedUnit) (i : ℕ) (f : Task → Task) (t : Task) (ts : List Task) (stores stores' : List Variables)
      (ms ms' : List Moment) → slice_get ts i ≡ Some t
      → (f t).thread ≡ t.thread → passages g.name ms' ≡ passages g.name ms → unwrap_or (slice_get stores j) [] ≡ unwrap_or (slice_get stores' j) []
      → ((d : ℕ) → Holds j d (sections t) → (d' : ℕ) × Holds j d' (sections (f t))
      × (HeldUntil w g t.thread.name d' ms → HeldUntil w g t.thread.name d ms'))
      → ((k : ℕ) (u : Task) (d : ℕ) → (k ≡ i → ⊥) → slice_get ts k ≡ Some u → HeldUntil w g u.thread.name d ms → HeldUntil w g u.thread.name d ms')
      → ((d' : ℕ) → Holds j d' (sections (f t)) → (d : ℕ) × Holds j d (sections t))
      → Serves w j g (change i f ts) stores' ms → Serves w j g ts stores ms'
  serves_back j g i f t ts stores stores' ms ms' here thread pass store own others back s = record {
    held = λ k u d at holds. places k i
        (λ e. let same : t ≡ u = same_Some t u (sym here ∙ ap (slice_get ts) (sym e) ∙ at) in
        let P : Task → Type 0 = λ z. HeldUntil w g z.thread.name d ms' in
        let Q : Task → Type 0 = λ z. Holds j d (sections z) in
        let R : TaskUnit → Type 0 = λ th. HeldUntil w g th.name (own d (subst Q (sym same) holds)).0 ms in
        let o : (d' : ℕ) × Holds j d' (sections (f t)) × (HeldUntil w g t.thread.name d' ms → HeldUntil w g t.thread.name d ms')
        = own d (subst Q (sym same) holds) in
        subst P same (o.2 (subst R thread (s.held i (f t) o.0 (change-at i f ts t here) o.1))))
        (λ apart. others k u d apart at (s.held k u d (change-else i k f ts apart ∙ at) holds));
    free = λ none.
        let more : AreOneByOne w (guarded_at g) (unwrap_or (slice_get stores' j) []) (passages g.name ms) = s.free (λ k u d at holds. places k i
        (λ e. let same : f t ≡ u = same_Some (f t) u (sym (change-at i f ts t here) ∙ ap (slice_get (change i f ts)) (sym e) ∙ at) in
        let Q : Task → Type 0 = λ z. Holds j d (sections z) in
        let b : (d' : ℕ) × Holds j d' (sections t) = back d (subst Q (sym same) holds) in
        none i t b.0 here b.1)
        (λ apart. none k u d (sym (change-else i k f ts apart) ∙ at) holds)) in
        let A : Variables → Type 0 = λ data'. AreOneByOne w (guarded_at g) data' (passages g.name ms') in
        let B : List Passage → Type 0 = λ ps. AreOneByOne w (guarded_at g) (unwrap_or (slice_get stores' j) []) ps in
        subst A (sym store) (subst B (sym pass) more);
  }

  -- the way out of an object, from later on
  pub held_same : (g : ProtectedUnit) (name : Name) (d : ℕ) (ms ms' : List Moment) → passages g.name ms' ≡ passages g.name ms
      → steps_of name ms' ≡ steps_of name ms
      → HeldUntil w g name d ms → HeldUntil w g name d ms'
  held_same g name d ms ms' pass steps (inl none) = inl (pass ∙ none)
  held_same g name d ms ms' pass steps (inr out) = inr (record {
    op = out.op;
    results = out.results;
    more = out.more;
    inner = out.inner;
    leave = out.leave;
    later = out.later;
    next = pass ∙ out.next;
    parts = steps ∙ out.parts;
    within = out.within;
    deed = out.deed;
    after = out.after;
  })

  pub held_step : (g : ProtectedUnit) (name : Name) (d : ℕ) (s : Step) (ms ms' : List Moment) → passages g.name ms' ≡ passages g.name ms
      → steps_of name ms' ≡ s ∷ steps_of name ms
      → closes d s.deed ≡ false → HeldUntil w g name (depth_after d s.deed) ms → HeldUntil w g name d ms'
  held_step g name d s ms ms' pass steps inside (inl none) = inl (pass ∙ none)
  held_step g name d s ms ms' pass steps inside (inr out) = inr (record {
    op = out.op;
    results = out.results;
    more = out.more;
    inner = s ∷ out.inner;
    leave = out.leave;
    later = out.later;
    next = pass ∙ out.next;
    parts = steps ∙ ap (λ ss. s ∷ ss) out.parts;
    within = (inside, out.within);
    deed = out.deed;
    after = out.after;
  })

  -- a change of one task that nothing is told of
  pub quiet_back : (i : ℕ) (f : Task → Task) (t : Task) (ts : List Task) (stores : List Variables) (now : ℕ) (told : List Event)
      → slice_get ts i ≡ Some t
      → (f t).thread ≡ t.thread
      → ((ss : List Step) → Stands p arrivals now (f t) (f t).pieces ss → Stands p arrivals now t t.pieces ss)
      → ((j d : ℕ) → Holds j d (sections t) → Holds j d (sections (f t)))
      → ((j d : ℕ) → Holds j d (sections (f t)) → Holds j d (sections t))
      → Conducts p arrivals now (change i f ts) stores told → Conducts p arrivals now ts stores told
  quiet_back i f t ts stores now told here thread stand forth back c =
      let P : TaskUnit → Type 0 = λ th. Stands p arrivals now (f t) (f t).pieces (steps_of th.name c.moments') in
      record {
        moments' = c.moments';
        tells = c.tells;
        threads = threads_back i f t ts now now c.moments' c.moments' here (λ s. stand _ (subst P thread s)) (λ k u apart at s. s) c.threads;
        objects = λ j g at. serves_back j g i f t ts stores stores c.moments' c.moments' here thread refl refl
            (λ d h. (d, forth j d h, λ s. s)) (λ k u d apart there s. s) (λ d h. (d, back j d h)) (c.objects j g at);
      }

  -- a change of one task that a plain deed is told of
  pub own_back : (i : ℕ) (f : Task → Task) (t : Task) (ts : List Task) (stores : List Variables) (now time : ℕ) (deed : Deed) (told : List Event)
      → slice_get ts i ≡ Some t → threads_of ts ≡ y.threads → (f t).thread ≡ t.thread → IsPlain deed
      → ((ss : List Step) → Stands p arrivals now (f t) (f t).pieces ss → Stands p arrivals now t t.pieces (step_at time deed (silent 0 []) ∷ ss))
      → ((j d : ℕ) → Holds j d (sections t) → Holds j d (sections (f t)))
      → ((j d : ℕ) → Holds j d (sections (f t)) → Holds j d (sections t))
      → Conducts p arrivals now (change i f ts) stores told → Conducts p arrivals now ts stores (By time t.thread.name deed ∷ told)
  own_back i f t ts stores now time deed told here same thread plain stand forth back c =
      let m : Moment = did time t.thread.name deed (silent 0 []) in
      let ms : List Moment = c.moments' in
      let own : steps_of t.thread.name (m ∷ ms) ≡ step_at time deed (silent 0 []) ∷ steps_of t.thread.name ms
      = steps-own t.thread.name time deed (silent 0 []) ms plain.own in
      let P : TaskUnit → Type 0 = λ th. Stands p arrivals now (f t) (f t).pieces (steps_of th.name ms) in
      let Q : List Step → Type 0 = λ ss. Stands p arrivals now t t.pieces ss in
      let other : (k : ℕ) (u : Task) → (k ≡ i → ⊥) → slice_get ts k ≡ Some u → steps_of u.thread.name (m ∷ ms) ≡ steps_of u.thread.name ms =
      λ k u apart at. steps-other t.thread.name u.thread.name time deed (silent 0 []) ms (other_name p y w names' ts i k t u same here at apart) in
      record {
        moments' = m ∷ ms;
        tells = ap (λ es. By time t.thread.name deed ∷ es) c.tells;
        threads = threads_back i f t ts now now ms (m ∷ ms) here (λ s. subst Q (sym own) (stand _ (subst P thread s)))
            (λ k u apart at s. let R : List Step → Type 0 = λ ss. Stands p arrivals now u u.pieces ss
            in subst R (sym (other k u apart at)) s) c.threads;
        objects = λ j g at. serves_back j g i f t ts stores stores ms (m ∷ ms) here thread
            (plain.passes g.name time t.thread.name (silent 0 []) ms) refl
            (λ d h. (
              d,
              forth j d h,
              λ s.
                  let H : ℕ → Type 0 = λ e. HeldUntil w g t.thread.name e ms in
                  held_step g t.thread.name d (step_at time deed (silent 0 [])) ms (m
                  ∷ ms) (plain.passes g.name time t.thread.name (silent 0 []) ms) own (plain.stays d) (subst H (sym (plain.level d)) s),
            ))
            (λ k u d apart there s. held_same g u.thread.name d ms (m ∷ ms) (plain.passes g.name time t.thread.name (silent 0 []) ms)
            (other k u apart there) s)
            (λ d h. (d, back j d h)) (c.objects j g at);
      }

  -- an arrival, which is no thread's own
  pub arrive_back : (ts : List Task) (stores : List Variables) (now time : ℕ) (name : Name) (value : Option ℕ) (told : List Event)
      → Conducts p arrivals now ts stores told → Conducts p arrivals now ts stores (By time name (names.Arrive value) ∷ told)
  arrive_back ts stores now time name value told c =
      let m : Moment = did time name (names.Arrive value) (silent 0 []) in
      let ms : List Moment = c.moments' in
      let steps : (n : Name) → steps_of n (m ∷ ms) ≡ steps_of n ms = λ n. steps-not_own name n time (names.Arrive value) (silent 0 []) ms refl in
      record {
        moments' = m ∷ ms;
        tells = ap (λ es. By time name (names.Arrive value) ∷ es) c.tells;
        threads = λ k t at. let R : List Step → Type 0 = λ ss. Stands p arrivals now t t.pieces ss
            in subst R (sym (steps t.thread.name)) (c.threads k t at);
        objects = λ j g at. record {
          held = λ k t d there h. held_same g t.thread.name d ms (m ∷ ms) refl (steps t.thread.name) ((c.objects j g at).held k t d there h);
          free = λ none. (c.objects j g at).free none;
        };
      }
