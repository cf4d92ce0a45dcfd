-- No section is entered while it is held: the ranks of calls keep a task from its own sections, and ceilings keep others from them.
use Rattle.std.specs.Prelude.{◌≡◌, ◌⊎◌, ◌≤◌, ◌<◌, ◌+◌, ℕ, zero, suc, Bool, true, false, List, [], ◌∷◌, map, drop, slice_get, Option, Some, None}
use Rattle.std.specs.Prelude.{option_map, ◌==◌, if◌then◌else◌, refl}
use Rattle.std.proofs.Common.{sym, ◌∙◌, ap, subst, arith, inl, inr, drop-drop}
use Rattle.std.proofs.lemmas.Option.{none-some, same_Some, slice_get-map}
use Rattle.seq_tree.specs.Names.{Name, same_name}
use Rattle.seq_tree.specs.Operations.{Operation}
use Rattle.seq_tree.specs.Lists.{first_where}
use Rattle.arrivals_tree.specs.declared.arrivals.Arrival.{Arrival}
use Rattle.machine.specs.Systems.{System, TaskUnit, ProtectedUnit, PassiveUnit, ReleasePattern, Periodic, Requested, CallTarget, Plain}
use Rattle.machine.specs.Systems.{Protected, Request, Unknown, op_named, plain_by, protected_by, request_if, request_by, object_or, library_or}
use Rattle.machine.specs.Systems.{callee}
use Rattle.machine.specs.States.{State, Task, Resource, Object, Control, opening, first_task}
use Rattle.machine.specs.Effects.{ceiling_of}
use Rattle.machine.specs.Releases.{Next}
use Rattle.machine.specs.Steps.{step}
use Rattle.machine.specs.Meanings.{run}
use Rattle.law_ceilings.proofs.Shared.Pieces.{Inside, entered_by, LeadsWithin}
use Rattle.law_ceilings.specs.Sections.{Stands, sections, IsAmong, IsFree, EntersFree}
use Rattle.law_ceilings.proofs.Shared.Kept.{IsRequested, IsKept, runner}
use Rattle.law_ceilings.proofs.Shared.Permissions.{IsBelow, Falls, AllFall}
use Rattle.law_ceilings.specs.Premises.{IsMadeWithin, IsMadeBelow, FallsTo, MayExclude}
use Rattle.law_ceilings.proofs.Shared.Excludes.{IsThere, AreHeld, Excludes}
use Rattle.law_ceilings.proofs.Shared.Fitting.{block-weaken, IsEntered}
use Rattle.law_ceilings.proofs.Shared.Arrivals.{step-arrivals}
use Rattle.law_ceilings.proofs.Shared.Moves.{stacked-base, stacked-ceiling, among-inside}
use Rattle.law_ceilings.proofs.Shared.Keeping.{AreWritten, opening-keeps, step-keeps}
use Rattle.law_ceilings.proofs.Shared.Passing.{Face, face, faces, into, out_of, IsEntering, Passing, Stays, Enters, Leaves, step-passing}
use Rattle.law_lists.proofs.Shared.Facts.{first-where}
use Rattle.law_lists.proofs.Shared.Places.{changed}

below-mono : (rank : ℕ → ℕ) (n m : ℕ) (ss : List Resource) → m ≤ n → IsBelow rank n ss → IsBelow rank m ss
below-mono rank n m [] less h = tt
below-mono rank n m (Object object ∷ ss) less h = ((let top : n < rank object = h.0 in omega arith), below-mono rank n m ss less h.1)
below-mono rank n m (Control task ∷ ss) less h = absurd h

-- a call is not made inside an object of at most its rank, nor inside a control structure
below-object : (rank : ℕ → ℕ) (n object : ℕ) (ss : List Resource) → rank object ≤ n → IsBelow rank n ss → IsAmong (Object object) ss → ⊥
below-object rank n object [] high h a = a
below-object rank n object (Object other ∷ ss) high h (inl is) =
    let same : other ≡ object = cc in
    let below : n < rank other = h.0 in
    let is' : rank other ≡ rank object = ap rank same in
    omega arith
below-object rank n object (Object other ∷ ss) high h (inr a) = below-object rank n object ss high h.1 a
below-object rank n object (Control task ∷ ss) high h a = h

below-control : (rank : ℕ → ℕ) (n task : ℕ) (ss : List Resource) → IsBelow rank n ss → IsAmong (Control task) ss → ⊥
below-control rank n task [] h a = a
below-control rank n task (Object other ∷ ss) h (inl is) = absurd (no is)
  where
    no : Object other ≡ Control task → ⊥
    no e = cc
below-control rank n task (Object other ∷ ss) h (inr a) = below-control rank n task ss h.1 a
below-control rank n task (Control other ∷ ss) h a = h

-- what a call of an object or of a task leads to is there
pub callee-object : (y : System) (unit op : Name) (object j : ℕ) (g : ProtectedUnit) (o : Operation) → callee y unit op ≡ Protected object j g o
    → slice_get y.objects object ≡ Some g
callee-object y unit op object j g o e =
    by (first_where (λ l. same_name l.name unit) y.libraries) (first_where (λ x. same_name x.name unit) y.objects) refl
    (first_where (λ t. same_name t.name unit) y.threads) e
  where
    plain : (x : Option (ℕ × Operation)) → plain_by x ≡ Protected object j g o → ⊥
    plain None e' = cc
    plain (Some x) e' = cc

    asked : (x : Option (ℕ × TaskUnit)) → request_by op x ≡ Protected object j g o → ⊥
    asked None e' = cc
    asked (Some t) e' = timed t.1.timing e'
      where
        timed : (x : ReleasePattern) → request_if op t.0 x ≡ Protected object j g o → ⊥
        timed (Periodic offset period) f = cc
        timed (Requested sig ceiling separation jitter external) f = chosen (same_name sig.name op) f
          where
            chosen : (b : Bool) → (if b then Request t.0 else Unknown) ≡ Protected object j g o → ⊥
            chosen true k = cc
            chosen false k = cc

    guarded : (x : ℕ × ProtectedUnit) → slice_get y.objects x.0 ≡ Some x.1 → (q : Option (ℕ × Operation)) → protected_by x q ≡ Protected object j g o
        → slice_get y.objects object ≡ Some g
    guarded x at None e' = absurd (no e')
      where
        no : Unknown ≡ Protected object j g o → ⊥
        no k = cc
    guarded x at (Some q) e' =
        let place : x.0 ≡ object = cc in
        let same : x.1 ≡ g = cc in
        subst (λ k. slice_get y.objects k ≡ Some g) place (at ∙ ap Some same)

    by : (l : Option (ℕ × PassiveUnit)) (x : Option (ℕ × ProtectedUnit)) → first_where (λ z. same_name z.name unit) y.objects ≡ x
        → (t : Option (ℕ × TaskUnit))
        → library_or op l (object_or op x (request_by op t)) ≡ Protected object j g o → slice_get y.objects object ≡ Some g
    by (Some l) x f t e' = absurd (plain (op_named op l.1.ops) e')
    by None None f t e' = absurd (asked t e')
    by None (Some x) f t e' = guarded x (first-where (λ z. same_name z.name unit) y.objects x.0 x.1 f).0 (op_named op x.1.ops) e'

pub callee-task : (y : System) (unit op : Name) (task : ℕ) → callee y unit op ≡ Request task
    → (t : TaskUnit) × (slice_get y.threads task ≡ Some t) × IsRequested t.timing
callee-task y unit op task e =
    by (first_where (λ l. same_name l.name unit) y.libraries) (first_where (λ x. same_name x.name unit) y.objects)
    (first_where (λ t. same_name t.name unit) y.threads) refl e
  where
    plain : (x : Option (ℕ × Operation)) → plain_by x ≡ Request task → ⊥
    plain None e' = cc
    plain (Some x) e' = cc

    guarded : (x : ℕ × ProtectedUnit) (q : Option (ℕ × Operation)) → protected_by x q ≡ Request task → ⊥
    guarded x None e' = cc
    guarded x (Some q) e' = cc

    timed : (t : ℕ × TaskUnit) → slice_get y.threads t.0 ≡ Some t.1 → (x : ReleasePattern) → t.1.timing ≡ x → request_if op t.0 x ≡ Request task
        → (u : TaskUnit) × (slice_get y.threads task ≡ Some u) × IsRequested u.timing
    timed t at (Periodic offset period) is f = absurd (no f)
      where
        no : Unknown ≡ Request task → ⊥
        no k = cc
    timed t at (Requested sig ceiling separation jitter external) is f = chosen (same_name sig.name op) f
      where
        chosen : (b : Bool) → (if b then Request t.0 else Unknown) ≡ Request task → (u : TaskUnit) × (slice_get y.threads task ≡ Some u)
            × IsRequested u.timing
        chosen true k =
            let place : t.0 ≡ task = cc in
            (t.1, subst (λ n. slice_get y.threads n ≡ Some t.1) place at, subst IsRequested (sym is) tt)
        chosen false k = absurd (no k)
          where
            no : Unknown ≡ Request task → ⊥
            no k' = cc

    by : (l : Option (ℕ × PassiveUnit)) (x : Option (ℕ × ProtectedUnit)) (t : Option (ℕ × TaskUnit))
        → first_where (λ z. same_name z.name unit) y.threads ≡ t
        → library_or op l (object_or op x (request_by op t)) ≡ Request task → (u : TaskUnit) × (slice_get y.threads task ≡ Some u)
        × IsRequested u.timing
    by (Some l) x t f e' = absurd (plain (op_named op l.1.ops) e')
    by None (Some x) t f e' = absurd (guarded x (op_named op x.1.ops) e')
    by None None None f e' = absurd (no e')
      where
        no : Unknown ≡ Request task → ⊥
        no k = cc
    by None None (Some t) f e' =
        let at = first-where (λ z. same_name z.name unit) y.threads t.0 t.1 f in timed t at.0 t.1.timing refl e'

-- tasks by their faces
pub face-at : (ts : List Task) (i : ℕ) (f : Face) → slice_get (faces ts) i ≡ Some f → (t : Task) × Stands ts i t × (face t ≡ f)
face-at ts i f e = by (slice_get ts i) refl (sym (slice_get-map face ts i) ∙ e)
  where
    by : (o : Option Task) → slice_get ts i ≡ o → option_map face o ≡ Some f → (t : Task) × Stands ts i t × (face t ≡ f)
    by None e' h = absurd (none-some f h)
    by (Some t) e' h = (t, e', same_Some (face t) f h)

pub at-face : (ts : List Task) (i : ℕ) (t : Task) → Stands ts i t → slice_get (faces ts) i ≡ Some (face t)
at-face ts i t e = slice_get-map face ts i ∙ ap (option_map face) e

module _ (y : System) (as' : List Arrival) (ex : MayExclude y as') where
  pub falls-text : AreWritten y (AllFall ex.ranking)
  falls-text = record {
    closed = λ i unit op ss may. by ss (ex.ranking.rank unit op) may.1 (callee y unit op) (ex.calls unit op may.0);
    tasks = λ i t at. block-weaken (λ unit op. ex.ranking.made unit op
        ≡ true) (Inside (Falls ex.ranking) []) (λ unit op made. (made, tt)) false t.block (ex.tasks i t at);
  }
    where
      by : (ss : List Resource) (n : ℕ) → IsBelow ex.ranking.object_rank n ss → (c : CallTarget) → FallsTo y as' ex.ranking n c
          → LeadsWithin (Falls ex.ranking) c ss
      by ss n below (Plain o) falls =
          block-weaken (IsMadeWithin ex.ranking n) (Inside (Falls ex.ranking) ss)
          (λ unit op h. (h.0, below-mono ex.ranking.object_rank n (ex.ranking.rank unit op) ss h.1 below)) false o.block falls
      by ss n below (Protected object j g o) falls =
          block-weaken (IsMadeBelow ex.ranking (ex.ranking.object_rank object)) (Inside (Falls ex.ranking) (Object object ∷ ss))
          (λ unit op h. (
            h.0,
            (
              h.1,
              below-mono ex.ranking.object_rank n (ex.ranking.rank unit op) ss
                  (let less : ex.ranking.rank unit op < ex.ranking.object_rank object = h.1 in let most : ex.ranking.object_rank object ≤ n = falls.0
                  in omega arith) below,
            ),
          )) false o.block falls.1
      by ss n below (Request task) falls = tt
      by ss n below Unknown falls = tt

  -- a section that is entered is there, and the task is not inside it
  pub falls-bars : (section : Resource) (ss : List Resource) → IsEntered y (Falls ex.ranking) section ss
      → (IsAmong section ss → ⊥) × IsThere y as' section
  falls-bars section ss e = by (callee y e.unit e.op) refl (ex.calls e.unit e.op e.may.0) e.enters
    where
      by : (c : CallTarget) → callee y e.unit e.op ≡ c → FallsTo y as' ex.ranking (ex.ranking.rank e.unit e.op) c → entered_by c ≡ Some section
          → (IsAmong section ss → ⊥) × IsThere y as' section
      by (Plain o) is falls enters = absurd (none-some section enters)
      by (Protected object j g o) is falls enters =
          subst (λ x. (IsAmong x ss → ⊥) × IsThere y as' x) (same_Some (Object object) section enters) (
            below-object ex.ranking.object_rank (ex.ranking.rank e.unit
                e.op) object ss falls.0 e.may.1,
            (g, callee-object y e.unit e.op object j g o is),
          )
      by (Request task) is falls enters =
          let there = callee-task y e.unit e.op task is in
          subst (λ x. (IsAmong x ss → ⊥) × IsThere y as' x) (same_Some (Control task) section enters)
          (below-control ex.ranking.object_rank (ex.ranking.rank e.unit e.op) task ss e.may.1, (there.0, there.1, there.2, falls))
      by Unknown is falls enters = absurd (none-some section enters)

  -- a section is free where a task enters it
  pub entry-free : (s : State) → Excludes y as' ex.ranking s → (i : ℕ) (t : Task) (section : Resource)
      → IsEntering y (AllFall ex.ranking) s i t section → IsFree s.tasks section
  entry-free s x i t section e (j, u, su, among) = by (j == i) refl
    where
      kept : IsKept y (AllFall ex.ranking) (Some i) s.tasks s.orders
      kept = subst (λ r. IsKept y (AllFall ex.ranking) r s.tasks s.orders) (ap (λ p. runner p s.ran) e.effects ∙ e.ran) x.keeps

      by : (b : Bool) → (j == i) ≡ b → ⊥
      by true is =
          let same : j ≡ i = grind arith in
          let t-is : u ≡ t = same_Some u t (sym su ∙ subst (λ k. Stands s.tasks k t) (sym same) e.stands) in
          (falls-bars section (sections t) e.entered).0 (subst (λ v. IsAmong section (sections v)) t-is among)
      by false is =
          let other : i ≡ j → ⊥ = λ h. grind arith in
          let inside = among-inside section u.inside among in
          let below : u.active < t.thread.priority = kept.runs i j t u inside.0 inside.1 refl e.stands su other inside.2 in
          let held : ceiling_of y section ≤ u.active
          = stacked-ceiling y u.thread.priority u.active u.inside section (kept.sound j u su).stacked among in
          let base : t.thread.priority ≤ t.active = stacked-base y t.thread.priority t.active t.inside (kept.sound i t e.stands).stacked in
          let low : t.active ≤ ceiling_of y section = e.low in
          omega arith

  -- the sections of each task after a step
  held-after : (s : State) (n : Next) → Excludes y as' ex.ranking s → Passing y (AllFall ex.ranking) s n
      → (i : ℕ) (t : Task) → Stands n.0.tasks i t → AreHeld y as' (sections t)
  held-after s n x (Stays same unheard) i t at =
      let found = face-at s.tasks i (face t) (ap (λ fs. slice_get fs i) (sym same) ∙ at-face n.0.tasks i t at) in
      subst (λ f. AreHeld y as' f.1) found.2 (x.held i found.0 found.1)
  held-after s n x (Enters k u section e changes tells) i t at =
      changed k i (into section) (faces s.tasks) (face t) (ap (λ fs. slice_get fs i) (sym changes) ∙ at-face n.0.tasks i t at)
      (λ f is there same.
      let mine : face u ≡ f = same_Some (face u) f (sym (at-face s.tasks k u e.stands) ∙ there) in
      let bars = falls-bars section (sections u) e.entered in
      let now : AreHeld y as' (section ∷ sections u) = (bars.0, bars.1, x.held k u e.stands) in
      subst (λ g. AreHeld y as' g.1) (ap (into section) mine ∙ sym same) now)
      (λ other there. let found = face-at s.tasks i (face t) there in subst (λ f. AreHeld y as' f.1) found.2 (x.held i found.0 found.1))
  held-after s n x (Leaves k u section l changes tells) i t at =
      changed k i out_of (faces s.tasks) (face t) (ap (λ fs. slice_get fs i) (sym changes) ∙ at-face n.0.tasks i t at)
      (λ f is there same.
      let found = face-at s.tasks k f there in
      let rest : AreHeld y as' (drop 1 f.1) = subst (λ g. AreHeld y as' (drop 1 g.1)) found.2 (fewer (sections found.0) (x.held k found.0 found.1)) in
      subst (λ g. AreHeld y as' g.1) (sym same) rest)
      (λ other there. let found = face-at s.tasks i (face t) there in subst (λ f. AreHeld y as' f.1) found.2 (x.held i found.0 found.1))
    where
      fewer : (ss : List Resource) → AreHeld y as' ss → AreHeld y as' (drop 1 ss)
      fewer [] h = tt
      fewer (z ∷ ss) h = h.2

  -- each step keeps it
  pub step-excludes : (s : State) → Excludes y as' ex.ranking s → Excludes y as' ex.ranking (step y s).0
  step-excludes s x =
      let moved = step-arrivals y s in
      record {
        keeps = step-keeps y (AllFall ex.ranking) falls-text s x.keeps;
        held = held-after s (step y s) x (step-passing y (AllFall ex.ranking) falls-text s x.keeps);
        past = x.past + moved.0;
        left = moved.1 ∙ ap (drop moved.0) x.left ∙ drop-drop moved.0 x.past as';
      }

  pub opening-excludes : Excludes y as' ex.ranking (opening y as')
  opening-excludes = record {
    keeps = opening-keeps y (AllFall ex.ranking) as';
    held = λ i t stands.
        let found = first-task-at i t stands in
        subst (λ u. AreHeld y as' (sections u)) (sym found.1) tt;
    past = 0;
    left = refl;
  }
    where
      first-task-at : (i : ℕ) (t : Task) → Stands (map first_task y.threads) i t → (th : TaskUnit) × (t ≡ first_task th)
      first-task-at i t stands = by (slice_get y.threads i) (sym (slice_get-map first_task y.threads i) ∙ stands)
        where
          by : (o : Option TaskUnit) → option_map first_task o ≡ Some t → (th : TaskUnit) × (t ≡ first_task th)
          by None f = absurd (none-some t f)
          by (Some th) f = (th, sym (same_Some (first_task th) t f))

  pub run-excludes : (n : ℕ) (s : State) → Excludes y as' ex.ranking s → Excludes y as' ex.ranking (run y n s).0
  run-excludes zero s x = x
  run-excludes (suc n) s x = run-excludes n (step y s).0 (step-excludes s x)

  -- a section that a task comes to be inside was free
  pub step-enters-free : (s : State) → Excludes y as' ex.ranking s → EntersFree s.tasks (step y s).0.tasks
  step-enters-free s x i t u section at after' out among = by (step-passing y (AllFall ex.ranking) falls-text s x.keeps)
    where
      same-face : (ts : List Task) (k : ℕ) (v w : Task) → Stands ts k v → slice_get (faces ts) k ≡ Some (face w) → face v ≡ face w
      same-face ts k v w at' is = same_Some (face v) (face w) (sym (at-face ts k v at') ∙ is)

      by : Passing y (AllFall ex.ranking) s (step y s) → IsFree s.tasks section
      by (Stays same unheard) =
          let is = same-face s.tasks i t u at (ap (λ fs. slice_get fs i) (sym same) ∙ at-face (step y s).0.tasks i u after') in
          absurd (out (subst (λ f. IsAmong section f.1) (sym is) among))
      by (Enters k v other e changes tells) =
          changed k i (into other) (faces s.tasks) (face u) (ap (λ fs. slice_get fs i) (sym changes) ∙ at-face (step y s).0.tasks i u after')
          (λ f is there same.
          let mine : face t ≡ f = same_Some (face t) f (sym (at-face s.tasks i t at) ∙ subst (λ n. slice_get (faces s.tasks) n
          ≡ Some f) (sym is) there) in
          new (subst (λ g. IsAmong section g.1) (same ∙ ap (into other) (sym mine)) among))
          (λ not there. absurd (out (subst (λ f. IsAmong section f.1) (sym (same-face s.tasks i t u at there)) among)))
        where
          new : (other ≡ section) ⊎ IsAmong section (sections t) → IsFree s.tasks section
          new (inl is) = subst (IsFree s.tasks) is (entry-free s x k v other e)
          new (inr old) = absurd (out old)
      by (Leaves k v other l changes tells) =
          changed k i out_of (faces s.tasks) (face u) (ap (λ fs. slice_get fs i) (sym changes) ∙ at-face (step y s).0.tasks i u after')
          (λ f is there same.
          let mine : face t ≡ f = same_Some (face t) f (sym (at-face s.tasks i t at) ∙ subst (λ n. slice_get (faces s.tasks) n
          ≡ Some f) (sym is) there) in
          absurd (out (more (sections t) (subst (λ g. IsAmong section g.1) (same ∙ ap out_of (sym mine)) among))))
          (λ not there. absurd (out (subst (λ f. IsAmong section f.1) (sym (same-face s.tasks i t u at there)) among)))
        where
          more : (ss : List Resource) → IsAmong section (drop 1 ss) → IsAmong section ss
          more [] a = a
          more (z ∷ ss) a = inr a
