-- What a call does, by what it leads to.
use Rattle.std.proofs.Common.{◌≡◌, ℕ, zero, suc, ◌+◌, ◌<◌, length, Bool, true, false, List, [], ◌∷◌, ◌++◌, ap, refl, sym, ◌∙◌, add-zero}
use Rattle.std.proofs.Common.{arith, Option, Some, None}
use Rattle.std.specs.Prelude.{slice_get, if◌then◌else◌}
use Rattle.std.proofs.lemmas.Option.{same_Some}
use Rattle.seq_tree.specs.Names.{Name, same_name}
use Rattle.seq_tree.specs.Lists.{first_from, first_where}
use Rattle.seq_tree.specs.Expressions.{Expression}
use Rattle.seq_tree.specs.Operations.{Operation, out_names}
use Rattle.seq_tree.specs.Runs.{request_value}
use Rattle.seq_tree.specs.Values.{handed}
use Rattle.seq_tree.specs.Variables.{Variables, opened, targets}
use Rattle.seq_tree.specs.declared.tree.OpName.{OpName}
use Rattle.machine.specs.Systems.{System, PassiveUnit, ProtectedUnit, TaskUnit, ReleasePattern, Periodic, Requested as Sporadic, CallTarget}
use Rattle.machine.specs.Systems.{Plain, Protected, Request, Unknown, callee, library_or, object_or, op_named, plain_by, protected_by}
use Rattle.machine.specs.Systems.{request_by, request_if}
use Rattle.machine.specs.Pieces.{Piece, Calling, Returning, Closing, Keeping, Opening, Requested, pieces}
use Rattle.machine.specs.Deeds as deeds
use Rattle.machine.specs.Deeds.{called, deed}
use Rattle.task_runtime.specs.Callable.{target_in}
use Rattle.task_runtime.specs.Doing.{Does}

module _ (z : System) (object name : Name) (actuals : List Expression) (vs : Variables) (rest : List Piece) where
  pub does-plain : (o : Operation) (now : Variables) (ps : List Piece) → callee z object name ≡ Plain o
      → now ≡ opened o (handed o.sig.params actuals vs)
      → ps ≡ pieces o.block (Returning (out_names o.sig.params) (targets o.sig.params actuals) vs ∷ rest)
      → Does z (Calling object name actuals) vs rest deeds.Silent now ps
  does-plain o now ps is vars left y alike =
      ap (λ k. called k actuals vs rest) (alike object name ∙ is) ∙ ap
      (λ v. deed deeds.Silent v (pieces o.block (Returning (out_names o.sig.params) (targets o.sig.params actuals) vs ∷ rest))) (sym vars)
      ∙ ap (λ qs. deed deeds.Silent now qs) (sym left)

  pub does-request : (task : ℕ) (now : Variables) (ps : List Piece) → callee z object name ≡ Request task → now ≡ vs
      → ps ≡ Keeping task (request_value actuals vs) ∷ Opening task ∷ Requested task (request_value actuals vs) ∷ rest
      → Does z (Calling object name actuals) vs rest (deeds.Ask task) now ps
  does-request task now ps is vars left y alike =
      ap (λ k. called k actuals vs rest) (alike object name ∙ is) ∙ ap
      (λ v. deed (deeds.Ask task) v (Keeping task (request_value actuals vs) ∷ Opening task ∷ Requested task (request_value actuals vs)
      ∷ rest)) (sym vars)
      ∙ ap (λ qs. deed (deeds.Ask task) now qs) (sym left)

  -- the data of an object that is entered stand behind the variables of the body
  pub does-enter : (at op : ℕ) (g : ProtectedUnit) (o : Operation) (values : List ℕ) (lent now : Variables) (ps : List Piece)
      → callee z object name ≡ Protected at op g o
      → values ≡ handed o.sig.params actuals vs → now ≡ opened o (handed o.sig.params actuals vs) ++ lent
      → ps ≡ pieces o.block (Closing at op g.vars (out_names o.sig.params) (targets o.sig.params actuals) vs ∷ rest)
      → (vars : Variables) × Does z (Calling object name actuals) vs rest (deeds.Enter at op values) vars ps × (now ≡ vars ++ lent)
  does-enter at op g o values lent now ps is handed-in vars left = (
    opened o (handed o.sig.params actuals vs),
    (λ y alike. ap (λ k. called k actuals vs rest) (alike object name ∙ is)
        ∙ ap (λ ws. deed (deeds.Enter at op ws) (opened o (handed o.sig.params actuals vs))
        (pieces o.block (Closing at op g.vars (out_names o.sig.params) (targets o.sig.params actuals) vs ∷ rest))) (sym handed-in)
        ∙ ap (λ qs. deed (deeds.Enter at op values) (opened o (handed o.sig.params actuals vs)) qs) (sym left)),
    vars,
  )

-- an object that is found stands at its place
first-at : {A : Type 0} (n : ℕ) (test : A → Bool) (xs : List A) (x : ℕ × A) → first_from n test xs ≡ Some x
    → (i : ℕ) × (x.0 ≡ n + i) × (slice_get xs i ≡ Some x.1)
first-at n test [] x e = absurd (cc)
first-at {A} n test (y ∷ ys) x e = by_test (test y) refl (first-at (suc n) test ys x) e where
  by_test : (b : Bool) → test y ≡ b → (first_from (suc n) test ys ≡ Some x → (i : ℕ) × (x.0 ≡ suc n + i) × (slice_get ys i ≡ Some x.1))
      → first_from n test (y ∷ ys) ≡ Some x → (i : ℕ) × (x.0 ≡ n + i) × (slice_get (y ∷ ys) i ≡ Some x.1)
  by_test true t rest k =
      let k' : Some (n, y) ≡ Some x = rw t at k in
      let same : (n, y) ≡ x = same_Some (n, y) x k' in
      (0, sym (ap (λ (z : ℕ × A). z.0) same) ∙ sym (add-zero n), ap (λ (z : ℕ × A). Some z.1) same)
  by_test false t rest k =
      let k' : first_from (suc n) test ys ≡ Some x = rw t at k in
      let more = rest k' in (suc more.0, more.1 ∙ omega arith, more.2)

abbrev place_in : CallTarget → ℕ
place_in (Protected at op g o) = at
place_in _ = 0

abbrev object_in : CallTarget → Option ProtectedUnit
object_in (Protected at op g o) = Some g
object_in _ = None

-- the object that a call enters stands at its place
pub protected-at : (y : System) (c : OpName) (at op : ℕ) (g : ProtectedUnit) (o : Operation) → target_in y c ≡ Protected at op g o
    → slice_get y.objects at ≡ Some g
protected-at y c at op g o is =
    by_unit (first_where (λ l. same_name l.name c.object) y.libraries) (first_where (λ h. same_name h.name c.object) y.objects) refl is
  where
    no : (k : CallTarget) → k ≡ Protected at op g o → object_in k ≡ None → ⊥
    no k e none = absurd (cc (ap object_in e, none))

    by_plain : (x : Option (ℕ × Operation)) → plain_by x ≡ Protected at op g o → slice_get y.objects at ≡ Some g
    by_plain None e = absurd (no Unknown e refl)
    by_plain (Some x) e = absurd (no (Plain x.1) e refl)

    by_protected : (h : ℕ × ProtectedUnit) → first_where (λ h. same_name h.name c.object) y.objects ≡ Some h → (x : Option (ℕ × Operation))
        → protected_by h x ≡ Protected at op g o → slice_get y.objects at ≡ Some g
    by_protected h found None e = absurd (no Unknown e refl)
    by_protected h found (Some x) e =
        let here = first-at 0 (λ h. same_name h.name c.object) y.objects h found in
        let place : h.0 ≡ at = ap place_in e in
        let index : here.0 ≡ at = omega (arith, here.1, place) in
        ap (slice_get y.objects) (sym index) ∙ here.2 ∙ ap object_in e

    by_request : (t : Option (ℕ × TaskUnit)) → request_by c.op t ≡ Protected at op g o → slice_get y.objects at ≡ Some g
    by_request None e = absurd (no Unknown e refl)
    by_request (Some t) e = by_timing t.1.timing e where
      by_test : (b : Bool) → (if b then Request t.0 else Unknown) ≡ Protected at op g o → slice_get y.objects at ≡ Some g
      by_test true k = absurd (no (Request t.0) k refl)
      by_test false k = absurd (no Unknown k refl)

      by_timing : (w : ReleasePattern) → request_if c.op t.0 w ≡ Protected at op g o → slice_get y.objects at ≡ Some g
      by_timing (Periodic offset period) k = absurd (no Unknown k refl)
      by_timing (Sporadic sig ceiling separation jitter external) k = by_test (same_name sig.name c.op) k

    by_unit : (l : Option (ℕ × PassiveUnit)) (h : Option (ℕ × ProtectedUnit)) → first_where (λ h. same_name h.name c.object) y.objects ≡ h
        → library_or c.op l (object_or c.op h (request_by c.op (first_where (λ t. same_name t.name c.object) y.threads))) ≡ Protected at op g o
        → slice_get y.objects at ≡ Some g
    by_unit (Some l) h found e = by_plain (op_named c.op l.1.ops) e
    by_unit None (Some h) found e = by_protected h found (op_named c.op h.1.ops) e
    by_unit None None found e = by_request (first_where (λ t. same_name t.name c.object) y.threads) e

-- and so does the operation among its operations
abbrev op_place : CallTarget → ℕ
op_place (Protected at op g o) = op
op_place _ = 0

place_below : {A : Type 0} (xs : List A) (i : ℕ) (x : A) → slice_get xs i ≡ Some x → i < length xs
place_below [] i x at = absurd (cc)
place_below (y ∷ ys) zero x at = omega arith
place_below (y ∷ ys) (suc i) x at = let more = place_below ys i x at in omega (arith, more)

pub op-below : (y : System) (c : OpName) (at op : ℕ) (g : ProtectedUnit) (o : Operation) → target_in y c ≡ Protected at op g o → op < length g.ops
op-below y c at op g o is =
    by_unit (first_where (λ l. same_name l.name c.object) y.libraries) (first_where (λ h. same_name h.name c.object) y.objects) is
  where
    no : (k : CallTarget) → k ≡ Protected at op g o → object_in k ≡ None → ⊥
    no k e none = absurd (cc (ap object_in e, none))

    by_plain : (x : Option (ℕ × Operation)) → plain_by x ≡ Protected at op g o → op < length g.ops
    by_plain None e = absurd (no Unknown e refl)
    by_plain (Some x) e = absurd (no (Plain x.1) e refl)

    by_protected : (h : ℕ × ProtectedUnit) (x : Option (ℕ × Operation)) → op_named c.op h.1.ops ≡ x → protected_by h x ≡ Protected at op g o
        → op < length g.ops
    by_protected h None found e = absurd (no Unknown e refl)
    by_protected h (Some x) found e =
        let here = first-at 0 (λ q. same_name q.sig.name c.op) h.1.ops x found in
        let place : x.0 ≡ op = ap op_place e in
        let same : h.1 ≡ g = same_Some h.1 g (ap object_in e) in
        let below = place_below h.1.ops here.0 x.1 here.2 in
        let long = ap (λ u. length u.ops) same in
        omega (arith, below, here.1, place, long)

    by_request : (t : Option (ℕ × TaskUnit)) → request_by c.op t ≡ Protected at op g o → op < length g.ops
    by_request None e = absurd (no Unknown e refl)
    by_request (Some t) e = by_timing t.1.timing e where
      by_test : (b : Bool) → (if b then Request t.0 else Unknown) ≡ Protected at op g o → op < length g.ops
      by_test true k = absurd (no (Request t.0) k refl)
      by_test false k = absurd (no Unknown k refl)

      by_timing : (w : ReleasePattern) → request_if c.op t.0 w ≡ Protected at op g o → op < length g.ops
      by_timing (Periodic offset period) k = absurd (no Unknown k refl)
      by_timing (Sporadic sig ceiling separation jitter external) k = by_test (same_name sig.name c.op) k

    by_unit : (l : Option (ℕ × PassiveUnit)) (h : Option (ℕ × ProtectedUnit))
        → library_or c.op l (object_or c.op h (request_by c.op (first_where (λ t. same_name t.name c.object) y.threads))) ≡ Protected at op g o
        → op < length g.ops
    by_unit (Some l) h e = by_plain (op_named c.op l.1.ops) e
    by_unit None (Some h) e = by_protected h (op_named c.op h.1.ops) refl e
    by_unit None None e = by_request (first_where (λ t. same_name t.name c.object) y.threads) e

-- the task that a call requests is one of the tasks
abbrev task_in : CallTarget → Option ℕ
task_in (Request task) = Some task
task_in _ = None

pub request-at : (y : System) (c : OpName) (task : ℕ) → target_in y c ≡ Request task → task < length y.threads
request-at y c task is =
    by_unit (first_where (λ l. same_name l.name c.object) y.libraries) (first_where (λ h. same_name h.name c.object) y.objects)
    (first_where (λ t. same_name t.name c.object) y.threads) refl is
  where
    no : (k : CallTarget) → k ≡ Request task → task_in k ≡ None → ⊥
    no k e none = absurd (cc (ap task_in e, none))

    by_plain : (x : Option (ℕ × Operation)) → plain_by x ≡ Request task → task < length y.threads
    by_plain None e = absurd (no Unknown e refl)
    by_plain (Some x) e = absurd (no (Plain x.1) e refl)

    by_protected : (h : ℕ × ProtectedUnit) (x : Option (ℕ × Operation)) → protected_by h x ≡ Request task → task < length y.threads
    by_protected h None e = absurd (no Unknown e refl)
    by_protected h (Some x) e = absurd (no (Protected h.0 x.0 h.1 x.1) e refl)

    by_request : (t : Option (ℕ × TaskUnit)) → first_where (λ t. same_name t.name c.object) y.threads ≡ t → request_by c.op t ≡ Request task
        → task < length y.threads
    by_request None found e = absurd (no Unknown e refl)
    by_request (Some t) found e = by_timing t.1.timing e where
      by_test : (b : Bool) → (if b then Request t.0 else Unknown) ≡ Request task → task < length y.threads
      by_test true k =
          let here = first-at 0 (λ t. same_name t.name c.object) y.threads t found in
          let same : t.0 ≡ task = same_Some t.0 task (ap task_in k) in
          let below = place_below y.threads here.0 t.1 here.2 in
          omega (arith, below, here.1, same)
      by_test false k = absurd (no Unknown k refl)

      by_timing : (w : ReleasePattern) → request_if c.op t.0 w ≡ Request task → task < length y.threads
      by_timing (Periodic offset period) k = absurd (no Unknown k refl)
      by_timing (Sporadic sig ceiling separation jitter external) k = by_test (same_name sig.name c.op) k

    by_unit : (l : Option (ℕ × PassiveUnit)) (h : Option (ℕ × ProtectedUnit)) (t : Option (ℕ × TaskUnit))
        → first_where (λ t. same_name t.name c.object) y.threads ≡ t
        → library_or c.op l (object_or c.op h (request_by c.op t)) ≡ Request task → task < length y.threads
    by_unit (Some l) h t found e = by_plain (op_named c.op l.1.ops) e
    by_unit None (Some h) t found e = by_protected h (op_named c.op h.1.ops) e
    by_unit None None t found e = by_request t found e
