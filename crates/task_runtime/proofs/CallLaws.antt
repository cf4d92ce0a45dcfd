-- Calls that are under way: what is clear next, and the room that a call takes.
use Rattle.std.proofs.Common.{◌≡◌, ℕ, suc, ◌+◌, ◌≤◌, Bool, true, false, ◌||◌, List, [], ◌∷◌, ◌++◌, length, refl, ap, sym, subst, ◌∙◌}
use Rattle.std.proofs.Common.{arith, Some, None, Option}
use Rattle.std.specs.Prelude.{if◌then◌else◌}
use Rattle.std.proofs.lemmas.List.Folds.{list_any-append}
use Rattle.std.proofs.lemmas.Option.{same_Some}
use Rattle.std.proofs.lemmas.Bool.{and_parts, or_left, or_right}
use Rattle.seq_tree.specs.Names.{Name, same_name}
use Rattle.seq_tree.specs.Lists.{first_from, first_where}
use Rattle.seq_tree.specs.Operations.{Operation}
use Rattle.seq_tree.specs.Calls.{same_op}
use Rattle.seq_tree.specs.declared.tree.OpName.{OpName}
use Rattle.seq_tree.proofs.Shared.SameNames.{same-self, same-is}
use Rattle.machine.specs.Systems.{System, PassiveUnit, ProtectedUnit, TaskUnit, ReleasePattern, Periodic, Requested, CallTarget, Request}
use Rattle.machine.specs.Systems.{Unknown, object_or, op_named, plain_by, protected_by, request_by, request_if}
use Rattle.task_runtime.specs.Callable.{IsClear, Leads, call_room, calls_by, calls_room, data_by, is_in, is_known, op_by, op_in, op_name}
use Rattle.task_runtime.specs.Callable.{ops_room, target_in, units_room}

pub no_true : true ≡ false → ⊥
no_true h = cc

pub op-self : (c : OpName) → same_op c c ≡ true
op-self c = rw (same-self c.object) (same-self c.op)

pub op-one : (c d : OpName) → same_op c d ≡ true → c ≡ d
op-one c d e =
    let both = and_parts (same_name c.object d.object) (same_name c.op d.op) e in
    let object : c.object ≡ d.object = same-is c.object d.object both.0 in
    let op : c.op ≡ d.op = same-is c.op d.op both.1 in
    ap (λ x. op_name x c.op) object ∙ ap (op_name d.object) op

-- operations of a name
abbrev pub of_name : Name → Operation → Bool
of_name op o = same_name o.sig.name op

pub in-append : (cs ds : List OpName) (c : OpName) → is_in cs c ≡ true → is_in (cs ++ ds) c ≡ true
in-append cs ds c h = list_any-append (same_op c) cs ds ∙ or_left (is_in cs c) (is_in ds c) h

pub in-behind : (cs ds : List OpName) (c : OpName) → is_in ds c ≡ true → is_in (cs ++ ds) c ≡ true
in-behind cs ds c h = list_any-append (same_op c) cs ds ∙ or_right (is_in cs c) (is_in ds c) h

pub in-one : (c : OpName) → is_in (c ∷ []) c ≡ true
in-one c = or_left (same_op c c) false (op-self c)

-- an operation that a call may lead to once the call is under way
pub clear-next : (y : System) (chain : List OpName) (c d : OpName) → ((path : List OpName) (x : OpName) → Leads y x path x → ⊥) → IsClear y chain c
    → is_in (calls_by (op_in y c)) d ≡ true → is_known (target_in y d) ≡ true → IsClear y (c ∷ chain) d
clear-next y chain c d no_ring clear calls there = (
  there,
  both d (λ e. no_ring [] c (subst (λ x. is_in (calls_by (op_in y c)) x ≡ true) e calls)) (clear.2 [] d calls),
  λ path to leads. both to (λ e. no_ring (d ∷ path) c (subst (λ x. Leads y c (d ∷ path) x) e (calls, leads))) (clear.2 (d ∷ path) to (calls, leads)),
) where
  both : (x : OpName) → (x ≡ c → ⊥) → is_in chain x ≡ false → is_in (c ∷ chain) x ≡ false
  both x other out = by_test (same_op x c) refl where
    by_test : (b : Bool) → same_op x c ≡ b → (same_op x c || is_in chain x) ≡ false
    by_test true e = absurd (other (op-one x c e))
    by_test false e = rw e out

-- an operation that is called takes its room
less_room : (chain : List OpName) (c d : OpName) (room : ℕ) → (if is_in (c ∷ chain) d then 0 else room) ≤ (if is_in chain d then 0 else room)
less_room chain c d room = by_test (same_op d c) (is_in chain d) where
  by_test : (a b : Bool) → (if a || b then 0 else room) ≤ (if b then 0 else room)
  by_test true true = omega arith
  by_test true false = omega arith
  by_test false b = omega arith

less_ops : (chain : List OpName) (c : OpName) (object : Name) (more : ℕ) (os : List Operation)
    → ops_room (c ∷ chain) object more os ≤ ops_room chain object more os
less_ops chain c object more [] = omega arith
less_ops chain c object more (o ∷ os) =
    let one = less_room chain c (op_name object o.sig.name) (call_room more o) in let others = less_ops chain c object more os
    in omega (arith, one, others)

ops_taken : (chain : List OpName) (c : OpName) (more n : ℕ) (os : List Operation) (x : ℕ × Operation) → is_in chain c ≡ false
    → first_from n (of_name c.op) os ≡ Some x
    → ops_room (c ∷ chain) c.object more os + call_room more x.1 ≤ ops_room chain c.object more os
ops_taken chain c more n [] x out found = absurd (cc)
ops_taken chain c more n (q ∷ os) x out found = by_test (of_name c.op q) refl (ops_taken chain c more (suc n) os x out) found where
  by_test : (b : Bool) → of_name c.op q ≡ b
      → (first_from (suc n) (of_name c.op) os ≡ Some x → ops_room (c ∷ chain) c.object more os + call_room more x.1 ≤ ops_room chain c.object more os)
      → first_from n (of_name c.op) (q ∷ os) ≡ Some x
      → ops_room (c ∷ chain) c.object more (q ∷ os) + call_room more x.1 ≤ ops_room chain c.object more (q ∷ os)
  by_test true e rest k =
      let k' : Some (n, q) ≡ Some x = rw e at k in
      let is : q ≡ x.1 = ap (λ (y : ℕ × Operation). y.1) (same_Some (n, q) x k') in
      let name : op_name c.object q.sig.name ≡ c = ap (op_name c.object) (same-is q.sig.name c.op e) in
      let here : is_in (c ∷ chain) (op_name c.object q.sig.name) ≡ true
      = ap (is_in (c ∷ chain)) name ∙ or_left (same_op c c) (is_in chain c) (op-self c) in
      let before : is_in chain (op_name c.object q.sig.name) ≡ false = ap (is_in chain) name ∙ out in
      let less = less_ops chain c c.object more os in
      let room = ap (call_room more) is in
      rw (here, before) (omega (arith, less, room))
  by_test false e rest k =
      let k' : first_from (suc n) (of_name c.op) os ≡ Some x = rw e at k in
      let one = less_room chain c (op_name c.object q.sig.name) (call_room more q) in
      omega (arith, rest k', one)

-- the same of units of a kind
module _ {A : Type 0} (name : A → Name) (more : A → ℕ) (ops : A → List Operation) (chain : List OpName) (c : OpName) where
  less_units : (us : List A) → units_room name more ops (c ∷ chain) us ≤ units_room name more ops chain us
  less_units [] = omega arith
  less_units (u ∷ us) = let one = less_ops chain c (name u) (more u) (ops u) in let others = less_units us in omega (arith, one, others)

  units_taken : (n : ℕ) (us : List A) (u : ℕ × A) (x : ℕ × Operation) → is_in chain c ≡ false
      → first_from n (λ v. same_name (name v) c.object) us ≡ Some u → op_named c.op (ops u.1) ≡ Some x
      → units_room name more ops (c ∷ chain) us + call_room (more u.1) x.1 ≤ units_room name more ops chain us
  units_taken n [] u x out found op = absurd (cc)
  units_taken n (v ∷ us) u x out found op = by_test (same_name (name v) c.object) refl (λ k. units_taken (suc n) us u x out k op) found where
    by_test : (b : Bool) → same_name (name v) c.object ≡ b
        → (first_from (suc n) (λ w. same_name (name w) c.object) us ≡ Some u
        → units_room name more ops (c ∷ chain) us + call_room (more u.1) x.1 ≤ units_room name more ops chain us)
        → first_from n (λ w. same_name (name w) c.object) (v ∷ us) ≡ Some u
        → units_room name more ops (c ∷ chain) (v ∷ us) + call_room (more u.1) x.1 ≤ units_room name more ops chain (v ∷ us)
    by_test true e rest k =
        let k' : Some (n, v) ≡ Some u = rw e at k in
        let is : v ≡ u.1 = ap (λ (y : ℕ × A). y.1) (same_Some (n, v) u k') in
        let named : name v ≡ c.object = same-is (name v) c.object e in
        let here : op_named c.op (ops v) ≡ Some x = ap (λ w. op_named c.op (ops w)) is ∙ op in
        let one = subst (λ z. ops_room (c ∷ chain) z (more v) (ops v) + call_room (more v) x.1 ≤ ops_room chain z (more v) (ops v)) (sym named)
        (ops_taken chain c (more v) 0 (ops v) x out here) in
        let others = less_units us in
        let same = ap (λ w. call_room (more w) x.1) is in
        omega (arith, one, others, same)
    by_test false e rest k =
        let k' : first_from (suc n) (λ w. same_name (name w) c.object) us ≡ Some u = rw e at k in
        let one = less_ops chain c (name v) (more v) (ops v) in
        omega (arith, rest k', one)

no_body : (op : Name) (t : Option (ℕ × TaskUnit)) (o : Operation) → op_by (request_by op t) ≡ Some o → ⊥
no_body op None o h = absurd (cc)
no_body op (Some t) o h = by_timing t.1.timing h where
  by_test : (b : Bool) → op_by (if b then Request t.0 else Unknown) ≡ Some o → ⊥
  by_test true k = cc
  by_test false k = cc

  by_timing : (w : ReleasePattern) → op_by (request_if op t.0 w) ≡ Some o → ⊥
  by_timing (Periodic offset period) k = cc
  by_timing (Requested sig ceiling separation jitter external) k = by_test (same_name sig.name op) k

pub room-taken : (chain : List OpName) (c : OpName) (y : System) (o : Operation) → is_in chain c ≡ false → op_in y c ≡ Some o
    → calls_room (c ∷ chain) y + call_room (length (data_by (target_in y c))) o ≤ calls_room chain y
room-taken chain c y o out = by_unit (first_where (λ l. same_name l.name c.object) y.libraries) refl
    (first_where (λ g. same_name g.name c.object) y.objects) refl where
      Fits : CallTarget → Type 0
      Fits k = op_by k ≡ Some o → calls_room (c ∷ chain) y + call_room (length (data_by k)) o ≤ calls_room chain y

      by_plain : (l : ℕ × PassiveUnit) → first_where (λ l. same_name l.name c.object) y.libraries ≡ Some l → (x : Option (ℕ × Operation))
          → op_named c.op l.1.ops ≡ x → Fits (plain_by x)
      by_plain l at None e h = absurd (cc)
      by_plain l at (Some x) e h =
          let one = units_taken (λ (v : PassiveUnit). v.name) (λ v. 0) (λ v. v.ops) chain c 0 y.libraries l x out at e in
          let others = less_units (λ (g : ProtectedUnit). g.name) (λ g. length g.vars) (λ g. g.ops) chain c y.objects in
          let same = ap (call_room 0) (same_Some x.1 o h) in
          omega (arith, one, others, same)

      by_protected : (g : ℕ × ProtectedUnit) → first_where (λ g. same_name g.name c.object) y.objects ≡ Some g → (x : Option (ℕ × Operation))
          → op_named c.op g.1.ops ≡ x → Fits (protected_by g x)
      by_protected g at None e h = absurd (cc)
      by_protected g at (Some x) e h =
          let one = units_taken (λ (v : ProtectedUnit). v.name) (λ v. length v.vars) (λ v. v.ops) chain c 0 y.objects g x out at e in
          let others = less_units (λ (l : PassiveUnit). l.name) (λ l. 0) (λ l. l.ops) chain c y.libraries in
          let same = ap (call_room (length g.1.vars)) (same_Some x.1 o h) in
          omega (arith, one, others, same)

      by_object : (g : Option (ℕ × ProtectedUnit)) → first_where (λ g. same_name g.name c.object) y.objects ≡ g
          → Fits (object_or c.op g (request_by c.op (first_where (λ t. same_name t.name c.object) y.threads)))
      by_object None e h = absurd (no_body c.op (first_where (λ t. same_name t.name c.object) y.threads) o h)
      by_object (Some g) e h = by_protected g e (op_named c.op g.1.ops) refl h

      by_unit : (l : Option (ℕ × PassiveUnit)) → first_where (λ l. same_name l.name c.object) y.libraries ≡ l
          → (g : Option (ℕ × ProtectedUnit)) → first_where (λ g. same_name g.name c.object) y.objects ≡ g
          → Fits (target_in y c)
      by_unit None e g e' h =
          let k : target_in y c ≡ object_or c.op g (request_by c.op (first_where (λ t. same_name t.name c.object) y.threads)) = rw (e, e') refl in
          subst Fits (sym k) (by_object g e') h
      by_unit (Some l) e g e' h =
          let k : target_in y c ≡ plain_by (op_named c.op l.1.ops) = rw e refl in
          subst Fits (sym k) (by_plain l e (op_named c.op l.1.ops) refl) h
