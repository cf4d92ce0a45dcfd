-- What is seen in one action: an action is seen exactly where it is the one that is looked for.
use Rattle.std.proofs.Common.{◌≡◌, ℕ, Bool, true, false, ◌&&◌, List, length, Option, Some, None, cond, bytes_eq, refl, sym, ap, ◌∙◌}
use Rattle.std.specs.Prelude.{◌==◌}
use Rattle.std.proofs.lemmas.Bool.{and_from, and_parts, eqb-true, eq-eqb}
use Rattle.std.proofs.lemmas.Option.{same_Some, none-some}
use Rattle.std.proofs.lemmas.Slice.Eq.{bytes_eq-Decides}
use Rattle.seq_tree.specs.Calls.{same_op}
use Rattle.seq_tree.specs.Runs.{Action}
use Rattle.seq_tree.specs.Runs as runs
use Rattle.seq_tree.specs.declared.tree.OpName.{OpName}
use Rattle.seq_tree.proofs.Shared.Walks.{same_op-eq, same_op-refl}
use Rattle.law_walks.specs.Walks.{sees_leave, sees_entry, sees_request, sees_print, same_value}

-- a test that passed, and what it gave
pub passed_test : {A : Type 0} (b : Bool) (x y : A) → cond b (Some x) None ≡ Some y → (b ≡ true) × (x ≡ y)
passed_test true x y e = (refl, same_Some x y e)
passed_test false x y e = absurd (none-some y e)

pub equal-self : (xs : List ℕ) → bytes_eq xs xs ≡ true
equal-self xs = (bytes_eq-Decides xs xs).1 refl

pub entry-one : (name : OpName) (values : List ℕ) (a b : Action) → sees_entry name values a ≡ Some b
    → (a ≡ runs.Enter name values) × (b ≡ runs.Enter name values)
entry-one name values (runs.Enter n vs) b e =
    let t = passed_test (same_op name n && bytes_eq values vs) (runs.Enter name values) b e in
    let p = and_parts (same_op name n) (bytes_eq values vs) t.0 in
    (sym (ap (λ m. runs.Enter m values) (same_op-eq name n p.0) ∙ ap (runs.Enter n) ((bytes_eq-Decides values vs).0 p.1)), sym t.1)
entry-one name values (runs.Leave n vs) b e = absurd (none-some b e)
entry-one name values (runs.Request n v) b e = absurd (none-some b e)
entry-one name values (runs.Print v) b e = absurd (none-some b e)

pub entry-self : (name : OpName) (values : List ℕ) → sees_entry name values (runs.Enter name values) ≡ Some (runs.Enter name values)
entry-self name values = rw (and_from (same_op name name) (bytes_eq values values) (same_op-refl name) (equal-self values)) refl

pub leave-one : (name : OpName) (count : ℕ) (a : Action) (vs : List ℕ) → sees_leave name count a ≡ Some vs
    → (a ≡ runs.Leave name vs) × (length vs ≡ count)
leave-one name count (runs.Enter n vs) ws e = absurd (none-some ws e)
leave-one name count (runs.Leave n vs) ws e =
    let t = passed_test (same_op name n && (length vs == count)) vs ws e in
    let p = and_parts (same_op name n) (length vs == count) t.0 in
    (sym (ap (λ m. runs.Leave m ws) (same_op-eq name n p.0) ∙ ap (runs.Leave n) (sym t.1)), ap length (sym t.1) ∙ eqb-true (length vs) count p.1)
leave-one name count (runs.Request n v) ws e = absurd (none-some ws e)
leave-one name count (runs.Print v) ws e = absurd (none-some ws e)

pub leave-self : (name : OpName) (count : ℕ) (vs : List ℕ) → length vs ≡ count → sees_leave name count (runs.Leave name vs) ≡ Some vs
leave-self name count vs e = rw (and_from (same_op name name) (length vs == count) (same_op-refl name) (eq-eqb (length vs) count e)) refl

value-one : (v w : Option ℕ) → same_value v w ≡ true → v ≡ w
value-one None None e = refl
value-one None (Some w) e = cc
value-one (Some v) None e = cc
value-one (Some v) (Some w) e = ap Some (eqb-true v w e)

value-self : (v : Option ℕ) → same_value v v ≡ true
value-self None = refl
value-self (Some v) = eq-eqb v v refl

pub request-one : (name : OpName) (v : Option ℕ) (a b : Action) → sees_request name v a ≡ Some b
    → (a ≡ runs.Request name v) × (b ≡ runs.Request name v)
request-one name v (runs.Enter n vs) b e = absurd (none-some b e)
request-one name v (runs.Leave n vs) b e = absurd (none-some b e)
request-one name v (runs.Request n w) b e =
    let t = passed_test (same_op name n && same_value v w) (runs.Request name v) b e in
    let p = and_parts (same_op name n) (same_value v w) t.0 in
    (sym (ap (λ m. runs.Request m v) (same_op-eq name n p.0) ∙ ap (runs.Request n) (value-one v w p.1)), sym t.1)
request-one name v (runs.Print w) b e = absurd (none-some b e)

pub request-self : (name : OpName) (v : Option ℕ) → sees_request name v (runs.Request name v) ≡ Some (runs.Request name v)
request-self name v = rw (and_from (same_op name name) (same_value v v) (same_op-refl name) (value-self v)) refl

pub print-one : (v : ℕ) (a b : Action) → sees_print v a ≡ Some b → (a ≡ runs.Print v) × (b ≡ runs.Print v)
print-one v (runs.Enter n vs) b e = absurd (none-some b e)
print-one v (runs.Leave n vs) b e = absurd (none-some b e)
print-one v (runs.Request n w) b e = absurd (none-some b e)
print-one v (runs.Print w) b e =
    let t = passed_test (v == w) (runs.Print v) b e in (sym (ap runs.Print (eqb-true v w t.0)), sym t.1)

pub print-self : (v : ℕ) → sees_print v (runs.Print v) ≡ Some (runs.Print v)
print-self v = rw (eq-eqb v v refl) refl
