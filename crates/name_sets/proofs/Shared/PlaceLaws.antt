-- The first place: what stands there passes the test, and what passes the test has a first place that is none later.
use Rattle.std.proofs.Common.{◌≡◌, ℕ, zero, suc, ◌+◌, ◌≤◌, Bool, true, false, List, [], ◌∷◌, slice_get, Some, if◌then◌else◌}
use Rattle.std.proofs.Common.{refl, sym, ap, ◌∙◌, arith}
use Rattle.seq_tree.proofs.Shared.SameNames.{same-self, same-is}
use Rattle.seq_tree.proofs.Shared.Walks.{same_op-eq, same_op-refl}
use Rattle.seq_tree.specs.Calls.{same_op}
use Rattle.seq_tree.specs.Names.{Name, same_name}
use Rattle.seq_tree.specs.declared.tree.OpName.{OpName}
use Rattle.name_sets.specs.FirstPlaces.{place_where, op_place_from, place_from}

-- what stands at the first place
pub first-placed : {A : Type 0} (test : A → Bool) (k : ℕ) (xs : List A) (p : ℕ) → place_where test k xs ≡ Some p
    → (i : ℕ) × (p ≡ k + i) × (x : A) × (slice_get xs i ≡ Some x) × (test x ≡ true)
first-placed test k [] p e = cc
first-placed {A} test k (x ∷ xs) p e = by (first-placed test (suc k) xs p) (test x) refl e
  where
    by : (place_where test (suc k) xs ≡ Some p → (i : ℕ) × (p ≡ suc k + i) × (y : A) × (slice_get xs i ≡ Some y) × (test y ≡ true))
        → (t : Bool) → test x ≡ t → (if t then Some k else place_where test (suc k) xs) ≡ Some p
        → (i : ℕ) × (p ≡ k + i) × (y : A) × (slice_get (x ∷ xs) i ≡ Some y) × (test y ≡ true)
    by rest true s h = (let y : k ≡ p = cc in (0, omega (arith, y), x, refl, s))
    by rest false s h = (let r = rest h in let y = r.1 in (suc r.0, omega (arith, y), r.2, r.3, r.4))

-- what passes has a first place, none later than its own
pub first-none-later : {A : Type 0} (test : A → Bool) (k : ℕ) (xs : List A) (i : ℕ) (x : A) → slice_get xs i ≡ Some x → test x ≡ true
    → (p : ℕ) × (place_where test k xs ≡ Some p) × (p ≤ k + i)
first-none-later test k [] i x e passes = cc
first-none-later test k (y ∷ xs) i x e passes = by (test y) refl i e (λ j h. first-none-later test (suc k) xs j x h passes)
  where
    by : (t : Bool) → test y ≡ t → (j : ℕ) → slice_get (y ∷ xs) j ≡ Some x
        → ((l : ℕ) → slice_get xs l ≡ Some x → (p : ℕ) × (place_where test (suc k) xs ≡ Some p) × (p ≤ suc k + l))
        → (p : ℕ) × ((if t then Some k else place_where test (suc k) xs) ≡ Some p) × (p ≤ k + j)
    by true s j h rest = (k, refl, omega arith)
    by false s zero h rest = (let z : y ≡ x = cc in let never : false ≡ true = sym s ∙ ap test z ∙ passes in cc)
    by false s (suc j) h rest = (let r = rest j h in let z = r.2 in (r.0, r.1, omega (arith, z)))

-- NAMES
pub name-placed : (k : ℕ) (ns : List Name) (n : Name) (p : ℕ) → place_from k n ns ≡ Some p → (i : ℕ) × (p ≡ k + i) × (slice_get ns i ≡ Some n)
name-placed k ns n p e =
    let r = first-placed (λ m. same_name m n) k ns p e in (r.0, r.1, r.3 ∙ ap (λ m. Some m) (same-is r.2 n r.4))

pub name-none-later : (k : ℕ) (ns : List Name) (n : Name) (i : ℕ) → slice_get ns i ≡ Some n → (p : ℕ) × (place_from k n ns ≡ Some p) × (p ≤ k + i)
name-none-later k ns n i e = first-none-later (λ m. same_name m n) k ns i n e (same-self n)

-- OPERATIONS
pub op-placed : (k : ℕ) (ops : List OpName) (n : OpName) (p : ℕ) → op_place_from k ops n ≡ Some p
    → (i : ℕ) × (p ≡ k + i) × (slice_get ops i ≡ Some n)
op-placed k ops n p e =
    let r = first-placed (λ o. same_op o n) k ops p e in (r.0, r.1, r.3 ∙ ap (λ o. Some o) (same_op-eq r.2 n r.4))

pub op-none-later : (k : ℕ) (ops : List OpName) (n : OpName) (i : ℕ) → slice_get ops i ≡ Some n
    → (p : ℕ) × (op_place_from k ops n ≡ Some p) × (p ≤ k + i)
op-none-later k ops n i e = first-none-later (λ o. same_op o n) k ops i n e (same_op-refl n)
