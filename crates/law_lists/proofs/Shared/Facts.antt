-- Small facts: faults that are none, names that are the same, and the first item that passes a test.
use Rattle.std.specs.Prelude.{◌≡◌, ◌+◌, ℕ, zero, suc, Bool, true, false, not, ◌||◌, List, [], ◌∷◌, slice_get, Option, Some, None, if◌then◌else◌, refl}
use Rattle.std.proofs.Common.{sym, ap, subst, arith, ◌∙◌}
use Rattle.std.proofs.lemmas.Option.{none-some, same_Some}
use Rattle.seq_tree.specs.Names.{Name, same_name}
use Rattle.seq_tree.specs.Faults.{or_else, fault_if}
use Rattle.seq_tree.specs.Lists.{first_from, first_where}
pub use Rattle.seq_tree.proofs.Shared.SameNames.{same-self, same-is, is-same}

-- of two faults neither
pub or_else-none : {A : Type 0} (a b : Option A) → or_else a b ≡ None → (a ≡ None) × (b ≡ None)
or_else-none None b e = (refl, e)
or_else-none (Some x) b e = absurd (none-some x (sym e))

pub not-fault : {A : Type 0} (b : Bool) (x : A) → fault_if (not b) x ≡ None → b ≡ true
not-fault true x e = refl
not-fault false x e = absurd (none-some x (sym e))

pub no-fault : {A : Type 0} (b : Bool) (x : A) → fault_if b x ≡ None → b ≡ false
no-fault true x e = absurd (none-some x (sym e))
no-fault false x e = refl

-- the second of two, where one holds and the first doesn't
pub or_second : (a b : Bool) → a ≡ false → (a || b) ≡ true → b ≡ true
or_second true b f e = cc
or_second false b f e = e

-- the first item that passes a test is there and passes it
pub first-from : {A : Type 0} (n : ℕ) (test : A → Bool) (xs : List A) (k : ℕ) (x : A) → first_from n test xs ≡ Some (k, x)
    → (m : ℕ) × (k ≡ n + m) × (slice_get xs m ≡ Some x) × (test x ≡ true)
first-from n test [] k x e = absurd (none-some (k, x) e)
first-from {A} n test (a ∷ xs) k x e = by (test a) refl e (first-from (suc n) test xs k x)
  where
    by : (b : Bool) → test a ≡ b → (if b then Some (n, a) else first_from (suc n) test xs) ≡ Some (k, x)
        → (first_from (suc n) test xs ≡ Some (k, x) → (m : ℕ) × (k ≡ suc n + m) × (slice_get xs m ≡ Some x) × (test x ≡ true))
        → (m : ℕ) × (k ≡ n + m) × (slice_get (a ∷ xs) m ≡ Some x) × (test x ≡ true)
    by true passes e' later =
        let same = same_Some {A = ℕ × A} (n, a) (k, x) e' in
        let is : a ≡ x = ap (λ q. q.1) same in
        (0, (let at : n ≡ k = ap (λ q. q.0) same in omega arith), ap Some is, ap test (sym is) ∙ passes)
    by false fails e' later = let found = later e' in (suc found.0, (let at : k ≡ suc n + found.0 = found.1 in omega arith), found.2, found.3)

pub first-where : {A : Type 0} (test : A → Bool) (xs : List A) (k : ℕ) (x : A) → first_where test xs ≡ Some (k, x)
    → (slice_get xs k ≡ Some x) × (test x ≡ true)
first-where test xs k x e =
    let found = first-from 0 test xs k x e in
    let is : found.0 ≡ k = let at : k ≡ 0 + found.0 = found.1 in omega arith in
    (subst (λ m. slice_get xs m ≡ Some x) is found.2, found.3)

-- where none is found, none passes it
pub first-none : {A : Type 0} (n : ℕ) (test : A → Bool) (xs : List A) → first_from n test xs ≡ None → (k : ℕ) (x : A) → slice_get xs k ≡ Some x
    → test x ≡ false
first-none n test [] e k x at = absurd (none-some x at)
first-none {A} n test (a ∷ xs) e k x at = by (test a) refl k at e (λ later j g. first-none (suc n) test xs later j x g)
  where
    by : (b : Bool) → test a ≡ b → (k : ℕ) → slice_get (a ∷ xs) k ≡ Some x → (if b then Some (n, a) else first_from (suc n) test xs) ≡ None
        → (first_from (suc n) test xs ≡ None → (j : ℕ) → slice_get xs j ≡ Some x → test x ≡ false) → test x ≡ false
    by true passes k at e' later = absurd (none-some {A = ℕ × A} (n, a) (sym e'))
    by false fails zero at e' later = ap test (sym (same_Some a x at)) ∙ fails
    by false fails (suc k) at e' later = later e' k at
