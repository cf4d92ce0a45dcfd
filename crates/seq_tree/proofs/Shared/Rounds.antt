-- What stands on a ring has both what each step begins with and what each step ends with, so that there is no ring where nothing has both.
-- Where a step leads to what is listed of the chosen things of a list, one of these lists it.
use Rattle.std.proofs.Common.{◌≡◌, Bool, true, false, ◌&&◌, ◌||◌, List, [], ◌∷◌, filter, flat_map, if◌then◌else◌, refl, sym, ◌∙◌, ◌⊎◌, inl, inr}
use Rattle.std.specs.List.{list_any}
use Rattle.std.proofs.lemmas.List.Folds.{list_any-append}
use Rattle.std.proofs.lemmas.Bool.{or_cases}
use Rattle.seq_tree.specs.Rings.{LeadsTo, IsOnRing}

ends-so : {A : Type 0} (Step : A → A → Type 0) (Ends : A → Type 0) → ((a b : A) → Step a b → Ends b) → (path : List A) (a b : A)
    → LeadsTo Step a path b → Ends b
ends-so Step Ends step [] a b leads = step a b leads
ends-so Step Ends step (via ∷ path) a b leads = ends-so Step Ends step path via b leads.1

begins-so : {A : Type 0} (Step : A → A → Type 0) (Begins : A → Type 0) → ((a b : A) → Step a b → Begins a) → (path : List A) (a b : A)
    → LeadsTo Step a path b → Begins a
begins-so Step Begins step [] a b leads = step a b leads
begins-so Step Begins step (via ∷ path) a b leads = step a via leads.0

pub ring-both : {A : Type 0} (Step : A → A → Type 0) (Begins Ends : A → Type 0) → ((a b : A) → Step a b → Begins a × Ends b) → (a : A)
    → IsOnRing Step a → Begins a × Ends a
ring-both Step Begins Ends step a ring =
    (begins-so Step Begins (λ b c h. (step b c h).0) ring.0 a a ring.1, ends-so Step Ends (λ b c h. (step b c h).1) ring.0 a a ring.1)

-- one of a list
abbrev pub OneOf : {A : Type 0} → (A → Type 0) → List A → Type 0
OneOf P [] = ⊥
OneOf P (x ∷ xs) = P x ⊎ OneOf P xs

-- one of a list that passes two tests, the second of which says this
pub one-both : {A : Type 0} (p q : A → Bool) (Q : A → Type 0) → ((a : A) → q a ≡ true → Q a) → (xs : List A) → list_any (λ a. p a && q a) xs ≡ true
    → OneOf (λ a. (p a ≡ true) × Q a) xs
one-both p q Q says [] h = cc
one-both {A} p q Q says (x ∷ xs) h = by (one-both p q Q says xs) (or_cases (p x && q x) _ h)
  where
    both : (a b : Bool) → (a && b) ≡ true → (a ≡ true) × (b ≡ true)
    both true b h = (refl, h)
    both false b h = cc

    by : (list_any (λ a. p a && q a) xs ≡ true → OneOf (λ a. (p a ≡ true) × Q a) xs) → ((p x && q x) ≡ true) ⊎ (list_any (λ a. p a && q a) xs ≡ true)
        → OneOf (λ a. (p a ≡ true) × Q a) (x ∷ xs)
    by rest (inl k) = (let c = both (p x) (q x) k in inl (c.0, says x c.1))
    by rest (inr k) = inr (rest k)

pub from-chosen : {A B : Type 0} (test : B → Bool) (lists : A → List B) (chosen : A → Bool) (xs : List A)
    → list_any test (flat_map lists (filter chosen xs)) ≡ true → OneOf (λ a. (chosen a ≡ true) × (list_any test (lists a) ≡ true)) xs
from-chosen test lists chosen [] h = cc
from-chosen {A} {B} test lists chosen (x ∷ xs) h = by (from-chosen test lists chosen xs) (chosen x) refl h
  where
    joined : OneOf (λ a. (chosen a ≡ true) × (list_any test (lists a) ≡ true)) xs ⊎ (list_any test (lists x) ≡ true) → chosen x ≡ true
        → OneOf (λ a. (chosen a ≡ true) × (list_any test (lists a) ≡ true)) (x ∷ xs)
    joined (inl k) e = inr k
    joined (inr k) e = inl (e, k)

    later : (list_any test (flat_map lists (filter chosen xs)) ≡ true → OneOf (λ a. (chosen a ≡ true) × (list_any test (lists a) ≡ true)) xs)
        → (list_any test (lists x) ≡ true) ⊎ (list_any test (flat_map lists (filter chosen xs)) ≡ true)
        → OneOf (λ a. (chosen a ≡ true) × (list_any test (lists a) ≡ true)) xs ⊎ (list_any test (lists x) ≡ true)
    later rest (inl k) = inr k
    later rest (inr k) = inl (rest k)

    by : (list_any test (flat_map lists (filter chosen xs)) ≡ true → OneOf (λ a. (chosen a ≡ true) × (list_any test (lists a) ≡ true)) xs)
        → (b : Bool) → chosen x ≡ b → list_any test (flat_map lists (if b then x ∷ filter chosen xs else filter chosen xs)) ≡ true
        → OneOf (λ a. (chosen a ≡ true) × (list_any test (lists a) ≡ true)) (x ∷ xs)
    by rest true e k = joined (later rest (or_cases (list_any test (lists x)) _
        (sym (list_any-append test (lists x) (flat_map lists (filter chosen xs))) ∙ k))) e
    by rest false e k = inr (rest k)
