-- What was added behind a list that is kept, and an operation more in the set of those that were found.
use Rattle.std.proofs.Common.{◌≡◌, Bool, true, false, List, [], ◌∷◌, ◌++◌, ◌||◌, map, refl, ap, sym, ◌∙◌, subst}
use Rattle.std.specs.Prelude.{if◌then◌else◌}
use Rattle.std.specs.List.{list_any}
use Rattle.std.proofs.lemmas.List.{map-append}
use Rattle.std.proofs.lemmas.List.Folds.{list_any-append}
use Rattle.seq_tree.specs.Calls.{same_op}
use Rattle.seq_tree.specs.declared.tree.OpName.{OpName}
use Rattle.seq_tree.proofs.Shared.Walks.{same_op-eq, same_op-refl}

-- what a list stands for, after items were added behind it where a name is the same
pub added : {A B : Type 0} (f : A → B) (same : Bool) (new old items : List A) (shown : List B) → new ≡ old ++ (if same then items else [])
    → map f items ≡ shown → map f new ≡ map f old ++ (if same then shown else [])
added f true new old items shown e s = ap (map f) e ∙ map-append f old items ∙ ap (λ z. map f old ++ z) s
added f false new old items shown e s = ap (map f) e ∙ map-append f old []

-- an operation that was added to a set is found, where it wasn't
pub seen-more : (op n : OpName) (all : List OpName) (after before : Bool) → after ≡ (same_op op n || before) → before ≡ list_any (same_op n) all
    → after ≡ list_any (same_op n) (all ++ op ∷ [])
seen-more op n all after before put was =
    put ∙ ap (λ b. same_op op n || b) was ∙ turned (same_op op n) (same_op n op) (list_any (same_op n) all) (both op n) (both n op)
    ∙ sym (list_any-append (same_op n) all (op ∷ []))
  where
    both : (a b : OpName) → same_op a b ≡ true → same_op b a ≡ true
    both a b e = let P : OpName → Type 0 = λ z. same_op b z ≡ true in subst P (sym (same_op-eq a b e)) (same_op-refl b)

    turned : (s t more : Bool) → (s ≡ true → t ≡ true) → (t ≡ true → s ≡ true) → (s || more) ≡ (more || (t || false))
    turned true true true to from = refl
    turned true true false to from = refl
    turned true false more to from = (let z : false ≡ true = to refl in cc)
    turned false true more to from = (let z : false ≡ true = from refl in cc)
    turned false false true to from = refl
    turned false false false to from = refl
