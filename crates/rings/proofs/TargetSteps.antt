-- Targets of nodes, to one of which an edge was added.
use Rattle.std.proofs.Common.{◌≡◌, ℕ, ◌==◌, Bool, true, false, cond, List, [], ◌∷◌, ◌++◌, Option, Some, None, Vec, BTreeMap, Global}
use Rattle.std.proofs.Common.{Less, Equal, Greater, is_eq, nat_cmp, nat_lt, unwrap_or, option_map, if◌then◌else◌}
use Rattle.std.proofs.Common.{refl, ap, ◌∙◌, arith, eqb-true, ltb-true}
use Rattle.std.specs.BTreeMap.{get_by}
use Rattle.rings.specs.Graphs.{targets_at}
use Rattle.rings.specs.declared.targets.Targets.{Targets}

tied : (x y : ℕ) → is_eq (nat_cmp x y) ≡ (x == y)
tied x y = go (nat_lt x y) (x == y) refl refl
  where
    go : (a b : Bool) → nat_lt x y ≡ a → (x == y) ≡ b → is_eq (cond a Less (cond b Equal Greater)) ≡ b
    go true true h i = absurd (let l = ltb-true x y h in let e = eqb-true x y i in omega (arith, l, e))
    go true false h i = refl
    go false true h i = refl
    go false false h i = refl

module _ {Z : Type 0} where
  abbrev items_of : Option (Vec ℕ Z) → List ℕ
  items_of o = unwrap_or (option_map (λ v. v.items) o) []

  items_law : (o : Option (Vec ℕ Z)) (was fresh : Vec ℕ Z) → was ≡ unwrap_or o fresh → fresh.items ≡ [] → was.items ≡ items_of o
  items_law None was fresh is none = ap (λ v. v.items) is ∙ none
  items_law (Some v) was fresh is none = ap (λ v. v.items) is

  added_law : (from a to : ℕ) (here there new : Option (Vec ℕ Z)) (v was fresh : Vec ℕ Z)
      → new ≡ cond (is_eq (nat_cmp from a)) (Some v) there → v.items ≡ was.items ++ to ∷ [] → was ≡ unwrap_or here fresh → fresh.items ≡ []
      → unwrap_or (option_map (λ w. w.items) new) []
      ≡ (if from == a then unwrap_or (option_map (λ w. w.items) here) [] ++ to ∷ [] else unwrap_or (option_map (λ w. w.items) there) [])
  added_law from a to here there new v was fresh put more is none = go (from == a) (put ∙ ap (λ b. cond b (Some v) there) (tied from a))
    where
      go : (b : Bool) → new ≡ cond b (Some v) there → items_of new ≡ (if b then items_of here ++ to ∷ [] else items_of there)
      go true e = ap items_of e ∙ more ∙ ap (λ xs. xs ++ to ∷ []) (items_law here was fresh is none)
      go false e = ap items_of e

-- an edge was added in a map that is this one
pub added_targets : (old : Targets) (made kept : BTreeMap ℕ (Vec ℕ Global)) (v was fresh : Vec ℕ Global) (from to a : ℕ) → made ≡ kept
    → get_by (nat_cmp a) kept ≡ cond (is_eq (nat_cmp from a)) (Some v) (get_by (nat_cmp a) old.map) → v.items ≡ was.items ++ to ∷ []
    → was ≡ unwrap_or (get_by (nat_cmp from) old.map) fresh → fresh.items ≡ []
    → targets_at (record { map = made }) a ≡ (if from == a then targets_at old from ++ to ∷ [] else targets_at old a)
unfolding targets_at
added_targets old made kept v was fresh from to a same put more is none =
    added_law from a to (get_by (nat_cmp from) old.map) (get_by (nat_cmp a) old.map) (get_by (nat_cmp a) made) v was fresh
    (ap (get_by (nat_cmp a)) same ∙ put) more is none
