-- Numbers by the ends of names: what stands first at its ends or among the others is what was put for a name.
use Rattle.std.proofs.Common.{◌≡◌, ℕ, ◌==◌, Bool, true, false, not, cond, List, Option, None, Some, Bor, refl, sym, ap, subst, ◌∙◌}
use Rattle.std.specs.Prelude.{nat_lt}
use Rattle.std.specs.declared.cmp.Ordering.TheVariants.{Less, Equal, Greater}
use Rattle.std.specs.Ordering.{is_eq, nat_cmp}
use Rattle.std.specs.Cmp.{nat_cmp_is}
use Rattle.std.proofs.lemmas.Bool.{eqb-true, not-true, not-false}
use Rattle.std.proofs.lemmas.Slice.Eq.{bytes_eq-Decides}
use Rattle.seq_tree.specs.Names.{Name, same_name}
use Rattle.name_sets.specs.Places.{ends, first_or, is_another}

abbrev First : Type 0
First = Option (Bor (List ℕ) × ℕ)

same-number : (n : ℕ) → is_eq (nat_cmp n n) ≡ true
same-number n = ap is_eq (sym (nat_cmp_is n n Equal refl))

one-number : (x y : ℕ) → is_eq (nat_cmp x y) ≡ true → x ≡ y
one-number x y h = go (nat_lt x y) (x == y) refl h
  where
    go : (a b : Bool) → (x == y) ≡ b → is_eq (cond a Less (cond b Equal Greater)) ≡ true → x ≡ y
    go true b i h = absurd cc
    go false true i h = eqb-true x y i
    go false false i h = absurd cc

-- another name at the ends of a name tells nothing of it
beside : (n : Name) (o : First) (x : Option ℕ) → is_another n o ≡ true → first_or n o x ≡ x
beside n None x h = refl
beside n (Some e) x h = ap (λ b. cond b (Some e.1) x) (not-true (same_name e.0.now n) h)

-- a name at its own ends tells nothing of another name
passed : (m n : Name) (o : First) (x : Option ℕ) → is_another m o ≡ false → same_name m n ≡ false → first_or n o x ≡ x
passed m n None x h k = refl
passed m n (Some e) x h k =
    ap (λ z. cond (same_name z n) (Some e.1) x) ((bytes_eq-Decides e.0.now m).0 (not-false (same_name e.0.now m) h))
    ∙ ap (λ b. cond b (Some e.1) x) k

-- a name was put among the others, since another stands first at its ends
pub others_law : (m n : Name) (p : ℕ) (look : ℕ → First) (old new : Option ℕ) → is_another m (look (ends m)) ≡ true
    → new ≡ cond (same_name m n) (Some p) old
    → first_or n (look (ends n)) new ≡ cond (same_name m n) (Some p) (first_or n (look (ends n)) old)
others_law m n p look old new other is = go (same_name m n) refl is
  where
    go : (b : Bool) → same_name m n ≡ b → new ≡ cond b (Some p) old
        → first_or n (look (ends n)) new ≡ cond b (Some p) (first_or n (look (ends n)) old)
    go true h i = ap (λ k. first_or k (look (ends k)) new) (sym ((bytes_eq-Decides m n).0 h)) ∙ beside m (look (ends m)) new other ∙ i
    go false h i = ap (first_or n (look (ends n))) i

-- a name was put first at its ends, where no other stands
pub firsts_law : (m n : Name) (p : ℕ) (r : Bor (List ℕ)) (old new : ℕ → First) (other : Option ℕ) → r.now ≡ m
    → is_another m (old (ends m)) ≡ false
    → new (ends n) ≡ cond (is_eq (nat_cmp (ends m) (ends n))) (Some (r, p)) (old (ends n))
    → first_or n (new (ends n)) other ≡ cond (same_name m n) (Some p) (first_or n (old (ends n)) other)
firsts_law m n p r old new other is free put = go (same_name m n) refl
  where
    here : (b : Bool) → same_name m n ≡ b → first_or n (Some (r, p)) other ≡ cond b (Some p) other
    here b h = ap (λ z. cond (same_name z n) (Some p) other) is ∙ ap (λ c. cond c (Some p) other) h

    apart : (b : Bool) → is_eq (nat_cmp (ends m) (ends n)) ≡ b → new (ends n) ≡ cond b (Some (r, p)) (old (ends n)) → same_name m n ≡ false
        → first_or n (new (ends n)) other ≡ first_or n (old (ends n)) other
    apart false e i k = ap (λ o. first_or n o other) i
    apart true e i k =
        ap (λ o. first_or n o other) i ∙ here false k
        ∙ sym (passed m n (old (ends n)) other (subst (λ z. is_another m (old z) ≡ false) (one-number (ends m) (ends n) e) free) k)

    go : (b : Bool) → same_name m n ≡ b → first_or n (new (ends n)) other ≡ cond b (Some p) (first_or n (old (ends n)) other)
    go true h =
        let tied : is_eq (nat_cmp (ends m) (ends n)) ≡ true =
        subst (λ k. is_eq (nat_cmp (ends m) (ends k)) ≡ true) ((bytes_eq-Decides m n).0 h) (same-number (ends m)) in
        ap (λ o. first_or n o other) (put ∙ ap (λ b. cond b (Some (r, p)) (old (ends n))) tied) ∙ here true h
    go false h = apart (is_eq (nat_cmp (ends m) (ends n))) refl put h
