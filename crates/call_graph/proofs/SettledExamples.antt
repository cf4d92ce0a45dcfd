-- Examples of numbers that are worked out one after another, beside what is broken alone.
use Rattle.std.proofs.Common.{◌≡◌, ◌⊎◌, inl, inr, ℕ, zero, suc, Bool, true, false, List, [], ◌∷◌, length, get_or, refl, sym, ap, ◌∙◌, arith}
use Rattle.call_graph.specs.Numbers.{value}
use Rattle.call_graph.specs.Settled.{Agrees, AgreesFrom, HasPlaces, IsPut, is_done}
use Rattle.call_graph.specs.declared.settled.Settled.{Settled}

-- lists of two numbers of which the first stays
abbrev made : ℕ → List ℕ
made zero = []
made (suc depth) = 5 ∷ depth ∷ []

-- two places of which the first is worked out
module _ (s : Settled) (numbers : s.numbers.items ≡ 5 ∷ 7 ∷ []) (marks : s.done.items ≡ true ∷ false ∷ []) where
  first : is_done s 0 ≡ true
  first = ap (λ ms. get_or ms 0 false) marks

  second : is_done s 1 ≡ false
  second = ap (λ ms. get_or ms 1 false) marks

  no_more : (p : ℕ) → is_done s (suc (suc p)) ≡ false
  no_more p = ap (λ ms. get_or ms (suc (suc p)) false) marks

  two : HasPlaces 2 s
  two = (ap (λ (ns : List ℕ). length ns) numbers, ap (λ (ms : List Bool). length ms) marks)

  not_one : HasPlaces 1 s → ⊥
  not_one h = let long : length s.numbers.items ≡ 2 = ap (λ (ns : List ℕ). length ns) numbers in omega (arith, h.0, long)

  -- what isn't worked out may differ
  agrees_with : (n : ℕ) → Agrees s (5 ∷ n ∷ [])
  agrees_with n zero done = ap (λ ns. value ns 0) numbers
  agrees_with n (suc zero) done = let no : true ≡ false = sym done ∙ second in absurd (cc)
  agrees_with n (suc (suc p)) done = let no : true ≡ false = sym done ∙ no_more p in absurd (cc)

  not_with : Agrees s (6 ∷ 7 ∷ []) → ⊥
  not_with h = let same : 5 ≡ 6 = sym (ap (λ ns. value ns 0) numbers) ∙ h 0 first in omega (arith, same)

  from_one : AgreesFrom 1 made s
  from_one zero deep = absurd (omega (arith, deep))
  from_one (suc depth) deep = agrees_with depth

  not_from_zero : AgreesFrom 0 made s → ⊥
  not_from_zero h = let same : 5 ≡ 0 = sym (ap (λ ns. value ns 0) numbers) ∙ h 0 (omega arith) 0 first in omega (arith, same)

  -- the second is put, and the first stays
  module _ (t : Settled) (marked : t.done.items ≡ true ∷ true ∷ []) where
    puts : t.numbers.items ≡ 5 ∷ 8 ∷ [] → IsPut s 1 8 t
    puts is zero done = inr (first, ap (λ ns. value ns 0) is ∙ sym (ap (λ ns. value ns 0) numbers))
    puts is (suc zero) done = inl (refl, ap (λ ns. value ns 1) is)
    puts is (suc (suc p)) done =
        let no : true ≡ false = sym done ∙ ap (λ ms. get_or ms (suc (suc p)) false) marked in
        absurd (cc)

    put_at : (p : ℕ) → get_or (true ∷ true ∷ []) p false ≡ true → is_done t p ≡ true
    put_at p h = ap (λ ms. get_or ms p false) marked ∙ h

    puts_no_other : t.numbers.items ≡ 5 ∷ 9 ∷ [] → IsPut s 1 8 t → ⊥
    puts_no_other is h = by (h 1 (put_at 1 refl))
      where
        by : (◌≡◌ {A = ℕ} 1 1 × (value t.numbers.items 1 ≡ 8)) ⊎ ((is_done s 1 ≡ true) × (value t.numbers.items 1 ≡ value s.numbers.items 1)) → ⊥
        by (inl (here, same)) = let no : 9 ≡ 8 = sym (ap (λ ns. value ns 1) is) ∙ same in omega (arith, no)
        by (inr (before, same)) = let no : true ≡ false = sym before ∙ second in absurd (cc)

    moves_none : t.numbers.items ≡ 6 ∷ 8 ∷ [] → IsPut s 1 8 t → ⊥
    moves_none is h = by (h 0 (put_at 0 refl))
      where
        by : (◌≡◌ {A = ℕ} 0 1 × (value t.numbers.items 0 ≡ 8)) ⊎ ((is_done s 0 ≡ true) × (value t.numbers.items 0 ≡ value s.numbers.items 0)) → ⊥
        by (inl (here, same)) = omega (arith, here)
        by (inr (before, same)) =
            let no : 6 ≡ 5 = sym (ap (λ ns. value ns 0) is) ∙ same ∙ ap (λ ns. value ns 0) numbers in
            omega (arith, no)
