-- Numbers that are worked out callees first are those of calls that are followed as deep as there were turns, or deeper.
use Rattle.std.proofs.Common.{◌≡◌, ◌≤◌, ◌<◌, ◌⊎◌, inl, inr, ℕ, zero, suc, ◌+◌, Bool, true, false, ◌&&◌, List, [], ◌∷◌, length, map, get_or}
use Rattle.std.proofs.Common.{refl, sym, ap, ◌∙◌, arith, max}
use Rattle.std.specs.Prelude.{fold}
use Rattle.std.specs.List.{list_all}
use Rattle.std.proofs.lemmas.List.{ext_get_or, get_or-map}
use Rattle.call_graph.specs.Numbers.{greatest_of, value}
use Rattle.call_graph.specs.Settled.{Agrees, AgreesFrom, HasPlaces, IsPut, is_done}
use Rattle.call_graph.specs.declared.settled.Settled.{Settled}

-- lists that are made again and again by one step
module _ (step : List ℕ → List ℕ) (made : ℕ → List ℕ) (next : (d : ℕ) → made (suc d) ≡ step (made d)) where
  -- a turn that works out nothing
  pub from-later : (from : ℕ) (s : Settled) → AgreesFrom from made s → AgreesFrom (from + 1) made s
  from-later from s agrees depth deep = agrees depth (omega (arith, deep))

  -- and one that works out a place, of numbers that agree
  pub from-put : (from place n : ℕ) (s t : Settled) → ((xs : List ℕ) → Agrees s xs → n ≡ value (step xs) place) → IsPut s place n t
      → AgreesFrom from made s
      → AgreesFrom (from + 1) made t
  from-put from place n s t is put agrees zero deep p done = absurd (omega (arith, deep))
  from-put from place n s t is put agrees (suc depth) deep p done = by (put p done)
    where
      by : ((p ≡ place) × (value t.numbers.items p ≡ n)) ⊎ ((is_done s p ≡ true) × (value t.numbers.items p ≡ value s.numbers.items p))
          → value t.numbers.items p ≡ value (made (suc depth)) p
      by (inl (here, same)) = same ∙ is (made depth) (agrees depth (omega (arith, deep))) ∙ ap (λ xs. value xs place) (sym (next depth))
          ∙ ap (value (made (suc depth))) (sym here)
      by (inr (before, same)) = same ∙ agrees (suc depth) (omega (arith, deep)) p before

-- what is made of the element at a place
pub mapped-at : {A B : Type 0} (f : A → B) (vs : List A) (p : ℕ) (v : A) (d : B) → p < length vs → v ≡ get_or vs p v → get_or (map f vs) p d ≡ f v
mapped-at f vs p v d less at = get_or-map f vs p v d less ∙ ap f (sym at)

all-at : (marks : List Bool) (p : ℕ) → list_all (λ b. b) marks ≡ true → p < length marks → get_or marks p false ≡ true
all-at [] p all less = absurd (omega (arith, less))
all-at (true ∷ marks) zero all less = refl
all-at (true ∷ marks) (suc p) all less = all-at marks p all (omega (arith, less))
all-at (false ∷ marks) p all less = absurd (cc)

-- numbers that are all worked out are those of a list that they agree with
pub whole-agrees : (s : Settled) (count : ℕ) (xs : List ℕ) → HasPlaces count s → list_all (λ b. b) s.done.items ≡ true → length xs ≡ count
    → Agrees s xs → s.numbers.items ≡ xs
whole-agrees s count xs many all long agrees =
    ext_get_or 0 s.numbers.items xs (many.0 ∙ sym long)
    (λ p less. agrees p (all-at s.done.items p all (omega (arith, less, many.0, many.1))))

-- the greatest of numbers at places that are worked out
pub greatest-agrees : (s : Settled) (xs : List ℕ) (own : ℕ) (places : List ℕ) → Agrees s xs → list_all (is_done s) places ≡ true
    → greatest_of s.numbers.items own places ≡ greatest_of xs own places
greatest-agrees s xs own [] agrees all = refl
greatest-agrees s xs own (p ∷ ps) agrees all =
    by (is_done s p) refl all (greatest-agrees s xs (max own (value xs p)) ps agrees)
  where
    by : (b : Bool) → is_done s p ≡ b → (b && list_all (is_done s) ps) ≡ true
        → (list_all (is_done s) ps ≡ true
        → greatest_of s.numbers.items (max own (value xs p)) ps ≡ greatest_of xs (max own (value xs p)) ps)
        → fold max (max own (value s.numbers.items p)) (map (value s.numbers.items) ps) ≡ fold max (max own (value xs p)) (map (value xs) ps)
    by true e later others = ap (λ n. fold max (max own n) (map (value s.numbers.items) ps)) (agrees p e) ∙ others later
    by false e later others = absurd (cc)
