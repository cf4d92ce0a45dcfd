-- Where nodes lead to each other in no ring, they go no deeper than there are nodes.
use Rattle.std.specs.Prelude.{◌≡◌, ◌≤◌, ◌<◌, ◌+◌, ◌||◌, ℕ, zero, suc, Bool, true, false, List, [], ◌∷◌, length, Option, Some, None}
use Rattle.std.specs.Prelude.{if◌then◌else◌, refl}
use Rattle.std.specs.List.{list_any}
use Rattle.std.proofs.Common.{sym, ◌∙◌, ap, subst, arith}
use Rattle.std.proofs.lemmas.Bool.{false≢true}
use Rattle.seq_tree.specs.Lists.{Each}
use Rattle.seq_tree.specs.Rings.{LeadsTo, IsOnRing}
use Rattle.law_lists.proofs.Shared.Lists.{IsIn, each-in, each-is}

-- what each node leads to, where it leads on
module _ {A : Type 0} (next : A → Option (List A)) where
  -- a step
  abbrev pub Step : A → A → Type 0
  Step from to = (cs : List A) × (next from ≡ Some cs) × IsIn to cs

  -- a node from which ways are at most so deep
  abbrev pub IsDeep : ℕ → A → Type 0
  IsDeep zero c = next c ≡ None
  IsDeep (suc n) c = (cs : List A) → next c ≡ Some cs → Each (IsDeep n) cs

  pub way-short : (n : ℕ) (path : List A) (from to : A) → IsDeep n from → LeadsTo Step from path to → length path < n
  way-short zero path from to deep way = absurd (none (first path way))
    where
      first : (q : List A) → LeadsTo Step from q to → (cs : List A) × (next from ≡ Some cs)
      first [] w = (w.0, w.1)
      first (via ∷ q) w = (w.0.0, w.0.1)

      none : ((cs : List A) × (next from ≡ Some cs)) → ⊥
      none h = let z : None ≡ Some h.0 = sym deep ∙ h.1 in cc
  way-short (suc n) [] from to deep way = omega arith
  way-short (suc n) (via ∷ path) from to deep way =
      let less = way-short n path via to (each-is (IsDeep n) way.0.0 via (deep way.0.0 way.0.1) way.0.2) way.1 in omega (arith, less)

  -- nodes that a test tells apart
  module _ (same : A → A → Bool) (is : (a b : A) → same a b ≡ true → a ≡ b) (self : (a : A) → same a a ≡ true) where
    abbrev is_among : List A → A → Bool
    is_among xs c = list_any (same c) xs

    -- how many nodes are not among those on the way
    abbrev left_over : List A → List A → ℕ
    left_over chain [] = 0
    left_over chain (c ∷ cs) = (if is_among chain c then 0 else 1) + left_over chain cs

    left-all : (nodes : List A) → left_over [] nodes ≤ length nodes
    left-all [] = omega arith
    left-all (c ∷ cs) = let h = left-all cs in omega (arith, h)

    one-less : (chain : List A) (c d : A) → (if is_among (c ∷ chain) d then 0 else 1) ≤ (if is_among chain d then 0 else 1)
    one-less chain c d = by (same d c) (is_among chain d)
      where
        by : (a b : Bool) → (if a || b then 0 else 1) ≤ (if b then 0 else 1)
        by true true = omega arith
        by true false = omega arith
        by false b = omega arith

    all-less : (chain : List A) (c : A) (nodes : List A) → left_over (c ∷ chain) nodes ≤ left_over chain nodes
    all-less chain c [] = omega arith
    all-less chain c (d ∷ nodes) = let one = one-less chain c d in let more = all-less chain c nodes in omega (arith, one, more)

    -- one fewer is left once a node is on the way
    taken : (chain : List A) (c : A) (nodes : List A) → is_among chain c ≡ false → is_among nodes c ≡ true
        → left_over (c ∷ chain) nodes + 1 ≤ left_over chain nodes
    taken chain c [] out there = absurd (false≢true there)
    taken chain c (d ∷ nodes) out there = by (same c d) refl there (taken chain c nodes out)
      where
        by : (b : Bool) → same c d ≡ b → (b || is_among nodes c) ≡ true
            → (is_among nodes c ≡ true → left_over (c ∷ chain) nodes + 1 ≤ left_over chain nodes)
            → left_over (c ∷ chain) (d ∷ nodes) + 1 ≤ left_over chain (d ∷ nodes)
        by true e h more =
            let one : c ≡ d = is c d e in
            let mine : same d c ≡ true = ap (λ x. same d x) one ∙ self d in
            let now : (if is_among (c ∷ chain) d then 0 else 1) ≡ 0 = ap (λ a. let k : ℕ = if a || is_among chain d then 0 else 1 in k) mine in
            let before : (if is_among chain d then 0 else 1) ≡ 1 = ap (λ a. let k : ℕ = if a then 0 else 1
            in k) (ap (is_among chain) (sym one) ∙ out) in
            let rest = all-less chain c nodes in
            omega (arith, now, before, rest)
        by false e h more = let one = one-less chain c d in let rest = more h in omega (arith, one, rest)

    module _ (nodes : List A) (there : (c : A) (cs : List A) → next c ≡ Some cs → is_among nodes c ≡ true)
        (no_ring : (c : A) → IsOnRing Step c → ⊥) where
      -- a node that is none of those on the way and leads to none of them
      abbrev IsClear : List A → A → Type 0
      IsClear chain c = (is_among chain c ≡ false) × ((path : List A) (to : A) → LeadsTo Step c path to → is_among chain to ≡ false)

      clear-next : (chain : List A) (c d : A) → IsClear chain c → Step c d → IsClear (c ∷ chain) d
      clear-next chain c d clear step = (
        both d (λ one. no_ring c ([], subst (Step c) one step)) (clear.1 [] d step),
        λ path to way. both to (λ one. no_ring c (d ∷ path, (step, subst (λ x. LeadsTo Step d path x) one way))) (clear.1 (d ∷ path) to (step, way)),
      )
        where
          both : (x : A) → (x ≡ c → ⊥) → is_among chain x ≡ false → is_among (c ∷ chain) x ≡ false
          both x other out = by (same x c) refl
            where
              by : (b : Bool) → same x c ≡ b → (b || is_among chain x) ≡ false
              by true h = absurd (other (is x c h))
              by false h = out

      deep-from : (n : ℕ) (chain : List A) (c : A) → IsClear chain c → left_over chain nodes ≤ n → IsDeep n c
      deep-from zero chain c clear few = by (next c) refl
        where
          by : (o : Option (List A)) → next c ≡ o → next c ≡ None
          by None e = e
          by (Some cs) e = let less = taken chain c nodes clear.0 (there c cs e) in absurd (omega (arith, less, few))
      deep-from (suc n) chain c clear few = λ cs has. each-in (IsDeep n) cs (λ d among.
          deep-from n (c ∷ chain) d (clear-next chain c d clear (cs, has, among)) (let less = taken chain c nodes clear.0 (there c cs has)
          in omega (arith, less, few)))

      -- no node is deeper than there are nodes
      pub deep-all : (c : A) → IsDeep (length nodes) c
      deep-all c = deep-from (length nodes) [] c (refl, λ path to way. refl) (left-all nodes)

  -- what is worked out by going so many steps from a node, from what it is for the nodes that it leads to
  module _ {X : Type 0} (value : (A → X) → A → X) (within : ℕ → A → X) (steps : (n : ℕ) (c : A) → within (suc n) c ≡ value (within n) c)
      (local : (f g : A → X) (c : A) → ((d : A) → Step c d → f d ≡ g d) → value f c ≡ value g c)
      (last : (f : A → X) (c : A) → next c ≡ None → value f c ≡ within 0 c) where
    -- from its depth on it stays as it is
    pub settled : (n k : ℕ) (c : A) → n ≤ k → IsDeep n c → within k c ≡ within n c
    settled zero zero c less deep = refl
    settled zero (suc k) c less deep = steps k c ∙ last (within k) c deep
    settled (suc n) zero c less deep = absurd (omega (arith, less))
    settled (suc n) (suc k) c less deep =
        steps k c ∙ local (within k) (within n) c (λ d step. settled n k d (omega (arith, less))
        (each-is (IsDeep n) step.0 d (deep step.0 step.1) step.2)) ∙ sym (steps n c)

    -- and is what comes from the nodes that it leads to
    pub settles : (n : ℕ) (c : A) → IsDeep n c → within n c ≡ value (within n) c
    settles n c deep = sym (settled n (suc n) c (omega arith) deep) ∙ steps n c
