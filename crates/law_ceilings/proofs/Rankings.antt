-- Where nodes lead to each other in no ring they have ranks that fall along each step: the lengths of their longest ways.
use Rattle.std.specs.Prelude.{◌≡◌, ◌<◌, ◌==◌, ◌||◌, nat_lt, ℕ, zero, suc, Bool, true, false, max, List, [], ◌∷◌, filter, length, Option, Some}
use Rattle.std.specs.Prelude.{None, refl}
use Rattle.std.specs.List.{list_any}
use Rattle.std.proofs.Common.{sym, ap, ap₂, subst, arith, inl, inr}
use Rattle.std.proofs.lemmas.Option.{none-some, same_Some}
use Rattle.seq_tree.specs.Rings.{LeadsTo, IsOnRing}
use Rattle.law_lists.proofs.Shared.Lists.{IsIn, in-filter, filter-in}
use Rattle.law_lists.proofs.Shared.Depths.{Step, IsDeep, deep-all, settles}

-- the nodes below a number
abbrev below : ℕ → List ℕ
below zero = []
below (suc n) = n ∷ below n

length-below : (n : ℕ) → length (below n) ≡ n
length-below zero = refl
length-below (suc n) = ap suc (length-below n)

in-below : (n x : ℕ) → x < n → IsIn x (below n)
in-below zero x less = absurd (omega arith)
in-below (suc n) x less = by (n == x) refl (in-below n x)
  where
    by : (b : Bool) → (n == x) ≡ b → (x < n → IsIn x (below n)) → IsIn x (n ∷ below n)
    by true e more = inl (let same : n ≡ x = grind arith in same)
    by false e more = inr (more (let other : x < n = grind arith in other))

among-below : (n x : ℕ) → x < n → list_any (λ z. x == z) (below n) ≡ true
among-below zero x less = absurd (omega arith)
among-below (suc n) x less = by (x == n) refl (among-below n x)
  where
    by : (b : Bool) → (x == n) ≡ b → (x < n → list_any (λ z. x == z) (below n) ≡ true) → (b || list_any (λ z. x == z) (below n)) ≡ true
    by true e more = refl
    by false e more = more (let other : x < n = grind arith in other)

-- one more than the greatest of these nodes' numbers
abbrev highest : (ℕ → ℕ) → List ℕ → ℕ
highest f [] = 0
highest f (x ∷ xs) = max (suc (f x)) (highest f xs)

highest-at : (f : ℕ → ℕ) (x : ℕ) (xs : List ℕ) → IsIn x xs → f x < highest f xs
highest-at f x [] h = absurd h
highest-at f x (z ∷ xs) (inl same) = let is : f z ≡ f x = ap f same in omega (arith, is)
highest-at f x (z ∷ xs) (inr h) = let more = highest-at f x xs h in omega (arith, more)

highest-same : (f g : ℕ → ℕ) (xs : List ℕ) → ((x : ℕ) → IsIn x xs → f x ≡ g x) → highest f xs ≡ highest g xs
highest-same f g [] same = refl
highest-same f g (x ∷ xs) same = ap₂ (λ m n. max (suc m) n) (same x (inl refl)) (highest-same f g xs (λ z h. same z (inr h)))

module _ (leads : ℕ → ℕ → Bool) (n : ℕ) where
  -- the nodes below the number that a node leads to
  abbrev next_by : Bool → ℕ → Option (List ℕ)
  next_by true x = Some (filter (leads x) (below n))
  next_by false x = None

  abbrev next : ℕ → Option (List ℕ)
  next x = next_by (nat_lt x n) x

  abbrev height_by : (ℕ → ℕ) → Option (List ℕ) → ℕ
  height_by f None = 0
  height_by f (Some zs) = highest f zs

  -- the length of the longest way of at most so many steps
  abbrev height : ℕ → ℕ → ℕ
  height zero x = 0
  height (suc k) x = height_by (height k) (next x)

  abbrev pub rank : ℕ → ℕ
  rank x = height n x

  step-leads : (x z : ℕ) → Step next x z → leads x z ≡ true
  step-leads x z step = by (nat_lt x n) step.1
    where
      by : (b : Bool) → next_by b x ≡ Some step.0 → leads x z ≡ true
      by true e = (in-filter (leads x) z (below n) (subst (IsIn z) (sym (same_Some (filter (leads x) (below n)) step.0 e)) step.2)).1
      by false e = absurd (none-some step.0 e)

  way-leads : (path : List ℕ) (x z : ℕ) → LeadsTo (Step next) x path z → LeadsTo (λ v w. leads v w ≡ true) x path z
  way-leads [] x z way = step-leads x z way
  way-leads (via ∷ path) x z way = (step-leads x via way.0, way-leads path via z way.1)

  module _ (no_ring : (x : ℕ) → IsOnRing (λ v w. leads v w ≡ true) x → ⊥) where
    deep : (x : ℕ) → IsDeep next n x
    deep x = subst (λ m. IsDeep next m x) (length-below n)
        (deep-all next (λ v w. v == w) (λ v w e. (let same : v ≡ w = grind arith in same)) (λ v. (let same : (v == v) ≡ true = grind arith
        in same)) (below n) there
        (λ v ring. no_ring v (ring.0, way-leads ring.0 v v ring.1)) x)
      where
        there : (v : ℕ) (cs : List ℕ) → next v ≡ Some cs → list_any (λ w. v == w) (below n) ≡ true
        there v cs e = by (nat_lt v n) refl e
          where
            by : (b : Bool) → nat_lt v n ≡ b → next_by b v ≡ Some cs → list_any (λ w. v == w) (below n) ≡ true
            by true less h = among-below n v (let is : v < n = grind arith in is)
            by false less h = absurd (none-some cs h)

    pub rank-falls : (x z : ℕ) → x < n → z < n → leads x z ≡ true → rank z < rank x
    rank-falls x z less less' e =
        let is : rank x ≡ height_by rank (next x)
        = settles next (λ f v. height_by f (next v)) height (λ k v. refl) local (λ f v h. ap (height_by f) h) n x (deep x) in
        let here : height_by rank (next x) ≡ highest rank (filter (leads x) (below n))
        = ap (λ b. height_by rank (next_by b x)) (let h : nat_lt x n ≡ true = grind arith in h) in
        let up = highest-at rank z (filter (leads x) (below n)) (filter-in (leads x) z (below n) (in-below n z less') e) in
        omega (arith, is, here, up)
      where
        local : (f g : ℕ → ℕ) (v : ℕ) → ((w : ℕ) → Step next v w → f w ≡ g w) → height_by f (next v) ≡ height_by g (next v)
        local f g v same = by (next v) refl
          where
            by : (o : Option (List ℕ)) → next v ≡ o → height_by f o ≡ height_by g o
            by None h = refl
            by (Some zs) h = highest-same f g zs (λ w among. same w (zs, h, among))
