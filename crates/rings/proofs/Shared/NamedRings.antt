-- Rings between named things are rings between the places of their names, where of those with one name the first counts.
use Rattle.std.proofs.Common.{◌≡◌, ℕ, Bool, true, List, [], ◌∷◌, slice_get, Option, Some, sym, subst, ◌∙◌}
use Rattle.seq_tree.specs.Rings.{LeadsTo, IsOnRing}
use Rattle.rings.specs.Reached.{Goes}

module _ {A : Type 0} (names : List A) (place : A → Option ℕ) (Step : A → A → Type 0) (step : ℕ → ℕ → Bool)
    (stands : (n : A) (p : ℕ) → place n ≡ Some p → slice_get names p ≡ Some n)
    (forth : (a c : A) (p q : ℕ) → Step a c → place a ≡ Some p → place c ≡ Some q → step p q ≡ true)
    (back : (p q : ℕ) → step p q ≡ true → (a c : A) × (place a ≡ Some p) × (place c ≡ Some q) × Step a c)
    (source : (a c : A) → Step a c → (p : ℕ) × (place a ≡ Some p))
  where
    -- along a path of names their places lead along a path
    pub places_lead : (path : List A) (a c : A) (p q : ℕ) → place a ≡ Some p → place c ≡ Some q → LeadsTo Step a path c
        → (steps : List ℕ) × LeadsTo (Goes step) p steps q
    places_lead [] a c p q e f h = ([], forth a c p q h e f)
    places_lead (via ∷ []) a c p q e f h =
        let v = source via c h.1 in (v.0 ∷ [], (forth a via p v.0 h.0 e v.1, forth via c v.0 q h.1 v.1 f))
    places_lead (via ∷ (next ∷ path)) a c p q e f h =
        let v = source via next h.1.0 in
        let r = places_lead (next ∷ path) via c v.0 q v.1 f h.1 in (v.0 ∷ r.0, (forth a via p v.0 h.0 e v.1, r.1))

    -- a name on a ring has its place on one
    pub ring_of_places : (a : A) (p : ℕ) → place a ≡ Some p → IsOnRing Step a → IsOnRing (Goes step) p
    ring_of_places a p e (path, h) = places_lead path a a p p e e h

    -- names with one place are one
    pub one_name : (a b : A) (p : ℕ) → place a ≡ Some p → place b ≡ Some p → a ≡ b
    one_name a b p e f = let z : Some a ≡ Some b = sym (stands a p e) ∙ stands b p f in cc

    -- along a path of places their names lead along a path
    pub names_lead : (steps : List ℕ) (p q : ℕ) → LeadsTo (Goes step) p steps q → (a c : A) × (place a ≡ Some p) × (place c ≡ Some q)
        × ((path : List A) × LeadsTo Step a path c)
    names_lead [] p q h = let r = back p q h in (r.0, r.1, r.2, r.3, ([], r.4))
    names_lead (v ∷ steps) p q h =
        let r = back p v h.0 in
        let s = names_lead steps v q h.1 in
        let P : A → Type 0 = λ z. LeadsTo Step z s.4.0 s.1 in
        (r.0, s.1, r.2, s.3, (r.1 ∷ s.4.0, (r.4, subst P (one_name s.0 r.1 v s.2 r.3) s.4.1)))

    -- a place on a ring is that of a name on one
    pub ring_of_names : (p : ℕ) → IsOnRing (Goes step) p → (a : A) × (place a ≡ Some p) × IsOnRing Step a
    ring_of_names p (steps, h) =
        let r = names_lead steps p p h in
        let P : A → Type 0 = λ z. LeadsTo Step r.0 r.4.0 z in
        (r.0, r.2, (r.4.0, subst P (one_name r.1 r.0 p r.3 r.2) r.4.1))
