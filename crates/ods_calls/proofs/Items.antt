-- Items of lists that are made from others.
use Rattle.std.proofs.Common.{◌≡◌, ◌<◌, ℕ, zero, suc, length, get_or, arith, Bool, true, false, List, [], ◌∷◌, ◌++◌, map, filter, filter_map}
use Rattle.std.proofs.Common.{flat_map, Option, Some, None, refl, sym, ap}
use Rattle.std.proofs.Common.{subst, ◌∙◌, inl, inr, ◌⊎◌, if◌then◌else◌}
use Rattle.std.specs.List.{list_any, cons_option}
use Rattle.std.proofs.lemmas.Bool.{or_cases, or_left, or_right}

-- an item of a list
abbrev pub In : {A : Type 0} → A → List A → Type 0
In a [] = ⊥
In a (b ∷ bs) = (b ≡ a) ⊎ In a bs

pub in-left : {A : Type 0} (a : A) (xs ys : List A) → In a xs → In a (xs ++ ys)
in-left a [] ys h = absurd h
in-left a (x ∷ xs) ys (inl e) = inl e
in-left a (x ∷ xs) ys (inr h) = inr (in-left a xs ys h)

pub in-right : {A : Type 0} (a : A) (xs ys : List A) → In a ys → In a (xs ++ ys)
in-right a [] ys h = h
in-right a (x ∷ xs) ys h = inr (in-right a xs ys h)

pub in-parts : {A : Type 0} (a : A) (xs ys : List A) → In a (xs ++ ys) → In a xs ⊎ In a ys
in-parts a [] ys h = inr h
in-parts a (x ∷ xs) ys (inl e) = inl (inl e)
in-parts a (x ∷ xs) ys (inr h) = by (in-parts a xs ys h)
  where
    by : In a xs ⊎ In a ys → In a (x ∷ xs) ⊎ In a ys
    by (inl k) = inl (inr k)
    by (inr k) = inr k

pub in-flat : {A B : Type 0} (f : A → List B) (a : A) (b : B) (xs : List A) → In a xs → In b (f a) → In b (flat_map f xs)
in-flat f a b [] h k = absurd h
in-flat {A} f a b (x ∷ xs) (inl e) k = let P : A → Type 0 = λ z. In b (f z) in in-left b (f x) (flat_map f xs) (subst P (sym e) k)
in-flat f a b (x ∷ xs) (inr h) k = in-right b (f x) (flat_map f xs) (in-flat f a b xs h k)

pub from-flat : {A B : Type 0} (f : A → List B) (b : B) (xs : List A) → In b (flat_map f xs) → (a : A) × In a xs × In b (f a)
from-flat f b [] h = absurd h
from-flat {A} f b (x ∷ xs) h = by (from-flat f b xs) (in-parts b (f x) (flat_map f xs) h)
  where
    by : (In b (flat_map f xs) → (a : A) × In a xs × In b (f a)) → In b (f x) ⊎ In b (flat_map f xs) → (a : A) × In a (x ∷ xs) × In b (f a)
    by rest (inl k) = (x, inl refl, k)
    by rest (inr k) = let r = rest k in (r.0, inr r.1, r.2)

pub in-map : {A B : Type 0} (f : A → B) (a : A) (xs : List A) → In a xs → In (f a) (map f xs)
in-map f a [] h = absurd h
in-map f a (x ∷ xs) (inl e) = inl (ap f e)
in-map f a (x ∷ xs) (inr h) = inr (in-map f a xs h)

pub from-map : {A B : Type 0} (f : A → B) (b : B) (xs : List A) → In b (map f xs) → (a : A) × In a xs × (f a ≡ b)
from-map f b [] h = absurd h
from-map f b (x ∷ xs) (inl e) = (x, inl refl, e)
from-map f b (x ∷ xs) (inr h) = let r = from-map f b xs h in (r.0, inr r.1, r.2)

pub in-filter : {A : Type 0} (p : A → Bool) (a : A) (xs : List A) → In a xs → p a ≡ true → In a (filter p xs)
in-filter p a [] h e = absurd h
in-filter {A} p a (x ∷ xs) h e = by (λ k. in-filter p a xs k e) (p x) refl h
  where
    by : (In a xs → In a (filter p xs)) → (t : Bool) → p x ≡ t → In a (x ∷ xs) → In a (if t then x ∷ filter p xs else filter p xs)
    by rest true k (inl s) = inl s
    by rest true k (inr j) = inr (rest j)
    by rest false k (inl s) = (let z : false ≡ true = sym k ∙ ap p s ∙ e in cc)
    by rest false k (inr j) = rest j

pub from-filter : {A : Type 0} (p : A → Bool) (a : A) (xs : List A) → In a (filter p xs) → In a xs × (p a ≡ true)
from-filter p a [] h = absurd h
from-filter {A} p a (x ∷ xs) h = by (from-filter p a xs) (p x) refl h
  where
    by : (In a (filter p xs) → In a xs × (p a ≡ true)) → (t : Bool) → p x ≡ t → In a (if t then x ∷ filter p xs else filter p xs)
        → In a (x ∷ xs) × (p a ≡ true)
    by rest true k (inl s) = (inl s, ap p (sym s) ∙ k)
    by rest true k (inr j) = let r = rest j in (inr r.0, r.1)
    by rest false k j = let r = rest j in (inr r.0, r.1)

pub in-taken : {A B : Type 0} (f : A → Option B) (a : A) (b : B) (xs : List A) → In a xs → f a ≡ Some b → In b (filter_map f xs)
in-taken f a b [] h e = absurd h
in-taken {A} {B} f a b (x ∷ xs) h e = by (λ k. in-taken f a b xs k e) (f x) refl h
  where
    by : (In a xs → In b (filter_map f xs)) → (o : Option B) → f x ≡ o → In a (x ∷ xs) → In b (cons_option o (filter_map f xs))
    by rest None k (inl s) = (let z : None ≡ Some b = sym k ∙ ap f s ∙ e in cc)
    by rest None k (inr j) = rest j
    by rest (Some c) k (inl s) = (let z : Some c ≡ Some b = sym k ∙ ap f s ∙ e in let y : c ≡ b = cc in inl y)
    by rest (Some c) k (inr j) = inr (rest j)

pub from-taken : {A B : Type 0} (f : A → Option B) (b : B) (xs : List A) → In b (filter_map f xs) → (a : A) × In a xs × (f a ≡ Some b)
from-taken f b [] h = absurd h
from-taken {A} {B} f b (x ∷ xs) h = by (from-taken f b xs) (f x) refl h
  where
    by : (In b (filter_map f xs) → (a : A) × In a xs × (f a ≡ Some b)) → (o : Option B) → f x ≡ o → In b (cons_option o (filter_map f xs))
        → (a : A) × In a (x ∷ xs) × (f a ≡ Some b)
    by rest None k j = let r = rest j in (r.0, inr r.1, r.2)
    by rest (Some c) k (inl s) = (x, inl refl, k ∙ ap Some s)
    by rest (Some c) k (inr j) = let r = rest j in (r.0, inr r.1, r.2)

pub any-in : {A : Type 0} (p : A → Bool) (a : A) (xs : List A) → In a xs → p a ≡ true → list_any p xs ≡ true
any-in p a [] h e = absurd h
any-in p a (x ∷ xs) (inl s) e = or_left (p x) (list_any p xs) (ap p s ∙ e)
any-in p a (x ∷ xs) (inr h) e = or_right (p x) (list_any p xs) (any-in p a xs h e)

pub some-in : {A : Type 0} (p : A → Bool) (xs : List A) → list_any p xs ≡ true → (a : A) × In a xs × (p a ≡ true)
some-in p [] h = cc
some-in {A} p (x ∷ xs) h = by (some-in p xs) (or_cases (p x) (list_any p xs) h)
  where
    by : (list_any p xs ≡ true → (a : A) × In a xs × (p a ≡ true)) → (p x ≡ true) ⊎ (list_any p xs ≡ true) → (a : A) × In a (x ∷ xs) × (p a ≡ true)
    by rest (inl k) = (x, inl refl, k)
    by rest (inr k) = let r = rest k in (r.0, inr r.1, r.2)

-- what stands at a place of a list
pub item-in : {A : Type 0} (xs : List A) (i : ℕ) (x : A) → i < length xs → x ≡ get_or xs i x → In x xs
item-in [] i x less at = absurd (omega (arith, less))
item-in (y ∷ xs) zero x less at = inl (sym at)
item-in (y ∷ xs) (suc i) x less at = inr (item-in xs i x (omega (arith, less)) at)
