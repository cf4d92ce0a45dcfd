-- Lists that are made of changed things as they were made of the things themselves.
use Rattle.std.proofs.Common.{◌≡◌, ℕ, Bool, true, false, ◌||◌, List, [], ◌∷◌, ◌++◌, map, filter, flat_map, filter_map, length, refl, ap, ap₂, ◌∙◌}
use Rattle.std.proofs.Common.{Option, Some, None, slice_get, zero, suc}
use Rattle.std.specs.List.{cons_option, list_any}
use Rattle.std.proofs.lemmas.List.{length-map}
use Rattle.law_scaling.proofs.Shared.Designs.{filter-map}

pub filter_map-moved : {A B : Type 0} (h k : A → Option B) (g : A → A) (xs : List A) → ((x : A) → h (g x) ≡ k x)
    → filter_map h (map g xs) ≡ filter_map k xs
filter_map-moved h k g [] same = refl
filter_map-moved h k g (x ∷ xs) same = ap₂ cons_option (same x) (filter_map-moved h k g xs same)

pub flat_map-moved : {A B : Type 0} (f k : A → List B) (g : A → A) (xs : List A) → ((x : A) → f (g x) ≡ k x)
    → flat_map f (map g xs) ≡ flat_map k xs
flat_map-moved f k g [] same = refl
flat_map-moved f k g (x ∷ xs) same = ap₂ (λ ys zs. ys ++ zs) (same x) (flat_map-moved f k g xs same)

pub flat_map-each : {A B : Type 0} (f k : A → List B) (xs : List A) → ((x : A) → f x ≡ k x) → flat_map f xs ≡ flat_map k xs
flat_map-each f k [] same = refl
flat_map-each f k (x ∷ xs) same = ap₂ (λ ys zs. ys ++ zs) (same x) (flat_map-each f k xs same)

pub map-each : {A B : Type 0} (f k : A → B) (xs : List A) → ((x : A) → f x ≡ k x) → map f xs ≡ map k xs
map-each f k [] same = refl
map-each f k (x ∷ xs) same = ap₂ (λ y ys. y ∷ ys) (same x) (map-each f k xs same)

pub any-each : {A : Type 0} (p q : A → Bool) (xs : List A) → ((x : A) → p x ≡ q x) → list_any p xs ≡ list_any q xs
any-each p q [] same = refl
any-each p q (x ∷ xs) same = ap₂ (λ a b. a || b) (same x) (any-each p q xs same)

pub filter-each : {A : Type 0} (p q : A → Bool) (xs : List A) → ((x : A) → p x ≡ q x) → filter p xs ≡ filter q xs
filter-each p q [] same = refl
filter-each {A} p q (x ∷ xs) same = rw (same x, filter-each p q xs same) refl

pub count-moved : {A : Type 0} (p q : A → Bool) (g : A → A) (xs : List A) → ((x : A) → p (g x) ≡ q x)
    → length (filter p (map g xs)) ≡ length (filter q xs)
count-moved p q g xs same = ap length (filter-map p q g xs same) ∙ length-map (filter q xs) g

-- what stands at a place of changed things is one of the things, changed
pub moved-at : {A B : Type 0} (g : A → B) (xs : List A) (place : ℕ) (b : B) → slice_get (map g xs) place ≡ Some b
    → (a : A) × (slice_get xs place ≡ Some a) × (b ≡ g a)
moved-at g [] place b e = cc
moved-at g (x ∷ xs) zero b e = (x, refl, cc)
moved-at g (x ∷ xs) (suc place) b e = moved-at g xs place b e
