-- Sums over the elements of a list, with or without their places.
use Rattle.std.specs.Prelude.{◌≡◌, ℕ, zero, suc, ◌+◌, ◌≤◌, ◌<◌, Bool, true, false, List, [], ◌∷◌, slice_get, Some, refl}
use Rattle.std.proofs.Common.{arith, zero-le, add-le-add}

-- a number where something is true
abbrev pub when : Bool → ℕ → ℕ
when true n = n
when false n = 0

-- the sum over all elements
abbrev pub sum_of : {A : Type 0} → (A → ℕ) → List A → ℕ
sum_of f [] = 0
sum_of f (x ∷ xs) = f x + sum_of f xs

-- the sum over all elements with their places, counted from here on
abbrev pub sum_from : {A : Type 0} → ℕ → (ℕ → A → ℕ) → List A → ℕ
sum_from m f [] = 0
sum_from m f (x ∷ xs) = f m x + sum_from (suc m) f xs

pub sum_of-le : {A : Type 0} (f g : A → ℕ) (xs : List A) → ((k : ℕ) (x : A) → slice_get xs k ≡ Some x → f x ≤ g x) → sum_of f xs ≤ sum_of g xs
sum_of-le f g [] h = zero-le
sum_of-le f g (x ∷ xs) h = add-le-add (h 0 x refl) (sum_of-le f g xs (λ k y e. h (suc k) y e))

-- an element's part is at most the sum
pub sum_from-at : {A : Type 0} (f : ℕ → A → ℕ) (xs : List A) (m j k : ℕ) (x : A) → k ≡ m + j → slice_get xs j ≡ Some x → f k x ≤ sum_from m f xs
sum_from-at f [] m j k x h e = cc
sum_from-at f (y ∷ xs) m zero k x h e =
    let same : k ≡ m = omega arith in
    let is : y ≡ x = cc in
    rw (same, ← is) (omega arith)
sum_from-at f (y ∷ xs) m (suc j) k x h e =
    let rest : f k x ≤ sum_from (suc m) f xs = sum_from-at f xs (suc m) j k x (omega arith) e in
    omega arith

-- a sum of smaller parts is smaller
pub sum_from-le : {A : Type 0} (f : ℕ → A → ℕ) (g : A → ℕ) (xs : List A) (m : ℕ)
    → ((j k : ℕ) (x : A) → k ≡ m + j → slice_get xs j ≡ Some x → f k x ≤ g x) → sum_from m f xs ≤ sum_of g xs
sum_from-le f g [] m h = zero-le
sum_from-le f g (x ∷ xs) m h = add-le-add (h 0 m x (omega arith) refl) (sum_from-le f g xs (suc m) (λ j k y e is. h (suc j) k y (omega arith) is))

-- and truly smaller where one part is
pub sum_from-lt : {A : Type 0} (f : ℕ → A → ℕ) (g : A → ℕ) (xs : List A) (m n : ℕ) (z : A)
    → ((j k : ℕ) (x : A) → k ≡ m + j → slice_get xs j ≡ Some x → f k x ≤ g x)
    → slice_get xs n ≡ Some z → f (m + n) z < g z → sum_from m f xs < sum_of g xs
sum_from-lt f g [] m n z h e less = cc
sum_from-lt f g (x ∷ xs) m zero z h e less =
    let is : x ≡ z = cc in
    let rest : sum_from (suc m) f xs ≤ sum_of g xs = sum_from-le f g xs (suc m) (λ j k y e is. h (suc j) k y (omega arith) is) in
    let same : m + 0 ≡ m = omega arith in
    let first : f m x < g x = rw (← same, is) less in
    omega arith
sum_from-lt f g (x ∷ xs) m (suc n) z h e less =
    let same : m + suc n ≡ suc m + n = omega arith in
    let part : f (suc m + n) z < g z = rw same at less in
    let rest : sum_from (suc m) f xs < sum_of g xs = sum_from-lt f g xs (suc m) n z (λ j k y e is. h (suc j) k y (omega arith) is) e part in
    let first : f m x ≤ g x = h 0 m x (omega arith) refl in
    omega arith
