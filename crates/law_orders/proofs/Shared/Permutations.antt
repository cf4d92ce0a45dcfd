-- Different places below a number, as many as that, are all places below it in some order.
use Rattle.std.specs.Prelude.{◌≡◌, ◌⊎◌, ℕ, zero, suc, ◌+◌, ◌≤◌, ◌<◌, true, false, List, [], ◌∷◌, ◌++◌, length, slice_get}
use Rattle.std.specs.Prelude.{Some, refl}
use Rattle.std.specs.List.{range_with_len, remove}
use Rattle.std.specs.List.Sorted.{IsPermutation}
use Rattle.std.proofs.Common.{sym, ◌∙◌, ap, subst, arith, inl, inr}
use Rattle.std.proofs.lemmas.Bool.{cases_Bool, cases_eq, both_ways}
use Rattle.std.proofs.lemmas.List.Edits.{length-remove}
use Rattle.std.proofs.lemmas.List.Sorted.{IsPermutation-refl, IsPermutation-sym, IsPermutation-cons, IsPermutation-to_front, IsPermutation-remove}
use Rattle.std.proofs.lemmas.List.Sorted.{IsPermutation-trans}
use Rattle.std.proofs.lemmas.Option.{slice_get_within, get_or_from_slice_get}
use Rattle.law_orders.specs.Orders.{has_place}
use Rattle.law_orders.proofs.Shared.OrderPlaces.{AtOnce, place-stands, stands-place}

-- the places that stay where one is taken out
abbrev pub skip : ℕ → ℕ → ℕ
skip zero j = suc j
skip (suc i) zero = zero
skip (suc i) (suc j) = suc (skip i j)

pub skip-differs : (i j : ℕ) → skip i j ≡ i → ⊥
skip-differs zero j e = omega (arith, e)
skip-differs (suc i) zero e = omega (arith, e)
skip-differs (suc i) (suc j) e = skip-differs i j (omega (arith, e))

pub skip-once : (i j k : ℕ) → skip i j ≡ skip i k → j ≡ k
skip-once zero j k e = omega (arith, e)
skip-once (suc i) zero zero e = refl
skip-once (suc i) zero (suc k) e = absurd (omega (arith, e))
skip-once (suc i) (suc j) zero e = absurd (omega (arith, e))
skip-once (suc i) (suc j) (suc k) e = ap suc (skip-once i j k (omega (arith, e)))

pub remove-at : {A : Type 0} (xs : List A) (i j : ℕ) → slice_get (remove xs i) j ≡ slice_get xs (skip i j)
remove-at [] zero j = refl
remove-at [] (suc i) j = refl
remove-at (x ∷ xs) zero j = refl
remove-at (x ∷ xs) (suc i) zero = refl
remove-at (x ∷ xs) (suc i) (suc j) = remove-at xs i j

remove-once : (xs : List ℕ) (i : ℕ) → AtOnce xs → AtOnce (remove xs i)
remove-once xs i once j k p e g =
    skip-once i j k (once (skip i j) (skip i k) p (sym (remove-at xs i j) ∙ e) (sym (remove-at xs i k) ∙ g))

-- places below a number
abbrev pub Within : ℕ → List ℕ → Type 0
Within n xs = (i x : ℕ) → slice_get xs i ≡ Some x → x < n

remove-within : (n i : ℕ) (xs : List ℕ) → AtOnce xs → Within (suc n) xs → slice_get xs i ≡ Some n → Within n (remove xs i)
remove-within n i xs once within at j x e = by (cases_eq x n)
  where
    there : slice_get xs (skip i j) ≡ Some x
    there = sym (remove-at xs i j) ∙ e

    by : (x ≡ n) ⊎ (x ≡ n → ⊥) → x < n
    by (inl same) = absurd (skip-differs i j (once (skip i j) i n (there ∙ ap Some same) at))
    by (inr other) = let less = within (skip i j) x there in omega (arith, less, other)

without-within : (n : ℕ) (xs : List ℕ) → has_place xs n ≡ false → Within (suc n) xs → Within n xs
without-within n xs none within i x e =
    let less = within i x e in
    let other : x ≡ n → ⊥ = λ same. both_ways (has_place xs n) none (stands-place xs i n (e ∙ ap Some same)) in
    omega (arith, less, other)

few : (n : ℕ) (xs : List ℕ) → AtOnce xs → Within n xs → length xs ≤ n
few zero [] once within = omega arith
few zero (x ∷ xs) once within = absurd (let less = within 0 x refl in omega (arith, less))
few (suc n) xs once within =
    by (cases_Bool (has_place xs n)) (λ i at. few n (remove xs i) (remove-once xs i once) (remove-within n i xs once within at))
    (λ none. few n xs once (without-within n xs none within))
  where
    by : (has_place xs n ≡ true) ⊎ (has_place xs n ≡ false) → ((i : ℕ) → slice_get xs i ≡ Some n → length (remove xs i) ≤ n)
        → (has_place xs n ≡ false → length xs ≤ n) → length xs ≤ suc n
    by (inl there) more less =
        let i = place-stands xs n there in
        let inside = slice_get_within xs i.0 n i.1 in
        let long = length-remove xs i.0 inside in
        let rest = more i.0 i.1 in
        omega (arith, long, rest)
    by (inr none) more less = let rest = less none in omega (arith, rest)

range-last : (m n : ℕ) → range_with_len m (suc n) ≡ range_with_len m n ++ (m + n) ∷ []
range-last m zero = let z : m ≡ m + 0 = omega arith in ap (λ k. k ∷ []) z
range-last m (suc n) = let z : m + 1 + n ≡ m + suc n = omega arith in ap (λ ks. m ∷ ks) (range-last (m + 1) n ∙ ap (λ k. range_with_len (m + 1) n ++ k ∷ []) z)

-- different places below a number, as many as that
pub permutation-from : (n : ℕ) (xs : List ℕ) → AtOnce xs → Within n xs → length xs ≡ n → IsPermutation (range_with_len 0 n) xs
permutation-from zero [] once within long = IsPermutation-refl []
permutation-from zero (x ∷ xs) once within long = absurd (omega (arith, long))
permutation-from (suc n) xs once within long =
    by (cases_Bool (has_place xs n)) (λ i at less. permutation-from n (remove xs i) (remove-once xs i once) (remove-within n i xs once within at) less)
  where
    by : (has_place xs n ≡ true) ⊎ (has_place xs n ≡ false)
        → ((i : ℕ) → slice_get xs i ≡ Some n → length (remove xs i) ≡ n → IsPermutation (range_with_len 0 n) (remove xs i))
        → IsPermutation (range_with_len 0 (suc n)) xs
    by (inr none) more = absurd (let most = few n xs once (without-within n xs none within) in omega (arith, most, long))
    by (inl there) more =
        let i = place-stands xs n there in
        let inside = slice_get_within xs i.0 n i.1 in
        let less : length (remove xs i.0) ≡ n = (let q = length-remove xs i.0 inside in omega (arith, q, long)) in
        let taken = IsPermutation-remove xs i.0 n inside (sym (get_or_from_slice_get xs i.0 n n i.1)) in
        let rest = IsPermutation-cons n (range_with_len 0 n) (remove xs i.0) (more i.0 i.1 less) in
        let z : 0 + n ≡ n = omega arith in
        let front : range_with_len 0 (suc n) ≡ range_with_len 0 n ++ n ∷ [] = range-last 0 n ∙ ap (λ k. range_with_len 0 n ++ k ∷ []) z in
        let start : IsPermutation (range_with_len 0 (suc n)) (n ∷ range_with_len 0 n) =
        subst (λ ks. IsPermutation ks (n ∷ range_with_len 0 n)) (sym front) (IsPermutation-to_front (range_with_len 0 n) n) in
        IsPermutation-trans (range_with_len 0 (suc n)) (n ∷ range_with_len 0 n) xs start
        (IsPermutation-trans (n ∷ range_with_len 0 n) (n ∷ remove xs i.0) xs rest (IsPermutation-sym xs (n ∷ remove xs i.0) taken))
