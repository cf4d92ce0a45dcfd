-- The ticks that an activation uses up to a time, and what they say of its end.
use Rattle.std.specs.Prelude.{◌≡◌, ℕ, zero, suc, ◌+◌, ◌≤◌, ◌<◌, Bool, true, false, List, [], ◌∷◌, length, take, drop, slice_get, Option}
use Rattle.std.specs.Prelude.{option_map, refl}
use Rattle.std.specs.List.{cons_option}
use Rattle.std.proofs.Common.{arith, zero-le}
use Rattle.rt_response.specs.Tables.{Each}
use Rattle.law_schedules.specs.Schedules.{is_by, only_if, ticks_from, is_over}

-- 1 for true
abbrev pub one : Bool → ℕ
one true = 1
one false = 0

-- the number of ticks that an activation uses
abbrev pub used : ℕ → List (Option ℕ) → ℕ
used k [] = 0
used k (o ∷ ticks) = one (is_by k o) + used k ticks

count_step : (by : Bool) (m : ℕ) (xs : List ℕ) (n : ℕ) → length xs ≡ n → length (cons_option (only_if by m) xs) ≡ one by + n
count_step true m xs n h = omega arith
count_step false m xs n h = omega arith

-- it is the length of their list
pub used-count : (m k : ℕ) (ticks : List (Option ℕ)) → length (ticks_from m k ticks) ≡ used k ticks
used-count m k [] = refl
used-count m k (o ∷ ticks) = count_step (is_by k o) m (ticks_from (m + 1) k ticks) (used k ticks) (used-count (m + 1) k ticks)

-- the end after the tick at a place
abbrev pub end_at : List ℕ → ℕ → Option ℕ
end_at xs c = option_map suc (slice_get xs c)

over_past_step : (by : Bool) (m n c : ℕ) (xs : List ℕ) → ((d : ℕ) → is_over (end_at xs d) n ≡ true → m + 1 < n)
    → is_over (end_at (cons_option (only_if by m) xs) c) n ≡ true → m < n
over_past_step true m n zero xs h e = grind arith
over_past_step true m n (suc c) xs h e = let later : m + 1 < n = h c e in omega arith
over_past_step false m n c xs h e = let later : m + 1 < n = h c e in omega arith

over-past : (m k c n : ℕ) (ticks : List (Option ℕ)) → is_over (end_at (ticks_from m k ticks) c) n ≡ true → m < n
over-past m k c n [] e = cc
over-past m k c n (o ∷ ticks) e = over_past_step (is_by k o) m n c (ticks_from (m + 1) k ticks) (λ d. over-past (m + 1) k d n ticks) e

over_used_step : (by : Bool) (m c u t : ℕ) (xs : List ℕ) → ((d : ℕ) → is_over (end_at xs d) t ≡ true → d < u)
    → is_over (end_at (cons_option (only_if by m) xs) c) t ≡ true → c < one by + u
over_used_step true m zero u t xs h e = omega arith
over_used_step true m (suc c) u t xs h e = let later : c < u = h c e in omega arith
over_used_step false m c u t xs h e = let later : c < u = h c e in omega arith

-- an end that is there by a time comes after ticks that are used by then
pub over-used : (m k c n t : ℕ) (ticks : List (Option ℕ)) → t ≡ m + n → is_over (end_at (ticks_from m k ticks) c) t ≡ true → c < used k (take n ticks)
over-used m k c n t [] h e = cc
over-used m k c zero t (o ∷ ticks) h e = let past : m < t = over-past m k c t (o ∷ ticks) e in absurd (omega arith)
over-used m k c (suc n) t (o ∷ ticks) h e =
    let same : t ≡ m + 1 + n = omega arith in
    over_used_step (is_by k o) m c (used k (take n ticks)) t (ticks_from (m + 1) k ticks) (λ d. over-used (m + 1) k d n t ticks same) e

used_over_step : (by : Bool) (m c u t : ℕ) (xs : List ℕ) → m < t → ((d : ℕ) → d < u → is_over (end_at xs d) t ≡ true) → c < one
    by + u → is_over (end_at (cons_option (only_if by m) xs) c) t ≡ true
used_over_step true m zero u t xs p h e = grind arith
used_over_step true m (suc c) u t xs p h e = h c (omega arith)
used_over_step false m c u t xs p h e = h c (omega arith)

-- where so many ticks are used by a time, the end is there
pub used-over : (m k c n t : ℕ) (ticks : List (Option ℕ)) → t ≡ m + n → c < used k (take n ticks) → is_over (end_at (ticks_from m k ticks) c) t ≡ true
used-over m k c zero t [] h e = absurd (omega arith)
used-over m k c (suc n) t [] h e = absurd (omega arith)
used-over m k c zero t (o ∷ ticks) h e = absurd (omega arith)
used-over m k c (suc n) t (o ∷ ticks) h e =
    let same : t ≡ m + 1 + n = omega arith in
    let past : m < t = omega arith in
    used_over_step (is_by k o) m c (used k (take n ticks)) t (ticks_from (m + 1) k ticks) past (λ d. used-over (m + 1) k d n t ticks same) e

before_step : (by : Bool) (m n r u : ℕ) (xs : List ℕ) → (Each (λ x. r ≤ x) xs → u ≡ 0) → Each (λ x. r ≤ x) (cons_option (only_if by m) xs)
    → m + suc n ≤ r → one by + u ≡ 0
before_step true m n r u xs h e p = let first : r ≤ m = e.0 in absurd (omega arith)
before_step false m n r u xs h e p = let none : u ≡ 0 = h e in omega arith

-- before a release no tick is used
pub used-before : (m k n r : ℕ) (ticks : List (Option ℕ)) → Each (λ x. r ≤ x) (ticks_from m k ticks) → m + n ≤ r → used k (take n ticks) ≡ 0
used-before m k zero r [] e p = refl
used-before m k (suc n) r [] e p = refl
used-before m k zero r (o ∷ ticks) e p = refl
used-before m k (suc n) r (o ∷ ticks) e p =
    let less : m + 1 + n ≤ r = omega arith in
    before_step (is_by k o) m n r (used k (take n ticks)) (ticks_from (m + 1) k ticks) (λ rest. used-before (m + 1) k n r ticks rest less) e p

-- the ticks of a window
pub used-window : (k t w n : ℕ) (ticks : List (Option ℕ)) → n ≡ t + w → used k (take t ticks) + used k (take w (drop t ticks)) ≡ used k (take n ticks)
used-window k zero zero zero [] h = refl
used-window k zero zero (suc n) ticks h = absurd (omega arith)
used-window k zero (suc w) zero ticks h = absurd (omega arith)
used-window k zero (suc w) (suc n) [] h = refl
used-window k zero zero zero (o ∷ ticks) h = refl
used-window k zero (suc w) (suc n) (o ∷ ticks) h = let same : n ≡ w = omega arith in rw same (omega arith)
used-window k (suc t) w zero ticks h = absurd (omega arith)
used-window k (suc t) zero (suc n) [] h = refl
used-window k (suc t) (suc w) (suc n) [] h = refl
used-window k (suc t) w (suc n) (o ∷ ticks) h =
    let rest : used k (take t ticks) + used k (take w (drop t ticks)) ≡ used k (take n ticks) = used-window k t w n ticks (omega arith) in
    omega arith

-- up to a time at most all ticks are used
pub used-front : (k n : ℕ) (ticks : List (Option ℕ)) → used k (take n ticks) ≤ used k ticks
used-front k zero [] = zero-le
used-front k zero (o ∷ ticks) = zero-le
used-front k (suc n) [] = zero-le
used-front k (suc n) (o ∷ ticks) = let rest : used k (take n ticks) ≤ used k ticks = used-front k n ticks in omega arith
