-- Numbers of many digits: how they grow digit by digit.
use Rattle.std.specs.Prelude.{◌≡◌, ◌↔◌, ℕ, zero, suc, ◌+◌, ◌*◌, ◌≤◌, ◌<◌, List, [], ◌∷◌, ◌++◌, length, take, drop, set, get_or}
use Rattle.std.specs.Prelude.{nat_lt, Bool, true, false, refl}
use Rattle.std.specs.Prelude.{◌-◌, ◌/◌, ◌%◌}
use Rattle.std.proofs.Common.{sym, ◌∙◌, ap, subst, arith, add-one, add-zero, length-take, ◌⊎◌, inl, inr}
use Rattle.std.proofs.Math.Nat.{mul-le-mul_left, mul-le-mul_right}
use Rattle.std.proofs.Math.Seq.{take-suc, take-suc-set}
use Rattle.std.proofs.lemmas.List.{drop-set-lt, get_or-drop}
use Rattle.rt_response.specs.declared.rows.ThreadRow.{ThreadRow}
use Rattle.rt_response.specs.Tables.{Each, IsRow}
use Rattle.late_response.specs.Limbs.{value, room}

pub room-zero : room 0 ≡ 1
unfolding room
room-zero = refl

pub room-suc : (n : ℕ) → room (suc n) ≡ 4294967296 * room n
unfolding room
room-suc n = refl

pub room-positive : (n : ℕ) → 1 ≤ room n
room-positive zero = omega (arith, room-zero)
room-positive (suc n) = omega (arith, room-suc n, room-positive n)

pub room-mono : (i d : ℕ) → room i ≤ room (d + i)
room-mono i zero = omega (arith, ap room (let same : i ≡ 0 + i = omega arith in same))
room-mono i (suc d) =
    let same : room (suc d + i) ≡ room (suc (d + i)) = ap room (omega arith) in
    omega (arith, same, room-suc (d + i), room-mono i d)

-- one digit more
value-snoc : (xs : List ℕ) (d : ℕ) → value (xs ++ d ∷ []) ≡ value xs + room (length xs) * d
value-snoc [] d = omega (arith, ap (λ r. r * d) room-zero)
value-snoc (x ∷ xs) d =
    let more = value-snoc xs d in
    let grown = ap (λ r. r * d) (room-suc (length xs)) in
    omega (arith, more, grown)

pub value-next : (xs : List ℕ) (i d : ℕ) → i < length xs → value (take (i + 1) xs) ≡ value (take i xs) + room i * get_or xs i d
value-next xs i d h =
    let few : length (take i xs) ≡ i = omega (arith, length-take i xs) in
    ap (λ k. value (take k xs)) (add-one i) ∙ ap value (take-suc xs i d h) ∙ value-snoc (take i xs) (get_or xs i d)
    ∙ ap (λ n. value (take i xs) + room n * get_or xs i d) few

pub value-put : (xs : List ℕ) (i y : ℕ) → i < length xs → value (take (i + 1) (set xs i y)) ≡ value (take i xs) + room i * y
value-put xs i y h =
    let few : length (take i xs) ≡ i = omega (arith, length-take i xs) in
    ap (λ k. value (take k (set xs i y))) (add-one i) ∙ ap value (take-suc-set xs i y h) ∙ value-snoc (take i xs) y
    ∙ ap (λ n. value (take i xs) + room n * y) few

pub value-below : (xs : List ℕ) (i : ℕ) → ((k : ℕ) → get_or xs k 0 < 4294967296) → value (take i xs) < room i
value-below xs zero h = omega (arith, room-zero)
value-below [] (suc i) h = omega (arith, room-positive (suc i))
value-below (x ∷ xs) (suc i) h =
    let more : value (take i xs) < room i = value-below xs i (λ k. h (suc k)) in
    let first : x < 4294967296 = h 0 in
    omega (arith, room-suc i)

-- a multiple of all digits so far, with what is carried
pub turn : (v r s c a b o p by times y carry : ℕ) → v + r * c ≡ a * by + b * times → o * by + p * times + c ≡ 4294967296 * carry + y
    → s ≡ 4294967296 * r → v + r * y + s * carry ≡ (a + r * o) * by + (b + r * p) * times
turn v r s c a b o p by times y carry h k e =
    let each = ap (λ z. r * z) k in
    let grown = ap (λ z. z * carry) e in
    omega (arith, h, each, grown)

pub carry-small : (o p by times c : ℕ) → o < 4294967296 → p < 4294967296 → by ≤ 1000000000 → times ≤ 1000000000 → c ≤ 2000000000
    → (o * by + p * times + c) / 4294967296 ≤ 2000000000
carry-small o p by times c ho hp hb ht hc =
    let most : o ≤ 4294967295 = omega arith in
    let other : p ≤ 4294967295 = omega arith in
    let first : o * by ≤ 4294967295 * by = mul-le-mul_right by most in
    let second : p * times ≤ 4294967295 * times = mul-le-mul_right times other in
    omega arith

-- nothing is carried past the room
pub carried : (v r c sum : ℕ) → v + r * c ≡ sum → sum < r → v ≡ sum
carried v r zero sum h less = omega arith
carried v r (suc c) sum h less = absurd (omega arith)

pub drop-next : {A : Type 0} (v : List A) (i : ℕ) → drop (suc i) v ≡ drop 1 (drop i v)
drop-next v zero = refl
drop-next [] (suc i) = refl
drop-next (x ∷ v) (suc i) = drop-next v i

pub left-next : {A : Type 0} (xs old : List A) (i : ℕ) (y : A) → drop i xs ≡ drop i old → drop (i + 1) (set xs i y) ≡ drop (i + 1) old
left-next xs old i y h =
    let less : i < i + 1 = omega arith in
    drop-set-lt (i + 1) xs i y less ∙ rw add-one (drop-next xs i ∙ ap (λ v. drop 1 v) h ∙ sym (drop-next old i))

pub left-here : (xs old : List ℕ) (i : ℕ) → drop i xs ≡ drop i old → get_or xs i 0 ≡ get_or old i 0
left-here xs old i h =
    let mine : get_or (drop i xs) 0 0 ≡ get_or xs i 0 = get_or-drop i xs 0 0 ∙ ap (λ n. get_or xs n 0) (add-zero i) in
    let other : get_or (drop i old) 0 0 ≡ get_or old i 0 = get_or-drop i old 0 0 ∙ ap (λ n. get_or old n 0) (add-zero i) in
    sym mine ∙ ap (λ v. get_or v 0 0) h ∙ other

-- a digit more decides, or leaves it as it was
pub decided : (v w r a b : ℕ) (before after : Bool) → v < r → w < r → (before ≡ true) ↔ (v ≤ w)
    → (after ≡ true) ↔ ((a < b) ⊎ ((a ≡ b) × (before ≡ true))) → (after ≡ true) ↔ (v + r * a ≤ w + r * b)
decided v w r a b before after hv hw was now = (λ h. to (now.0 h), λ h. now.1 (from h))
  where
    to : ((a < b) ⊎ ((a ≡ b) × (before ≡ true))) → v + r * a ≤ w + r * b
    to (inl less) =
        let up : r * (a + 1) ≤ r * b = mul-le-mul_left r (omega arith) in
        omega arith
    to (inr same) = let less : v ≤ w = was.0 same.1 in omega (arith, ap (λ z. r * z) same.0)

    from : v + r * a ≤ w + r * b → (a < b) ⊎ ((a ≡ b) × (before ≡ true))
    from h = go (nat_lt a b) (nat_lt b a) refl refl
      where
        go : (p q : Bool) → nat_lt a b ≡ p → nat_lt b a ≡ q → (a < b) ⊎ ((a ≡ b) × (before ≡ true))
        go true q e f = inl (grind arith)
        go false true e f =
            let less : b < a = grind arith in
            let up : r * (b + 1) ≤ r * a = mul-le-mul_left r (omega arith) in
            absurd (omega arith)
        go false false e f =
            let same : a ≡ b = grind arith in
            inr (same, was.1 (omega (arith, h, ap (λ z. r * z) same)))

-- SUMS OF FRACTIONS
-- 32 digits have room for 30 rows, and more
room-more : (done : ℕ) → done ≤ 30 → room (suc done) ≤ room 32
room-more done few =
    let same : 31 - done + suc done ≡ 32 = omega arith in
    subst (λ n. room (suc done) ≤ room n) same (room-mono (suc done) (31 - done))

-- the room that one row more takes
pub fits-over : (over under p r done : ℕ) → p ≤ 1000000000 → r ≤ 1000000000 → over + under ≤ room done → done ≤ 30
    → over * p + under * r < room 32
fits-over over under p r done hp hr h few =
    let first : over * p ≤ over * 1000000000 = mul-le-mul_left over hp in
    let second : under * r ≤ under * 1000000000 = mul-le-mul_left under hr in
    let up = room-more done few in
    omega (arith, room-suc done, room-positive done)

pub fits-next-alone : (over under p done : ℕ) → p ≤ 1000000000 → over + under ≤ room done → done ≤ 30 → under * p + 0 < room 32
fits-next-alone over under p done hp h few =
    let both = fits-over over under 0 p done (omega arith) hp h few in
    omega (arith, both)

pub fits-next : (over under p r done : ℕ) → p ≤ 1000000000 → r ≤ 1000000000 → over + under ≤ room done
    → over * p + under * r + under * p ≤ room (done + 1)
fits-next over under p r done hp hr h =
    let first : over * p ≤ over * 1000000000 = mul-le-mul_left over hp in
    let second : under * r ≤ under * 1000000000 = mul-le-mul_left under hr in
    let third : under * p ≤ under * 1000000000 = mul-le-mul_left under hp in
    rw add-one (omega (arith, room-suc done))

pub fits-end : (n done : ℕ) → n ≤ room done → done ≤ 30 → n < room 32
fits-end n done h few =
    let up = room-more done few in
    omega (arith, room-suc done, room-positive done)

-- the parts of a sum stay those of its thousandfold
pub sum-next : (whole under over f p cost q r : ℕ) → whole * under + over ≡ 1000 * f → q * p + r ≡ 1000 * cost
    → (whole + q) * (under * p) + (over * p + under * r) ≡ 1000 * (f * p + under * cost)
sum-next whole under over f p cost q r h k =
    let first = ap (λ z. z * p) h in
    let second = ap (λ z. under * z) k in
    omega (arith, first, second)

pub few-next : (over under p r done : ℕ) → over ≤ done * under → r ≤ p → over * p + under * r ≤ (done + 1) * (under * p)
few-next over under p r done h k =
    let first : over * p ≤ done * under * p = mul-le-mul_right p h in
    let second : under * r ≤ under * p = mul-le-mul_left under k in
    omega arith

-- the first of some rows, and the others
pub each-first : (n : ℕ) (rows more : List ThreadRow) (row : ThreadRow) → Each (IsRow n) rows → rows ≡ row ∷ more → IsRow n row × Each (IsRow n) more
each-first n rows more row h e = subst (λ l. Each (IsRow n) l) e h

pub row-period : (n : ℕ) (row : ThreadRow) → IsRow n row → (1 ≤ row.period) × (row.period ≤ 1000000000)
row-period n row h =
    let asks : 1 ≤ row.deadline = h.asks in
    let before : row.deadline ≤ row.period = h.before_next in
    (omega arith, h.period)

pub rest-small : (a p : ℕ) → 1 ≤ p → a % p ≤ p
rest-small a p h = omega arith

pub rest-whole : (a p : ℕ) → 1 ≤ p → a / p * p + a % p ≡ a
rest-whole a p h = omega arith

pub quotient-small : (a p : ℕ) → 1 ≤ p → a / p ≤ a
quotient-small a p h =
    let up : a / p * 1 ≤ a / p * p = mul-le-mul_left (a / p) h in
    omega (arith, rest-whole a p h)

pub product-positive : (a b : ℕ) → 1 ≤ a → 1 ≤ b → 1 ≤ a * b
product-positive a b h k = let up : a * 1 ≤ a * b = mul-le-mul_left a k in omega arith
