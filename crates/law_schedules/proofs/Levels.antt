-- The ticks that a level uses: by its activations one by one, and row by row.
use Rattle.std.specs.Prelude.{◌≡◌, ℕ, zero, suc, ◌+◌, ◌*◌, ◌≤◌, ◌==◌, Bool, true, false, not, List, [], ◌∷◌, ◌++◌, length, filter, sum_by}
use Rattle.std.specs.Prelude.{slice_get, Option, Some, None, nat_le, cond, refl}
use Rattle.std.specs.Int.{div_ceil}
use Rattle.std.proofs.Common.{arith, zero-le, add-le-add, mul-le-mul_right, eq-eqb}
use Rattle.std.proofs.lemmas.List.Sums.{sum_by-cons}
use Rattle.rt_response.specs.Response.{Entry, interference}
use Rattle.law_schedules.specs.Schedules.{Activation, is_by, is_low, is_of_level}
use Rattle.law_schedules.proofs.Ticks.{one, used}
use Rattle.law_schedules.proofs.Sums.{when, sum_of, sum_from, sum_from-at}

-- the number of ticks that pass a test
abbrev pub passing : (Option ℕ → Bool) → List (Option ℕ) → ℕ
passing test [] = 0
passing test (o ∷ ticks) = one (test o) + passing test ticks

-- ticks pass a test or don't
pub passing-or : (test : Option ℕ → Bool) (ticks : List (Option ℕ)) → passing test ticks + length (filter (λ t. not (test t)) ticks) ≡ length ticks
passing-or test [] = refl
passing-or test (o ∷ ticks) =
    go (test o) (passing test ticks) (filter (λ t. not (test t)) ticks) (passing-or test ticks)
  where
    go : (b : Bool) (n : ℕ) (xs : List (Option ℕ)) → n + length xs ≡ length ticks → one b + n + length (cond (not b) (o ∷ xs) xs) ≡ suc (length ticks)
    go true n xs h = omega arith
    go false n xs h = omega arith

-- what an activation of a level uses
abbrev pub level_used : ℕ → List (Option ℕ) → ℕ → Activation → ℕ
level_used i ticks k a = when (nat_le a.row i) (used k ticks)

level_tick : (i : ℕ) (acts : List Activation) (o : Option ℕ)
    → one (is_of_level acts i o) ≤ sum_from 0 (λ k a. when (nat_le a.row i) (one (is_by k o))) acts
level_tick i acts None = zero-le
level_tick i acts (Some user) =
    go (slice_get acts user) refl
  where
    low : (a : Activation) → slice_get acts user ≡ Some a → (b : Bool) → nat_le a.row i ≡ b
        → one b ≤ sum_from 0 (λ k c. when (nat_le c.row i) (one (is_by k (Some user)))) acts
    low a h false e = zero-le
    low a h true e =
        let part = sum_from-at (λ k c. when (nat_le c.row i) (one (is_by k (Some user)))) acts 0 user user a (omega arith) h in
        let is : (user == user) ≡ true = eq-eqb user user refl in
        rw (e, is) at part

    go : (found : Option Activation) → slice_get acts user ≡ found
        → one (is_low i found) ≤ sum_from 0 (λ k a. when (nat_le a.row i) (one (is_by k (Some user)))) acts
    go None h = zero-le
    go (Some a) h = low a h (nat_le a.row i) refl

when-add : (b : Bool) (m n : ℕ) → when b (m + n) ≡ when b m + when b n
when-add true m n = refl
when-add false m n = refl

level_used-cons : (i m : ℕ) (o : Option ℕ) (ticks : List (Option ℕ)) (acts : List Activation)
    → sum_from m (level_used i (o ∷ ticks)) acts ≡ sum_from m (λ k a. when (nat_le a.row i) (one (is_by k o))) acts
    + sum_from m (level_used i ticks) acts
level_used-cons i m o ticks [] = refl
level_used-cons i m o ticks (a ∷ acts) =
    omega (arith, level_used-cons i (suc m) o ticks acts, when-add (nat_le a.row i) (one (is_by m o)) (used m ticks))

-- the ticks that a level uses are those that its activations use
pub level-ticks : (i : ℕ) (acts : List Activation) (ticks : List (Option ℕ))
    → passing (is_of_level acts i) ticks ≤ sum_from 0 (level_used i ticks) acts
level-ticks i acts [] = zero-le
level-ticks i acts (o ∷ ticks) =
    let first : one (is_of_level acts i o) ≤ sum_from 0 (λ k a. when (nat_le a.row i) (one (is_by k o))) acts = level_tick i acts o in
    let rest : passing (is_of_level acts i) ticks ≤ sum_from 0 (level_used i ticks) acts = level-ticks i acts ticks in
    omega (arith, level_used-cons i 0 o ticks acts)

-- the cost of an entry, where there is one
abbrev pub cost_at : Option Entry → ℕ
cost_at None = 0
cost_at (Some e) = e.0.cost

-- the cost of so many activations of each entry, by its place
abbrev pub work : (ℕ → ℕ) → ℕ → List Entry → ℕ
work count m [] = 0
work count m (e ∷ es) = count m * e.0.cost + work count (suc m) es

work-add : (c d : ℕ → ℕ) (m : ℕ) (es : List Entry) → work (λ q. c q + d q) m es ≡ work c m es + work d m es
work-add c d m [] = refl
work-add c d m (e ∷ es) = omega (arith, work-add c d (suc m) es)

work-at : (es : List Entry) (m j k : ℕ) → k ≡ m + j → cost_at (slice_get es j) ≤ work (λ q. one (k == q)) m es
work-at [] m j k h = zero-le
work-at (e ∷ es) m zero k h =
    let same : k ≡ m = omega arith in
    let is : (k == m) ≡ true = eq-eqb k m same in
    rw is (omega arith)
work-at (e ∷ es) m (suc j) k h =
    let rest : cost_at (slice_get es j) ≤ work (λ q. one (k == q)) (suc m) es = work-at es (suc m) j k (omega arith) in
    omega arith

-- an activation's cost, where it is selected
abbrev pub selected_cost : (Activation → Bool) → List Entry → Activation → ℕ
selected_cost sel es a = when (sel a) (cost_at (slice_get es a.row))

-- the number of selected activations of a row
abbrev pub selected : (Activation → Bool) → List Activation → ℕ → ℕ
selected sel acts q = sum_of (λ a. when (sel a) (one (a.row == q))) acts

selected_work : (b : Bool) (es : List Entry) (row : ℕ) → when b (cost_at (slice_get es row)) ≤ work (λ q. when b (one (row == q))) 0 es
selected_work true es row = work-at es 0 row row (omega arith)
selected_work false es row = zero-le

-- costs one by one are costs row by row
pub row_by_row : (sel : Activation → Bool) (es : List Entry) (acts : List Activation)
    → sum_of (selected_cost sel es) acts ≤ work (selected sel acts) 0 es
row_by_row sel es [] = zero-le
row_by_row sel es (a ∷ acts) =
    let first : when (sel a) (cost_at (slice_get es a.row)) ≤ work (λ q. when (sel a) (one (a.row == q))) 0 es = selected_work (sel a) es a.row in
    let rest : sum_of (selected_cost sel es) acts ≤ work (selected sel acts) 0 es = row_by_row sel es acts in
    omega (arith, work-add (λ q. when (sel a) (one (a.row == q))) (selected sel acts) 0 es)

-- the work of some entries and one more
pub work-more : (count : ℕ → ℕ) (m n : ℕ) (es : List Entry) (e : Entry) → n ≡ m + length es
    → work count m (es ++ e ∷ []) ≡ work count m es + count n * e.0.cost
work-more count m n [] e h = let same : n ≡ m = omega arith in rw same (omega arith)
work-more count m n (f ∷ es) e h = omega (arith, work-more count (suc m) n es e (omega arith))

-- where each row has as many activations as the equations allow, its work is what they allow
pub work-within : (count : ℕ → ℕ) (w m : ℕ) (es : List Entry) → ((j k : ℕ) (e : Entry) → k ≡ m + j → slice_get es j ≡ Some e
    → count k ≤ div_ceil (w + e.1.jitter) e.0.period)
    → work count m es ≤ sum_by (interference w) es
work-within count w m [] h = zero-le
work-within count w m (e ∷ es) h =
    let first : count m * e.0.cost ≤ interference w e = mul-le-mul_right e.0.cost (h 0 m e (omega arith) refl) in
    let rest : work count (suc m) es ≤ sum_by (interference w) es
    = work-within count w (suc m) es (λ j k f same is. h (suc j) k f (omega arith) is) in
    rw sum_by-cons (add-le-add first rest)
