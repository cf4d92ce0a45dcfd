-- Numbers one after another: a test that passes all of them passes each, and what stands for them between two bounds.
use Rattle.std.proofs.Common.{◌≡◌, ℕ, zero, suc, ◌+◌, ◌-◌, ◌<◌, ◌≤◌, Bool, true, ◌⊎◌, inl, inr, ap, subst, arith}
use Rattle.std.specs.List.{list_all}
use Rattle.std.proofs.lemmas.Bool.{and_parts, cases_lt}
use Rattle.seq_tree.specs.Lists.{Each}
use Rattle.sample_design.specs.Samples.{from_on, from_to}

pub checked : (test : ℕ → Bool) (first count n : ℕ) → list_all test (from_on first count) ≡ true → first ≤ n → n < first + count → test n ≡ true
checked test first zero n all low high = absurd (omega (arith, low, high))
checked test first (suc count) n all low high
    = by (cases_lt first n) (λ more less. checked test (suc first) count n (and_parts (test first) _ all).1 more less)
  where
    by : (first < n) ⊎ (n ≤ first) → (suc first ≤ n → n < suc first + count → test n ≡ true) → test n ≡ true
    by (inl less) rest = rest less (omega (arith, high))
    by (inr most) rest = let same : first ≡ n = omega (arith, low, most) in subst (λ m. test m ≡ true) same (and_parts (test first) _ all).0

-- the numbers below one more than a number
pub from_to-all : (first n : ℕ) → from_to first (first + n) ≡ from_on first n
unfolding from_to
from_to-all first n = let same : first + n - first ≡ n = omega arith in ap (λ count. from_on first count) same

-- what stands for all numbers between two bounds
pub each-between : (P : ℕ → Type 0) (first end : ℕ) → ((k : ℕ) → first ≤ k → k < end → P k) → Each P (from_to first end)
unfolding from_to
each-between P first end h = by first (end - first) (omega arith) (omega arith)
  where
    by : (from count : ℕ) → first ≤ from → count ≤ end - from → Each P (from_on from count)
    by from zero low high = tt
    by from (suc count) low high = (h from low (omega (arith, high)), by (suc from) count (omega (arith, low)) (omega (arith, high)))
