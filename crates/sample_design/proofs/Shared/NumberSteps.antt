-- The numbers from one on and below another, one after another.
use Rattle.std.proofs.Common.{◌≡◌, ℕ, zero, suc, ◌+◌, ◌-◌, ◌<◌, ◌≤◌, [], ◌∷◌, refl, ap, ◌∙◌, arith, append_assoc, append-nil}
use Rattle.std.proofs.lemmas.List.{map-append}
use Rattle.sample_design.specs.Samples.{from_on, from_to}

pub from_to-step : (first end : ℕ) → first < end → from_to first end ≡ first ∷ from_to (first + 1) end
unfolding from_to
from_to-step first end h = by (end - first) refl
  where
    by : (left : ℕ) → left ≡ end - first → from_on first left ≡ first ∷ from_on (first + 1) (end - (first + 1))
    by zero e = absurd (omega (arith, e, h))
    by (suc left) e =
        let next : suc first ≡ first + 1 = omega arith in
        let less : left ≡ end - (first + 1) = omega (arith, e, h) in
        ap (λ ks. first ∷ ks) (ap (λ k. from_on k left) next ∙ ap (λ count. from_on (first + 1) count) less)

pub from_to-none : (first end : ℕ) → end ≤ first → from_to first end ≡ []
unfolding from_to
from_to-none first end h = let none : end - first ≡ 0 = omega (arith, h) in ap (λ count. from_on first count) none

pub ruleset number_steps = (from_to-step, from_to-none, map-append, append_assoc, append-nil)
