-- Lists that are made again and again by one step stay as they are once a step changes nothing.
use Rattle.std.proofs.Common.{◌≡◌, ℕ, zero, suc, ◌+◌, ◌-◌, ◌≤◌, List, refl, sym, ap, ◌∙◌, arith}

-- lists that are made again and again by one step
module _ (step : List ℕ → List ℕ) (made : ℕ → List ℕ) (next : (d : ℕ) → made (suc d) ≡ step (made d)) where
  stays : (d k n : ℕ) → n ≡ k + d → step (made d) ≡ made d → made n ≡ made d
  stays d zero n e h = let same : n ≡ d = omega (arith, e) in ap made same
  stays d (suc k) n e h =
      let same : n ≡ suc (k + d) = omega (arith, e) in
      ap made same ∙ (next (k + d) ∙ (ap step (stays d k (k + d) refl h) ∙ h))

  pub settled : (n d : ℕ) (now higher : List ℕ) → d ≤ n → now ≡ made d → higher ≡ step now → higher ≡ now → now ≡ made n
  settled n d now higher few is more same =
      let fixed : step (made d) ≡ made d = ap step (sym is) ∙ (sym more ∙ (same ∙ is)) in
      let all : n ≡ (n - d) + d = omega (arith, few) in
      is ∙ sym (stays d (n - d) n all fixed)
