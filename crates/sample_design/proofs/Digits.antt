-- Digits are the same in lower case.
use Rattle.std.specs.Prelude.{◌≡◌, ℕ, zero, suc, ◌+◌, ◌<◌, refl}
use Rattle.std.proofs.Common.{arith}
use Rattle.std.specs.Char.{to_ascii_lowercase}

-- a digit is no capital letter
pub low_digit : (d : ℕ) → d < 10 → to_ascii_lowercase (48 + d) ≡ 48 + d
low_digit zero h = refl
low_digit (suc zero) h = refl
low_digit (suc (suc zero)) h = refl
low_digit (suc (suc (suc zero))) h = refl
low_digit (suc (suc (suc (suc zero)))) h = refl
low_digit (suc (suc (suc (suc (suc zero))))) h = refl
low_digit (suc (suc (suc (suc (suc (suc zero)))))) h = refl
low_digit (suc (suc (suc (suc (suc (suc (suc zero))))))) h = refl
low_digit (suc (suc (suc (suc (suc (suc (suc (suc zero)))))))) h = refl
low_digit (suc (suc (suc (suc (suc (suc (suc (suc (suc zero))))))))) h = refl
low_digit (suc (suc (suc (suc (suc (suc (suc (suc (suc (suc d)))))))))) h = absurd (omega (arith, h))

pub ruleset digit_steps = (low_digit)
