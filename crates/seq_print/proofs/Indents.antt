-- The spaces that a line begins with, as the front of thirty spaces.
use Rattle.std.proofs.Common.{◌≡◌, ℕ, ◌*◌, ◌≤◌, take, min, replicate, ap, ◌∙◌, arith}
use Rattle.std.proofs.lemmas.List.{take-replicate}

pub indent : (level n : ℕ) → n ≡ min level 10 → take {A = ℕ} (3 * n) (replicate 30 32) ≡ replicate (min 30 (3 * level)) 32
indent level n e =
    let few : 3 * n ≤ 30 = grind arith in
    let count : 3 * n ≡ min 30 (3 * level) = grind arith in
    let front : take {A = ℕ} (3 * n) (replicate 30 32) ≡ replicate (3 * n) 32 = take-replicate (3 * n) 30 32 few in
    front ∙ ap (λ k. replicate k 32) count
