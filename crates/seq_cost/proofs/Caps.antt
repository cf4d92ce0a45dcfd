-- Sums, products and greatest values that are cut at a limit stand for the whole ones: cutting the parts changes nothing.
use Rattle.std.proofs.Common.{◌≡◌, ℕ, zero, suc, ◌+◌, ◌*◌, ◌≤◌, ◌⊎◌, inl, inr, arith, refl, ap, ◌∙◌}
use Rattle.std.specs.Prelude.{List, [], ◌∷◌, min, max}
use Rattle.seq_tree.specs.Expressions.{Expression}
use Rattle.seq_tree.specs.Statements.{Statements, Branches}
use Rattle.seq_tree.specs.Dearest.{Weights, dearest, dearest_branch}
use Rattle.seq_tree.specs.Trees.{branches_of}
use Rattle.seq_cost.specs.Counting.{arms_weight}
use Rattle.std.proofs.Math.Nat.{min-eq_left, min-eq_right}

pub cap-add : (limit a b : ℕ) → min limit (a + min limit b) ≡ min limit (a + b)
cap-add limit a b = grind arith

pub cap-sum : (limit a b c : ℕ) → min limit (min limit (a + min limit b) + c) ≡ min limit (a + (b + c))
cap-sum limit a b c = grind arith

cap-over : (limit turns x : ℕ) → limit ≤ x → min limit (turns * limit) ≡ min limit (turns * x)
cap-over limit zero x h = grind arith
cap-over limit (suc turns) x h = grind arith

cap-product : (limit turns x : ℕ) → (x ≤ limit) ⊎ (limit ≤ x) → min limit (turns * min limit x) ≡ min limit (turns * x)
cap-product limit turns x (inl h) = rw (min-eq_right h) refl
cap-product limit turns x (inr h) = rw (min-eq_left h) (cap-over limit turns x h)

either : (a b : ℕ) → (a ≤ b) ⊎ (b ≤ a)
either a b = grind arith

pub cap-turns : (limit turns a b : ℕ) → min limit (turns * min limit (a + min limit b)) ≡ min limit (turns * (a + b))
cap-turns limit turns a b = rw (cap-add limit a b) (cap-product limit turns (a + b) (either (a + b) limit))

pub cap-branch : (limit greatest tested test block others : ℕ) →
    min limit (max (max greatest (min limit (tested + test) + min limit block)) (min limit (tested + test) + others))
    ≡ min limit (max greatest (tested + (test + max block others)))
cap-branch limit greatest tested test block others = grind arith

cap-test : (limit test block n m : ℕ) → min limit n ≡ min limit m → min limit (test + max block n) ≡ min limit (test + max block m)
cap-test limit test block n m h = grind (arith, h)

-- what follows the arms, cut
cap-arms : (limit : ℕ) (w : Weights) (arms : List (Expression × Statements)) (n : ℕ)
    → min limit (arms_weight w arms (min limit n)) ≡ min limit (arms_weight w arms n)
cap-arms limit w [] n = grind arith
cap-arms limit w (arm ∷ arms) n = cap-test limit w.costs.test (dearest w arm.1) (arms_weight w arms (min limit n)) (arms_weight w arms n)
    (cap-arms limit w arms n)

arms-branches : (w : Weights) (arms : List (Expression × Statements)) (others : Branches)
    → arms_weight w arms (dearest_branch w others) ≡ dearest_branch w (branches_of arms others)
arms-branches w [] others = refl
arms-branches w (arm ∷ arms) others = rw (arms-branches w arms others) refl

-- the arms, with what follows them cut, are the branches
pub cap-branches : (limit : ℕ) (w : Weights) (arms : List (Expression × Statements)) (others : Branches) →
    min limit (arms_weight w arms (min limit (dearest_branch w others))) ≡ min limit (dearest_branch w (branches_of arms others))
cap-branches limit w arms others = cap-arms limit w arms (dearest_branch w others) ∙ ap (min limit) (arms-branches w arms others)

pub ruleset cap_laws = (cap-add, cap-sum, cap-turns, cap-branch, cap-branches)
