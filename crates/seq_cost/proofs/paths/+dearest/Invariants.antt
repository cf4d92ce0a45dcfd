use Rattle.std.proofs.Common.{◌≡◌, ◌+◌, ◌≤◌, map, drop}
use Rattle.std.specs.Prelude.{min, max}
use Rattle.seq_tree.specs.Dearest.{dearest}
use Rattle.seq_tree.specs.Trees.{arm_of, block_of, statement_of, statements_of}
use Rattle.seq_cost.specs.Counting.{arms_weight, weights_of}
use Rattle.seq_cost.proofs.paths.+dearest.Given as goal

-- the sum so far and the statements that are left make the block
abbrev pub invariant-block_weight-stmts : goal.invariant-block_weight-stmts
invariant-block_weight-stmts g l =
    (min l.limit (l.total + dearest (weights_of g.A.Account.counts l.counted) (statements_of (map statement_of (drop l.stmt-index l.stmt-items))))
    ≡ min l.limit (dearest (weights_of g.A.Account.counts l.counted) (block_of l.block)))
    × (l.total ≤ l.limit)

-- the greatest so far, and the arms that are left after the conditions tested, make the arms
abbrev pub invariant-arms_weight-arms : goal.invariant-arms_weight-arms
invariant-arms_weight-arms g l =
    (min l.limit (max l.greatest (l.tested + arms_weight (weights_of g.A.Account.counts l.counted) (map arm_of (drop l.arm-index l.arms)) l.others))
    ≡ min l.limit (arms_weight (weights_of g.A.Account.counts l.counted) (map arm_of l.arms) l.others))
    × (l.tested ≤ l.limit) × (l.greatest ≤ l.limit + l.limit) × (l.test ≡ (weights_of g.A.Account.counts l.counted).costs.test)
