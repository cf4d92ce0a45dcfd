use Rattle.std.proofs.Common.{◌≡◌, ◌≤◌, map, drop}
use Rattle.seq_tree.specs.Trees.{block_of, statement_of, statements_of}
use Rattle.seq_cost.specs.Counting.{weights_of}
use Rattle.seq_cost.specs.Over.{most}
use Rattle.seq_cost.proofs.Tallies.{tally}
use Rattle.seq_cost.proofs.ticks.cost_by.Given as goal

-- the sum so far and the statements that are left tell what the whole block does
abbrev pub invariant-stmts : goal.invariant-stmts
invariant-stmts g l =
    (tally (weights_of g.A.Account.counts l.counted) l.statement l.total (statements_of (map statement_of (drop l.stmt-index l.stmt-items)))
    ≡ tally (weights_of g.A.Account.counts l.counted) 0 0 (block_of l.block))
    × (l.total ≤ most) × (l.statement ≡ l.stmt-index)
