-- Blocks that are too dear: which statement of a block brings the sum of ticks over the most that a block may cost.
-- Statements are counted from 0; the sum of the first so many statements is the cost of the block that they make.
use Rattle.std.specs.Prelude.{ℕ, zero, suc, ◌<◌, ◌≤◌, nat_lt, Option, Some, None, if◌then◌else◌}
use Rattle.seq_tree.specs.Limits.{tick_limit}
use Rattle.seq_tree.specs.Names.{Name}
use Rattle.seq_tree.specs.Statements.{Statements, End, Then}
use Rattle.seq_tree.specs.Dearest.{cost}
use Rattle.seq_tree.specs.declared.tree.Costs.{Costs}

-- the most that a block may cost, in ticks
abbrev pub most : ℕ
most = tick_limit

-- these ticks, where they are at most that
abbrev pub within_most : ℕ → Option ℕ
within_most ticks = if nat_lt most ticks then None else Some ticks

-- the first so many statements of a block
abbrev pub front : ℕ → Statements → Statements
front zero b = End
front (suc count) End = End
front (suc count) (Then first rest) = Then first (front count rest)

-- whether the statement at this place is the first that brings the sum over the most
pub record BringsOver (costs : Costs) (called : Name → Name → ℕ) (b : Statements) (place : ℕ) : Type 0 where
  pub before : cost costs called (front place b) ≤ most
  pub with_it : most < cost costs called (front (suc place) b)
