-- The ticks that a walk of a block takes at most, whatever the script: a bound on `low` and `high` alike.
-- It is the cost of the dearest path (worst-case execution time by paths, Joseph and Pandya 1986), with nothing for the bodies of protected
-- operations; a `work` counts a tick at least.
use Rattle.std.specs.Prelude.{ℕ, zero, suc, ◌*◌, max}
use Rattle.seq_tree.specs.Names.{Name}
use Rattle.seq_tree.specs.Statements.{Statements}
use Rattle.seq_tree.specs.Dearest.{dearest}
use Rattle.seq_tree.specs.Runs.{Callee, Plain, Protected, Asked, Unknown}
use Rattle.seq_tree.specs.declared.tree.Costs.{Costs}

-- the ticks of a block, where a call takes at most so many besides CALL
abbrev pub block_ticks : Costs → (Name → Name → ℕ) → Statements → ℕ
block_ticks costs called b = dearest (record { costs = costs; work = max 1; called = called }) b

-- the ticks of a call besides CALL, with those of blocks
abbrev pub callee_ticks : Costs → (Statements → ℕ) → Callee → ℕ
callee_ticks costs ticks (Plain o) = ticks o.block
callee_ticks costs ticks (Protected params) = 0
callee_ticks costs ticks Asked = 2 * costs.assign
callee_ticks costs ticks Unknown = 0

-- the same by names, where passive operations call each other at most so deep
abbrev pub called_ticks : Costs → (Name → Name → Callee) → ℕ → Name → Name → ℕ
called_ticks costs calls zero object op = 0
called_ticks costs calls (suc depth) object op = callee_ticks costs (block_ticks costs (called_ticks costs calls depth)) (calls object op)

-- the ticks of a block, where passive operations call each other at most so deep
abbrev pub most_ticks : Costs → (Name → Name → Callee) → ℕ → Statements → ℕ
most_ticks costs calls depth b = block_ticks costs (called_ticks costs calls depth) b
