use Rattle.std.proofs.Common.{◌≡◌, ◌+◌, ◌*◌, length, map}
use Rattle.seq_tree.specs.Trees.{arm_of, statement_of}
use Rattle.token_read.specs.Ahead.{ahead}
use Rattle.seq_read.specs.Names.{may_name}
use Rattle.seq_read.specs.Expressions.{expression_at}
use Rattle.seq_read.specs.Statements.{statement_at, block_at, if_at}
use Rattle.seq_read.proofs.BlockSteps.{arms_after, statements_after}
use Rattle.seq_read.proofs.statements.+nesting.Given as goal

-- each depth has room for the readers that call one another there
abbrev pub decreases-branching : goal.decreases-branching
decreases-branching l = 10 * l.deeper

abbrev pub decreases-looping : goal.decreases-looping
decreases-looping l = 10 * l.deeper

abbrev pub decreases-of_kind : goal.decreases-of_kind
decreases-of_kind l = 10 * l.deeper + 1

abbrev pub decreases-statement : goal.decreases-statement
decreases-statement l = 10 * l.deeper + 2

abbrev pub decreases-block : goal.decreases-block
decreases-block l = 10 * l.deeper + 3

abbrev pub decreases-guarded : goal.decreases-guarded
decreases-guarded l = 10 * l.deeper + 4

abbrev pub decreases-loop_behind : goal.decreases-loop_behind
decreases-loop_behind l = 10 * l.deeper + 4

abbrev pub decreases-other : goal.decreases-other
decreases-other l = 10 * l.deeper + 4

abbrev pub decreases-arm : goal.decreases-arm
decreases-arm l = 10 * l.deeper + 5

abbrev pub decreases-conditional : goal.decreases-conditional
decreases-conditional l = 10 * l.deeper + 6

-- the arms so far, and then what is left
abbrev pub invariant-conditional-arms : goal.invariant-conditional-arms
invariant-conditional-arms l =
    arms_after (expression_at (may_name l.fn.text) 32 l.fn.deeper) (block_at (may_name l.fn.text) 32 l.fn.deeper) (map arm_of l.arms.items)
    (ahead l.rest)
    ≡ if_at (expression_at (may_name l.fn.text) 32 l.fn.deeper) (block_at (may_name l.fn.text) 32 l.fn.deeper) (ahead l.fn.tokens)

abbrev pub decreases-conditional-arms : goal.decreases-conditional-arms
decreases-conditional-arms l = length (ahead l.rest)

-- the statements so far, and then those of what is left
abbrev pub invariant-block-stmts : goal.invariant-block-stmts
invariant-block-stmts l =
    statements_after (may_name l.fn.text) (statement_at (may_name l.fn.text) 32 l.fn.deeper) (map statement_of l.stmts.items) (ahead l.rest)
    ≡ block_at (may_name l.fn.text) 32 l.fn.deeper (ahead l.fn.tokens)

abbrev pub decreases-block-stmts : goal.decreases-block-stmts
decreases-block-stmts l = length (ahead l.rest)
