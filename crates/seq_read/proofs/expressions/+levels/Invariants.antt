use Rattle.std.proofs.Common.{◌≡◌, ◌+◌, ◌*◌}
use Rattle.seq_tree.specs.Trees.{expression_of}
use Rattle.token_read.specs.Ahead.{ahead}
use Rattle.seq_read.specs.Names.{may_name}
use Rattle.seq_read.specs.Expressions.{chain_at}
use Rattle.seq_read.specs.Levels.{opened_at, operand_at}
use Rattle.seq_read.proofs.Chains.{rank}
use Rattle.seq_read.proofs.expressions.+levels.Given as goal

-- each depth has room for the readers that call one another there
abbrev pub decreases-paren : goal.decreases-paren
decreases-paren l = 24 * l.deeper

abbrev pub decreases-primary : goal.decreases-primary
decreases-primary l = 24 * l.deeper + 1

abbrev pub decreases-inverse : goal.decreases-inverse
decreases-inverse l = 24 * l.deeper + 2

abbrev pub decreases-factor : goal.decreases-factor
decreases-factor l = 24 * l.deeper + 3

abbrev pub decreases-operand : goal.decreases-operand
decreases-operand l = 24 * l.deeper + 4 * rank l.class + 4

abbrev pub decreases-binary : goal.decreases-binary
decreases-binary l = 24 * l.deeper + 4 * rank l.class + 5

abbrev pub decreases-chain : goal.decreases-chain
decreases-chain l = 24 * l.deeper + 4 * rank l.class + 6

abbrev pub decreases-term : goal.decreases-term
decreases-term l = 24 * l.deeper + 7

abbrev pub decreases-simple : goal.decreases-simple
decreases-simple l = 24 * l.deeper + 11

abbrev pub decreases-relation : goal.decreases-relation
decreases-relation l = 24 * l.deeper + 15

abbrev pub decreases-compared : goal.decreases-compared
decreases-compared l = 24 * l.deeper + 14

abbrev pub decreases-onward : goal.decreases-onward
decreases-onward l = 24 * l.deeper + 19

abbrev pub decreases-expression : goal.decreases-expression
decreases-expression l = 24 * l.deeper + 20

-- the chain so far, and then what is left
abbrev pub invariant-chain-operators : goal.invariant-chain-operators
invariant-chain-operators l =
    chain_at l.fn.class (operand_at (may_name l.fn.text) 32 (opened_at (may_name l.fn.text) 32 l.fn.deeper) l.fn.class) l.room (expression_of l.left)
    (ahead l.rest)
    ≡ chain_at l.fn.class (operand_at (may_name l.fn.text) 32 (opened_at (may_name l.fn.text) 32 l.fn.deeper) l.fn.class) 32
    (expression_of l.fn.first) (ahead l.fn.tokens)

abbrev pub decreases-chain-operators : goal.decreases-chain-operators
decreases-chain-operators l = l.room
