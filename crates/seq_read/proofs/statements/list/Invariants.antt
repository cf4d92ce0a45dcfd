use Rattle.std.proofs.Common.{◌≡◌, length, map}
use Rattle.seq_tree.specs.Trees.{expression_of}
use Rattle.token_read.specs.Ahead.{ahead}
use Rattle.seq_read.specs.Names.{may_name}
use Rattle.seq_read.specs.Expressions.{expression_at}
use Rattle.seq_read.specs.Statements.{list_at}
use Rattle.seq_read.proofs.ActualSteps.{actuals_after}
use Rattle.seq_read.proofs.statements.list.Given as goal

-- the actuals so far, and then what is left
abbrev pub invariant-actuals : goal.invariant-actuals
invariant-actuals l =
    actuals_after (expression_at (may_name l.fn.text) 32 l.fn.deeper) (map expression_of l.actuals.items) (ahead l.rest)
    ≡ list_at (expression_at (may_name l.fn.text) 32 l.fn.deeper) (ahead l.fn.tokens)

abbrev pub decreases-actuals : goal.decreases-actuals
decreases-actuals l = length (ahead l.rest)
