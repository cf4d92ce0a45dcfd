use Rattle.std.proofs.Common.{sym, map, ◌∙◌}
use Rattle.std.proofs.lemmas.List.{map-append}
use Rattle.seq_tree.specs.Trees.{expression_of}
use Rattle.seq_tree.specs.declared.token.Token.TheVariants as token
use Rattle.seq_tree.specs.declared.token.Mark.TheVariants.{Comma}
use Rattle.token_read.specs.Ahead.{ahead}
use Rattle.token_read.specs.Readers.{next_is}
use Rattle.seq_read.specs.Names.{may_name}
use Rattle.seq_read.specs.Expressions.{expression_at}
use Rattle.seq_read.specs.Statements.{further_at}
use Rattle.seq_read.proofs.ActualSteps.{close_list, further-takes}
use Rattle.seq_read.proofs.Shared.Turns.{onward-turn, turn-shorter}
use Rattle.seq_read.proofs.statements.list.Goals as goal

pub actuals-smaller : goal.actuals-smaller
actuals-smaller c =
    turn-shorter (further_at (expression_at (may_name c.args.text) 32 c.args.deeper)) (ahead c.actuals.rest) (ahead c.in_ok-next.after)
    (expression_of c.in_ok-next.next)
    (further-takes (may_name c.args.text) 32 c.args.deeper) c.in_ok-next.ensures

pub actuals-preserved : goal.actuals-preserved
actuals-preserved c =
    rw (c.in_ok-push-2.ensures.items, map-append)
    (onward-turn (next_is (token.Sign Comma)) (further_at (expression_at (may_name c.args.text) 32 c.args.deeper)) close_list
    (map expression_of c.actuals.actuals.items) (ahead c.actuals.rest)
    (expression_of c.in_ok-next.next) (ahead c.in_ok-next.after) (further-takes (may_name c.args.text) 32 c.args.deeper)
    (sym c.actuals-test.ensures) c.in_ok-next.ensures
    ∙ c.actuals.invariant)
