use Rattle.std.proofs.Common.{sym, ◌∙◌}
use Rattle.seq_tree.specs.declared.token.Token.TheVariants as token
use Rattle.seq_tree.specs.declared.token.Mark.TheVariants.{Semicolon}
use Rattle.token_read.specs.Ahead.{ahead}
use Rattle.token_read.specs.Readers.{next_is}
use Rattle.grammar.specs.Reading.{pure_at}
use Rattle.seq_read.specs.Names.{may_name}
use Rattle.seq_read.specs.Parts.{more_param_at}
use Rattle.seq_read.proofs.PartSteps.{takes-more_param}
use Rattle.seq_read.proofs.Shared.Turns.{onward-turn, turn-shorter}
use Rattle.seq_read.proofs.parts.params_from.Goals as goal

pub params-smaller : goal.params-smaller
params-smaller c =
    turn-shorter (more_param_at (may_name c.args.text)) (ahead c.params.rest) (ahead c.in_ok-next.after) c.in_ok-next.next
    (takes-more_param (may_name c.args.text)) c.in_ok-next.ensures

pub params-preserved : goal.params-preserved
params-preserved c =
    rw (c.in_ok-push-2.ensures.items)
    (onward-turn (next_is (token.Sign Semicolon)) (more_param_at (may_name c.args.text)) pure_at c.params.params.items
    (ahead c.params.rest) c.in_ok-next.next (ahead c.in_ok-next.after)
    (takes-more_param (may_name c.args.text)) (sym c.params-test.ensures) c.in_ok-next.ensures
    ∙ c.params.invariant)
