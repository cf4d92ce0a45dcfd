use Rattle.std.proofs.Common.{sym, ◌∙◌}
use Rattle.token_read.specs.Ahead.{ahead}
use Rattle.grammar.specs.Reading.{pure_at}
use Rattle.seq_read.specs.Names.{may_name}
use Rattle.seq_read.specs.Statements.{next_is_name}
use Rattle.seq_read.specs.Parts.{datum_at}
use Rattle.seq_read.proofs.Shared.DatumLaws.{takes-datum}
use Rattle.seq_read.proofs.Shared.Turns.{onward-turn, turn-shorter}
use Rattle.seq_read.proofs.parts.more_data.Goals as goal

pub data-smaller : goal.data-smaller
data-smaller c =
    turn-shorter (datum_at (may_name c.args.text)) (ahead c.data.rest) (ahead c.in_ok-next.after) c.in_ok-next.next
    (takes-datum (may_name c.args.text)) c.in_ok-next.ensures

pub data-preserved : goal.data-preserved
data-preserved c =
    rw (c.in_ok-push.ensures.items)
    (onward-turn (next_is_name (may_name c.args.text)) (datum_at (may_name c.args.text)) pure_at c.data.data.items
    (ahead c.data.rest) c.in_ok-next.next (ahead c.in_ok-next.after)
    (takes-datum (may_name c.args.text)) (sym c.data-test.ensures) c.in_ok-next.ensures
    ∙ c.data.invariant)
