use Rattle.std.proofs.Common.{sym, ◌∙◌}
use Rattle.grammar.specs.Reading.{pure_at}
use Rattle.ods_read.specs.Readers.{next_by, key_named, attribute_at}
use Rattle.token_read.specs.Ahead.{ahead}
use Rattle.seq_read.proofs.Shared.Turns.{onward-turn, turn-shorter}
use Rattle.ods_read.proofs.Taking.{takes-attribute}
use Rattle.ods_read.proofs.attributes.attribute_list.Goals as goal

pub attrs-smaller : goal.attrs-smaller
attrs-smaller c =
    turn-shorter (attribute_at c.args.units) (ahead c.attrs.rest) (ahead c.in_ok-next.after) c.in_ok-next.next
    (takes-attribute c.args.units) c.in_ok-next.ensures

pub attrs-preserved : goal.attrs-preserved
attrs-preserved c =
    rw (c.in_ok-push-2.ensures.items)
    (onward-turn (next_by key_named) (attribute_at c.args.units) pure_at c.attrs.attrs.items (ahead c.attrs.rest) c.in_ok-next.next
    (ahead c.in_ok-next.after)
    (takes-attribute c.args.units) (sym c.attrs-test.ensures) c.in_ok-next.ensures
    ∙ c.attrs.invariant)
