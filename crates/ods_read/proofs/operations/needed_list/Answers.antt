use Rattle.std.proofs.Common.{sym, ◌∙◌}
use Rattle.grammar.specs.Reading.{pure_at}
use Rattle.ods_read.specs.Readers.{next_is_design_name, needed_at}
use Rattle.token_read.specs.Ahead.{ahead}
use Rattle.seq_read.proofs.Shared.Turns.{onward-turn, turn-shorter}
use Rattle.ods_read.proofs.Taking.{takes-needed}
use Rattle.ods_read.proofs.operations.needed_list.Goals as goal

pub needs-smaller : goal.needs-smaller
needs-smaller c =
    turn-shorter needed_at (ahead c.needs.rest) (ahead c.in_ok-next.after) c.in_ok-next.next takes-needed c.in_ok-next.ensures

pub needs-preserved : goal.needs-preserved
needs-preserved c =
    rw (c.in_ok-push-2.ensures.items)
    (onward-turn (next_is_design_name) needed_at pure_at c.needs.needs.items (ahead c.needs.rest) c.in_ok-next.next (ahead c.in_ok-next.after)
    takes-needed (sym c.needs-test.ensures) c.in_ok-next.ensures
    ∙ c.needs.invariant)
