use Rattle.std.proofs.Common.{sym, ◌∙◌}
use Rattle.grammar.specs.Reading.{pure_at}
use Rattle.ods_read.specs.Readers.{next_is_design_name, link_at}
use Rattle.token_read.specs.Ahead.{ahead}
use Rattle.seq_read.proofs.Shared.Turns.{onward-turn, turn-shorter}
use Rattle.ods_read.proofs.Taking.{takes-link}
use Rattle.ods_read.proofs.sections.link_list.Goals as goal

pub links-smaller : goal.links-smaller
links-smaller c =
    turn-shorter link_at (ahead c.links.rest) (ahead c.in_ok-next.after) c.in_ok-next.next takes-link c.in_ok-next.ensures

pub links-preserved : goal.links-preserved
links-preserved c =
    rw (c.in_ok-push-2.ensures.items)
    (onward-turn (next_is_design_name) link_at pure_at c.links.links.items (ahead c.links.rest) c.in_ok-next.next (ahead c.in_ok-next.after)
    takes-link (sym c.links-test.ensures) c.in_ok-next.ensures
    ∙ c.links.invariant)
