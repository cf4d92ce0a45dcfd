use Rattle.std.proofs.Common.{sym, map, ◌∙◌, arith}
use Rattle.std.proofs.lemmas.List.{map-append}
use Rattle.token_read.specs.Ahead.{ahead}
use Rattle.arrivals_read.specs.Texts.{work_text}
use Rattle.arrivals_read.proofs.Turns.{work-shorter, work-turn}
use Rattle.arrivals_read.proofs.text.works.Goals as goal

pub works-smaller : goal.works-smaller
works-smaller c =
    omega (arith, work-shorter (ahead c.works.rest) (work_text c.in_ok-next.next) (ahead c.in_ok-next.after) c.in_ok-next.ensures)

pub works-preserved : goal.works-preserved
works-preserved c =
    rw (c.in_ok-push.ensures.items, map-append)
    (work-turn (map work_text c.works.works.items) (ahead c.works.rest) (work_text c.in_ok-next.next) (ahead c.in_ok-next.after)
    (sym c.works-test.ensures) c.in_ok-next.ensures ∙ c.works.invariant)
