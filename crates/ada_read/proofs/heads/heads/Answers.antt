use Rattle.std.proofs.Common.{sym, map, ◌∙◌, arith}
use Rattle.std.proofs.lemmas.List.{map-append}
use Rattle.token_read.specs.Ahead.{ahead}
use Rattle.ada_read.specs.Heads.{head_of}
use Rattle.ada_read.proofs.Repeats.{head-shorter, head-turn}
use Rattle.ada_read.proofs.heads.heads.Goals as goal

pub heads-smaller : goal.heads-smaller
heads-smaller c =
    omega (arith, head-shorter (ahead c.heads.rest) (head_of c.in_ok-next.next) (ahead c.in_ok-next.after) c.in_ok-next.ensures)

pub heads-preserved : goal.heads-preserved
heads-preserved c =
    rw (c.in_ok-push.ensures.items, map-append)
    (head-turn (map head_of c.heads.heads.items) (ahead c.heads.rest) (head_of c.in_ok-next.next) (ahead c.in_ok-next.after)
    (sym c.heads-test.ensures) c.in_ok-next.ensures ∙ c.heads.invariant)
