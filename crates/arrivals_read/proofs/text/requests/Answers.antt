use Rattle.std.proofs.Common.{sym, map, ◌∙◌, arith}
use Rattle.std.proofs.lemmas.List.{map-append}
use Rattle.token_read.specs.Ahead.{ahead}
use Rattle.arrivals_read.specs.Texts.{request_text}
use Rattle.arrivals_read.proofs.Turns.{request-shorter, request-turn}
use Rattle.arrivals_read.proofs.text.requests.Goals as goal

pub requests-smaller : goal.requests-smaller
requests-smaller c =
    omega (arith, request-shorter (ahead c.requests.rest) (request_text c.in_ok-next.next) (ahead c.in_ok-next.after) c.in_ok-next.ensures)

pub requests-preserved : goal.requests-preserved
requests-preserved c =
    rw (c.in_ok-push.ensures.items, map-append)
    (request-turn (map request_text c.requests.requests.items) (ahead c.requests.rest) (request_text c.in_ok-next.next) (ahead c.in_ok-next.after)
    (sym c.requests-test.ensures) c.in_ok-next.ensures ∙ c.requests.invariant)
