use Rattle.std.proofs.Common.{rules, ◌≡◌, Err, map, ◌∙◌}
use Rattle.std.proofs.lemmas.List.{map-append}
use Rattle.std.specs.Vec.Iter.{into_iter_items}
use Rattle.ada_tree.specs.Trees.{unit_of}
use Rattle.token_read.specs.Ahead.{ahead}
use Rattle.ada_read.proofs.Repeats.{body-stops, body-turn}
use Rattle.ada_read.proofs.bodies.bodies.Goals as goal

pub heads-preserved : goal.heads-preserved
heads-preserved c =
    rw (c.in_ok-push.ensures.items, map-append)
    (body-turn (into_iter_items c.heads.head-iterator) (into_iter_items c.next.new.self) (map unit_of c.heads.units.items) (ahead c.heads.rest)
    c.in-Some.head (unit_of c.in_ok-next.next) (ahead c.in_ok-next.after) c.in-Some.ensures.steps.0 c.in_ok-next.ensures ∙ c.heads.invariant)

pub returns-in_err-next : goal.returns-in_err-next
returns-in_err-next c =
    let e = c.in_err-next.field-0.0 in
    let result : c.from_residual-in_err-next.result ≡ Err e = search rules in
    rw result (body-stops (into_iter_items c.heads.head-iterator) (into_iter_items c.next.new.self) (map unit_of c.heads.units.items)
    (ahead c.heads.rest) c.in-Some.head e _ c.in-Some.ensures.steps.0 c.heads.invariant c.in_err-next.ensures)
