use Rattle.std.proofs.Common.{rules, ◌≡◌, Err, map, ◌∙◌}
use Rattle.std.proofs.lemmas.List.{map-append}
use Rattle.std.specs.Vec.Iter.{into_iter_items}
use Rattle.seq_tree.specs.Trees.{operation_of}
use Rattle.token_read.specs.Ahead.{ahead}
use Rattle.ada_read.proofs.Repeats.{operation-stops, operation-turn}
use Rattle.ada_read.proofs.bodies.operations.Goals as goal

pub sigs-preserved : goal.sigs-preserved
sigs-preserved c =
    rw (c.in_ok-push.ensures.items, map-append)
    (operation-turn (into_iter_items c.sigs.sig-iterator) (into_iter_items c.next.new.self) (map operation_of c.sigs.ops.items) (ahead c.sigs.rest)
    c.in-Some.sig (operation_of c.in_ok-next.next) (ahead c.in_ok-next.after) c.in-Some.ensures.steps.0 c.in_ok-next.ensures ∙ c.sigs.invariant)

pub returns-in_err-next : goal.returns-in_err-next
returns-in_err-next c =
    let e = c.in_err-next.field-0.0 in
    let result : c.from_residual-in_err-next.result ≡ Err e = search rules in
    rw result (operation-stops (into_iter_items c.sigs.sig-iterator) (into_iter_items c.next.new.self) (map operation_of c.sigs.ops.items)
    (ahead c.sigs.rest) c.in-Some.sig e _ c.in-Some.ensures.steps.0 c.sigs.invariant c.in_err-next.ensures)
