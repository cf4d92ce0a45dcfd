use Rattle.std.proofs.Common.{List, flat_map, map, refl}
use Rattle.ada_rules.specs.Lists.{body_inner_names, names_of}
use Rattle.ada_rules.specs.Parts.{body_of}
use Rattle.ada_rules.specs.declared.parts.BodyView.{BodyView}
use Rattle.seq_tree.proofs.Shared.LoopSteps.{added_step}
use Rattle.ada_rules.proofs.lists.inner_names.Goals as goal

pub bodies-preserved : goal.bodies-preserved
bodies-preserved c =
    let b = c.body-item.result in
    added_step (λ (bs : List BodyView). flat_map body_inner_names (map body_of bs)) (body_inner_names (body_of b))
    c.deref-body-items.result.now c.bodies.body-index b (names_of c.bodies.names.items) _ _
    (λ ys. refl) c.bodies-test.true c.body-item.is c.in_ok-add_body.ensures c.bodies.invariant
