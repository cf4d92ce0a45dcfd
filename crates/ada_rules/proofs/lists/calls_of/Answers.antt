use Rattle.std.proofs.Common.{List, flat_map, map, refl}
use Rattle.seq_tree.specs.Calls.{block_calls}
use Rattle.seq_cost.specs.Different.{call_of}
use Rattle.ada_rules.specs.Parts.{body_of}
use Rattle.ada_rules.specs.declared.parts.BodyView.{BodyView}
use Rattle.seq_tree.proofs.Shared.LoopSteps.{added_step}
use Rattle.ada_rules.proofs.lists.calls_of.Goals as goal

pub bodies-preserved : goal.bodies-preserved
bodies-preserved c =
    let b = c.body-item.result in
    added_step (λ (bs : List BodyView). flat_map (λ b. block_calls b.block) (map body_of bs)) (block_calls (body_of b).block)
    c.deref-body-items.result.now c.bodies.body-index b (map call_of c.bodies.calls.items) _ _
    (λ ys. refl) c.bodies-test.true c.body-item.is c.in_ok-add_block_calls.ensures c.bodies.invariant
