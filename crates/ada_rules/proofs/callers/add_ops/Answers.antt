use Rattle.std.proofs.Common.{List, [], ◌∷◌, map, refl}
use Rattle.seq_tree.specs.Trees.{operation_of}
use Rattle.seq_tree.specs.declared.tree.OpText.{OpText}
use Rattle.seq_tree.proofs.Shared.LoopSteps.{added_step}
use Rattle.ada_rules.specs.Callers.{caller_of, op_caller}
use Rattle.ada_rules.proofs.callers.add_ops.Goals as goal

pub ops-preserved : goal.ops-preserved
ops-preserved c =
    let make = op_caller c.args.object.now in
    added_step (λ (os : List OpText). map make (map operation_of os)) (make (operation_of c.op-item.result) ∷ [])
    c.args.ops.now c.ops.op-index c.op-item.result (map caller_of c.ops.into.items) _ _
    (λ ys. refl) c.ops-test.true c.op-item.is c.in_ok-add_op.ensures c.ops.invariant
