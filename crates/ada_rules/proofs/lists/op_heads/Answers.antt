use Rattle.std.proofs.Common.{List, [], map}
use Rattle.seq_tree.specs.Operations.{Operation, Signature}
use Rattle.seq_tree.specs.Trees.{operation_of}
use Rattle.seq_tree.specs.declared.tree.OpText.{OpText}
use Rattle.ada_rules.specs.Lists.{head_of}
use Rattle.ada_rules.proofs.LoopSteps.{maps_last, pushed_step}
use Rattle.ada_rules.proofs.lists.op_heads.Goals as goal

pub ops-preserved : goal.ops-preserved
ops-preserved c =
    let sig : Operation → Signature = λ o. o.sig in
    pushed_step head_of (λ (os : List OpText). map sig (map operation_of os)) c.args.ops.now c.ops.op-index c.op-item.result _
    c.ops.heads.items c.push.new.self.items [] (maps_last sig operation_of c.op-item.result)
    c.ops-test.true c.op-item.is c.in_ok-push.ensures.items c.ops.invariant
