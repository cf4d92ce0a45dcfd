use Rattle.std.proofs.Common.{Bool, List, map}
use Rattle.std.specs.List.{list_any}
use Rattle.seq_tree.specs.Calls.{same_op}
use Rattle.seq_tree.specs.declared.tree.OpName.{OpName}
use Rattle.seq_cost.specs.Different.{call_of}
use Rattle.seq_cost.specs.declared.written.Call.{Call}
use Rattle.ada_rules.proofs.LoopSteps.{any_last, told_step}
use Rattle.ada_rules.proofs.ops.add_calls.Goals as goal

pub calls-preserved : goal.calls-preserved
calls-preserved c = λ n.
    let test : OpName → Bool = λ d. same_op d n in
    told_step (λ (cs : List Call). list_any test (map call_of cs)) c.args.calls.now c.calls.call-index c.call-item.result
    (test (call_of c.call-item.result)) _ _ _
    (any_last test call_of c.call-item.result) c.calls-test.true c.call-item.is (c.in_ok-add.ensures.added n) (c.calls.invariant n)
