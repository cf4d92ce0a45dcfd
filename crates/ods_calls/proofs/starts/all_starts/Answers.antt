use Rattle.std.proofs.Common.{List, Bor, flat_map, map, refl}
use Rattle.ods_tree.specs.Trees.{design_of}
use Rattle.ods_tree.specs.declared.design.Node.{Node}
use Rattle.seq_tree.proofs.Shared.LoopSteps.{added_step}
use Rattle.ods_index.specs.Walking.{object_of}
use Rattle.ods_calls.specs.Spreading.{direct_calls}
use Rattle.ods_calls.proofs.starts.all_starts.Goals as goal
use Rattle.seq_cost.specs.Different.{call_of}

pub threads-preserved : goal.threads-preserved
threads-preserved c =
    let x = design_of c.args.links.now.design.now in
    added_step (λ (ns : List (Bor Node)). flat_map (direct_calls x) (map (λ t. object_of t.now) ns)) _
    c.args.threads.now c.threads.node-index c.node-item.result (map call_of c.threads.calls.items) _ _
    (λ ys. refl) c.threads-test.true c.node-item.is c.in_ok-add_starts.ensures c.threads.invariant
