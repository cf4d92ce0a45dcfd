use Rattle.std.proofs.Common.{List, Bor, flat_map, map, refl}
use Rattle.ods_tree.specs.Trees.{design_of}
use Rattle.ods_tree.specs.declared.design.Node.{Node}
use Rattle.seq_tree.proofs.Shared.LoopSteps.{added_step}
use Rattle.seq_cost.specs.Different.{call_of}
use Rattle.ods_calls.specs.Reaching.{thread_of}
use Rattle.ods_calls.specs.Keys.{thread_keys}
use Rattle.ods_calls.proofs.once.add_threads.Goals as goal

pub threads-preserved : goal.threads-preserved
threads-preserved c =
    let t = c.args.targets.now in
    let x = design_of c.args.links.now.design.now in
    added_step (λ (ns : List (Bor Node)). flat_map (thread_keys t x) (map thread_of ns)) _
    c.args.threads.now c.threads.node-index c.node-item.result (map call_of c.threads.into.items) _ _
    (λ ys. refl) c.threads-test.true c.node-item.is c.in_ok-add_thread.ensures c.threads.invariant
