use Rattle.std.proofs.Common.{Bor, List, flat_map, map, refl}
use Rattle.std.specs.Prelude.{is_some}
use Rattle.seq_tree.proofs.Shared.LoopSteps.{added_step}
use Rattle.name_sets.specs.Places.{place_in}
use Rattle.ods_tree.specs.Trees.{design_of}
use Rattle.ods_tree.specs.declared.design.Node.{Node}
use Rattle.ods_index.specs.Nodes.{node_object}
use Rattle.ods_calls.specs.Spotted.{spot_in}
use Rattle.ods_calls.specs.Starting.{thread_edges}
use Rattle.ods_calls.proofs.start_rings.start_edges.Goals as goal

pub threads-preserved : goal.threads-preserved
threads-preserved c =
    let edges = thread_edges (design_of c.args.links.now.design.now) (spot_in c.args.spots.now) (λ n. is_some (place_in c.args.targets.now n)) in
    added_step (λ (ts : List (Bor Node)). flat_map edges (map node_object ts)) (edges (node_object c.node-item.result))
    c.args.threads.now c.threads.node-index c.node-item.result c.threads.edges.items _ _
    (λ ys. refl) c.threads-test.true c.node-item.is c.in_ok-add_thread.ensures c.threads.invariant
