use Rattle.std.proofs.Common.{◌≡◌, ◌∷◌, ◌+◌, ◌||◌, Bor, List, map, drop, ap, sym, ◌∙◌, is_some}
use Rattle.std.proofs.Math.Bool.{or_assoc}
use Rattle.seq_tree.proofs.Shared.LoopSteps.{drop_step}
use Rattle.name_sets.specs.Places.{place_in}
use Rattle.ods_tree.specs.declared.design.Node.{Node}
use Rattle.ods_index.specs.Nodes.{node_object}
use Rattle.ods_calls.specs.Keys.{has_target, is_target}
use Rattle.ods_calls.proofs.keys.targets_of.Goals as goal

pub threads-preserved : goal.threads-preserved
threads-preserved c = λ n.
    let later = has_target (map node_object (drop (c.threads.node-index + 1) c.args.threads.now)) n in
    let before = is_some (place_in c.threads.names n) in
    let step : drop c.threads.node-index c.args.threads.now ≡ c.node-item.result ∷ drop (c.threads.node-index + 1) c.args.threads.now =
    drop_step c.args.threads.now c.threads.node-index c.node-item.result c.threads-test.true c.node-item.is in
    ap (λ b. b || later) (c.in_ok-add_target.ensures n) ∙ or_assoc before (is_target n (node_object c.node-item.result)) later
    ∙ ap (λ (ts : List (Bor Node)). before || has_target (map node_object ts) n) (sym step) ∙ c.threads.invariant n
