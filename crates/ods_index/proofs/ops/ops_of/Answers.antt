use Rattle.std.proofs.Common.{List, flat_map, map, filter}
use Rattle.ods_tree.specs.Walk.{is_terminal}
use Rattle.ods_index.specs.OwnOps.{own_ops}
use Rattle.ods_index.specs.Walking.{standing_of}
use Rattle.ods_index.specs.declared.walk.Standing.{Standing}
use Rattle.seq_tree.proofs.Shared.LoopSteps.{added_step, flat_filter_first}
use Rattle.ods_index.proofs.ops.ops_of.Goals as goal
use Rattle.seq_cost.specs.Different.{call_of}

pub objects-preserved : goal.objects-preserved
objects-preserved c =
    let s = c.standing-item.result in
    added_step (λ (ss : List Standing). flat_map own_ops (filter is_terminal (map standing_of ss))) _
    c.args.objects.now c.objects.standing-index s (map call_of c.objects.ops.items) _ _
    (λ ys. flat_filter_first own_ops is_terminal (standing_of s) (map standing_of ys))
    c.objects-test.true c.standing-item.is c.in_ok-add_ops.ensures c.objects.invariant
