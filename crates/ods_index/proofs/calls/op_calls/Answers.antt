use Rattle.std.proofs.Common.{List, flat_map, map, filter}
use Rattle.ods_tree.specs.Trees.{design_of}
use Rattle.ods_tree.specs.Walk.{is_terminal}
use Rattle.ods_index.specs.Calling.{calls_of, object_calls}
use Rattle.ods_index.specs.Walking.{standing_of}
use Rattle.ods_index.specs.declared.walk.Standing.{Standing}
use Rattle.seq_tree.proofs.Shared.LoopSteps.{added_step, flat_filter_first}
use Rattle.ods_index.proofs.calls.op_calls.Goals as goal

pub objects-preserved : goal.objects-preserved
objects-preserved c =
    let s = c.standing-item.result in
    let x = design_of c.args.links.now.design.now in
    added_step (λ (ss : List Standing). flat_map (λ s. object_calls x s.own) (filter is_terminal (map standing_of ss))) _
    c.args.objects.now c.objects.standing-index s (map calls_of c.objects.calls.items) _ _
    (λ ys. flat_filter_first (λ s. object_calls x s.own) is_terminal (standing_of s) (map standing_of ys))
    c.objects-test.true c.standing-item.is c.in_ok-add_object.ensures c.objects.invariant
