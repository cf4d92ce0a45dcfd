use Rattle.std.proofs.Common.{List, map}
use Rattle.ods_tree.specs.Flattening.{is_protected}
use Rattle.ods_tree.specs.Walk.{is_terminal}
use Rattle.ods_index.specs.Nodes.{node_object}
use Rattle.ods_index.specs.Walking.{standing_of}
use Rattle.ods_index.specs.declared.walk.Standing.{Standing}
use Rattle.ods_calls.specs.Guarded.{guards_among}
use Rattle.seq_tree.proofs.Shared.LoopSteps.{added_step}
use Rattle.ods_calls.proofs.FilterSteps.{map_filters_first}
use Rattle.ods_calls.proofs.object_rings.guards_of.Goals as goal

pub objects-preserved : goal.objects-preserved
objects-preserved c =
    let s = c.standing-item.result in
    added_step (λ (ss : List Standing). guards_among (map standing_of ss)) _
    c.args.objects.now c.objects.standing-index s (map node_object c.objects.guards.items) _ _
    (λ ys. map_filters_first (λ s. s.own) (λ s. is_protected s.own.kind) is_terminal (standing_of s) (map standing_of ys))
    c.objects-test.true c.standing-item.is c.in_ok-add_guard.ensures c.objects.invariant
