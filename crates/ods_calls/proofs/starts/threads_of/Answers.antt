use Rattle.std.proofs.Common.{List, map, filter}
use Rattle.ods_tree.specs.Walk.{is_terminal}
use Rattle.design_rules.specs.Lookups.{has_thread}
use Rattle.ods_index.specs.Walking.{object_of, standing_of}
use Rattle.ods_index.specs.declared.walk.Standing.{Standing}
use Rattle.seq_tree.proofs.Shared.LoopSteps.{added_step}
use Rattle.ods_calls.proofs.FilterSteps.{map_filters_first}
use Rattle.ods_calls.proofs.starts.threads_of.Goals as goal

pub objects-preserved : goal.objects-preserved
objects-preserved c =
    let s = c.standing-item.result in
    added_step (λ (ss : List Standing). map (λ s. s.own) (filter (λ s. has_thread s.own.kind) (filter is_terminal (map standing_of ss)))) _
    c.args.objects.now c.objects.standing-index s (map (λ n. object_of n.now) c.objects.threads.items) _ _
    (λ ys. map_filters_first (λ s. s.own) (λ s. has_thread s.own.kind) is_terminal (standing_of s) (map standing_of ys))
    c.objects-test.true c.standing-item.is c.in_ok-add_thread.ensures c.objects.invariant
