use Rattle.std.proofs.Common.{List, map, flat_map, refl}
use Rattle.call_graph.specs.Entries.{entry_at}
use Rattle.ods_calls.specs.Costed.{request_served}
use Rattle.ods_index.specs.Walking.{standing_of}
use Rattle.ods_index.specs.declared.walk.Standing.{Standing}
use Rattle.seq_tree.proofs.Shared.LoopSteps.{added_step}
use Rattle.ods_calls.proofs.services.add_requests.Goals as goal

pub objects-preserved : goal.objects-preserved
objects-preserved c =
    let s = c.standing-item.result in
    added_step (λ (ss : List Standing). flat_map request_served (map standing_of ss)) (request_served (standing_of s)) c.args.objects.now
    c.objects.standing-index s (map entry_at c.objects.into.items) _ _ (λ ys. refl) c.objects-test.true c.standing-item.is
    c.in_ok-add_request.ensures c.objects.invariant
