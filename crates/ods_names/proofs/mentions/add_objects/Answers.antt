use Rattle.std.proofs.Common.{slice_get, ap, sym, ◌∙◌}
use Rattle.design_rules.specs.Clashes.{object_mentions}
use Rattle.ods_index.specs.Walking.{standing_of}
use Rattle.ods_names.specs.Mentions.{gathered, requests_in, requests_of}
use Rattle.ods_names.proofs.LoopSteps.{counted_step}
use Rattle.ods_names.proofs.TakenSteps.{requests_here}
use Rattle.ods_names.proofs.mentions.add_objects.Goals as goal

pub add_object-requires : goal.add_object-requires
unfolding requests_in
add_object-requires c =
    requests_here c.args.objects.now c.objects.place c.index-objects-place.result c.objects-test.true c.index-objects-place.is
    ∙ ap (λ xs. requests_of (slice_get xs c.objects.place)) (sym c.requires)

pub objects-preserved : goal.objects-preserved
objects-preserved c =
    counted_step object_mentions standing_of c.args.objects.now c.objects.place c.index-objects-place.result
    (gathered c.args.source.index.now c.objects.into.items) _ _ c.objects-test.true c.index-objects-place.is
    c.in_ok-add_object.ensures c.objects.invariant
