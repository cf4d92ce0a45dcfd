use Rattle.std.proofs.Common.{List, map, flat_map, refl}
use Rattle.design_rules.specs.Words.{object_names}
use Rattle.ods_index.specs.Walking.{standing_of}
use Rattle.ods_index.specs.declared.walk.Standing.{Standing}
use Rattle.ods_names.specs.NameLists.{names_of}
use Rattle.seq_tree.proofs.Shared.LoopSteps.{added_step}
use Rattle.ods_names.proofs.kept.all_names.Goals as goal

pub objects-preserved : goal.objects-preserved
objects-preserved c =
    let s = c.standing-item.result in
    added_step (λ (ss : List Standing). flat_map (λ s. object_names s.own) (map standing_of ss)) (object_names (standing_of s).own)
    c.deref-standing-items.result.now c.objects.standing-index s (names_of c.objects.names.items) _ _ (λ ys. refl)
    c.objects-test.true c.standing-item.is c.in_ok-add_object.ensures c.objects.invariant
