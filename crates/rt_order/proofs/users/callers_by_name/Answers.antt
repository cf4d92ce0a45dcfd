use Rattle.std.proofs.Common.{ap, ◌∙◌}
use Rattle.seq_tree.specs.Names.{is_named}
use Rattle.ods_tree.specs.Trees.{guarded_of}
use Rattle.analysis.specs.Ceilings.{calls_from_inside}
use Rattle.rt_order.specs.ByNames.{places_at}
use Rattle.rt_order.specs.Called.{names_of}
use Rattle.rt_order.proofs.NameLaws.{called-is}
use Rattle.rt_order.proofs.PlaceSteps.{place-step}
use Rattle.rt_order.proofs.users.callers_by_name.Goals as goal

pub shared-preserved : goal.shared-preserved
shared-preserved c = λ n.
    let g = guarded_of c.index-shared-i.result in
    let names = names_of c.as_slice.result.now in
    place-step guarded_of (calls_from_inside n) c.args.shared.now c.shared.i c.index-shared-i.result (is_named names n) _ _ _
    c.shared-test.true c.index-shared-i.is (called-is g names n (ap names_of c.as_slice.ensures.value ∙ c.in_ok-names.ensures))
    (c.in_ok-add_each.ensures n) (c.shared.invariant n)
