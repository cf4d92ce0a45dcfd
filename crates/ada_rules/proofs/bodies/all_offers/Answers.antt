use Rattle.std.proofs.Common.{List, flat_map, map, refl}
use Rattle.seq_check.specs.Scopes.{offer_view}
use Rattle.ada_tree.specs.Trees.{unit_of}
use Rattle.ada_tree.specs.declared.program.Unit.{Unit}
use Rattle.ada_rules.specs.FaultsTold.{unit_offers}
use Rattle.seq_tree.proofs.Shared.LoopSteps.{added_step}
use Rattle.ada_rules.proofs.bodies.all_offers.Goals as goal

pub units-preserved : goal.units-preserved
units-preserved c =
    added_step (λ (us : List Unit). flat_map unit_offers (map unit_of us)) (unit_offers (unit_of c.unit-item.result))
    c.args.units.now c.units.unit-index c.unit-item.result (map offer_view c.units.offers.items) _ _
    (λ ys. refl) c.units-test.true c.unit-item.is c.in_ok-add_unit_offers.ensures c.units.invariant
