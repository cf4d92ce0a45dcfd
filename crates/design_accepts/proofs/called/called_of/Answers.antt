use Rattle.design_accepts.proofs.Gaining.{reach-step}
use Rattle.design_accepts.proofs.called.called_of.Goals as goal

pub units-preserved : goal.units-preserved
units-preserved c =
    reach-step c.args.units.now c.units.unit-index c.unit-item.result c.units.called _ c.units-test.true c.unit-item.is c.in_ok-add_unit.ensures
    c.units.invariant
