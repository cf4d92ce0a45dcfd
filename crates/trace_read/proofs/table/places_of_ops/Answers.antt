use Rattle.trace_read.proofs.TableSteps.{tables-next, tables-place, tables-few, tables-whole}
use Rattle.ada_tree.specs.Trees.{unit_of}
use Rattle.std.proofs.Common.{map}
use Rattle.trace_read.proofs.table.places_of_ops.Goals as goal

pub units-preserved : goal.units-preserved
units-preserved c =
    tables-next c.args.units.now c.units.unit-index c.unit-item.result c.units.ops.items c.push.new.self.items c.in_ok-places_of_heads.field-0
    c.units.invariant c.units-test.true c.unit-item.is c.in_ok-places_of_heads.ensures c.in_ok-push.ensures.items

pub returns-clause-places : goal.returns-clause-places
returns-clause-places c = λ k n. tables-place (map unit_of c.args.units.now) c.units.ops.items
    (tables-whole c.args.units.now c.units.unit-index c.units.ops.items c.units-test.false c.units.invariant) k n

pub returns-clause-few : goal.returns-clause-few
returns-clause-few c = λ k n o e. tables-few (map unit_of c.args.units.now) c.units.ops.items
    (tables-whole c.args.units.now c.units.unit-index c.units.ops.items c.units-test.false c.units.invariant) k n o e
