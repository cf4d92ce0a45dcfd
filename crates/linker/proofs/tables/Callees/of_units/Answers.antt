use Rattle.std.proofs.Common.{map}
use Rattle.linker.specs.Callees.{body_of}
use Rattle.linker.proofs.Entering.{entered_all, entered_none}
use Rattle.linker.proofs.tables.Callees.of_units.Goals as goal

pub returns : goal.returns
returns c = λ y is unit op.
    let start = entered_none y c.new-callees.result.units (map body_of c.new-callees.result.bodies.items) c.new-callees.ensures.none in
    let one = c.in_ok-add_passives.ensures y is start in
    let two = c.in_ok-add_objects.ensures y is one in
    let three = c.in_ok-add_tasks.ensures y is two in
    entered_all y c.add_tasks.new.self.units (map body_of c.add_tasks.new.self.bodies.items) three unit op
