use Rattle.std.proofs.Common.{arith, sym, ◌∙◌}
use Rattle.ada_tree.specs.Trees.{program_of}
use Rattle.arrivals_read.proofs.TableSteps.{place_below}
use Rattle.arrivals_read.proofs.units.Units.place.Goals as goal

pub overflow_cast-result-in-Some : goal.overflow_cast-result-in-Some
overflow_cast-result-in-Some c =
    let units = c.args.self.now in
    let name = c.bytes.result.now in
    let found = sym (units.held name) ∙ sym c.get_bytes.ensures ∙ c.in-Some.is in
    omega (arith, place_below 0 c.in-Some.place name (program_of units.program.now).units found, units.few)
