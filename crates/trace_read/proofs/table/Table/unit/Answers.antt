use Rattle.std.proofs.Common.{arith, sym, map, ◌∙◌}
use Rattle.ada_tree.specs.Trees.{program_of}
use Rattle.trace_read.proofs.Placing.{place-below}
use Rattle.trace_read.proofs.table.Table.unit.Goals as goal

pub overflow_cast-result : goal.overflow_cast-result
overflow_cast-result c =
    let table = c.args.self.now in
    let found = sym (table.of_units.places c.args.name.now) ∙ sym c.get_bytes.ensures ∙ c.in-Some.is in
    omega (arith, place-below (map (λ u. u.name) (program_of table.program.now).units) 0 c.in-Some.place c.args.name.now found, table.of_units.few)
