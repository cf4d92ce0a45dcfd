use Rattle.std.proofs.Common.{arith, sym, ap, ◌∙◌}
use Rattle.trace_read.specs.Tables.{op_by}
use Rattle.trace_read.proofs.table.Table.op.Goals as goal

pub overflow_cast-result : goal.overflow_cast-result
overflow_cast-result c =
    let table = c.args.self.now in
    let few = table.few c.args.unit c.args.name.now c.in-Some.place (
    sym (table.of_ops c.args.unit c.args.name.now)
    ∙ ap (λ ts. op_by ts c.args.unit c.args.name.now) (sym c.as_slice.ensures.value) ∙ sym c.op_place.ensures ∙ c.in-Some.is
    ) in
    omega (arith, few)

pub returns-in-None : goal.returns-in-None
returns-in-None c =
    sym c.in-None.is ∙ c.op_place.ensures ∙ ap (λ ts. op_by ts c.args.unit c.args.name.now) c.as_slice.ensures.value
    ∙ c.args.self.now.of_ops c.args.unit c.args.name.now

pub returns-in-Some : goal.returns-in-Some
returns-in-Some c =
    sym c.in-Some.is ∙ c.op_place.ensures ∙ ap (λ ts. op_by ts c.args.unit c.args.name.now) c.as_slice.ensures.value
    ∙ c.args.self.now.of_ops c.args.unit c.args.name.now
