use Rattle.std.proofs.Common.{sym}
use Rattle.ods_names.proofs.TakenSteps.{parameter_added}
use Rattle.ods_names.proofs.taken.Taken.add_parameter.Goals as goal

pub returns : goal.returns
returns c = λ requests earlier open' h.
    parameter_added requests c.args.self.now c.add.new.self c.add-2.new.self c.add_where.new.self c.add_where-2.new.self
    c.add_where-3.new.self earlier
    c.args.place c.args.op.now c.args.bodied c.has-asked.result c.args.name.now open' (rw (sym c.bytes-op.ensures.bytes) c.has-asked.ensures)
    c.in_ok-add.ensures.added
    (rw (sym c.bytes-op.ensures.bytes, sym c.bytes-bytes.ensures.bytes) c.in_ok-add-2.ensures)
    (rw (sym c.bytes-bytes.ensures.bytes) c.in_ok-add_where.ensures)
    (rw (sym c.bytes-op.ensures.bytes, sym c.bytes-bytes.ensures.bytes) c.in_ok-add_where-2.ensures)
    (rw (sym c.bytes-bytes.ensures.bytes) c.in_ok-add_where-3.ensures) h
