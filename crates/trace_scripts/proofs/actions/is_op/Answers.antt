use Rattle.std.proofs.Common.{rules}
use Rattle.trace_scripts.proofs.Readings.{op-then}
use Rattle.trace_scripts.proofs.actions.is_op.Goals as goal

pub returns-then-is_object : goal.returns-then-is_object
returns-then-is_object c =
    op-then c.args.program.now c.args.unit c.args.op c.unit_at-owner.result.now c.args.object.now c.args.name.now c.op_name.result.now
    c.unit_at-owner.ensures.unit c.op_name.ensures c.is_same-is_object.result c.is_same-is_name.result c.is_same-is_object.ensures
    c.is_same-is_name.ensures (search rules)
