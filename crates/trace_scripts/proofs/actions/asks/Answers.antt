use Rattle.std.proofs.Common.{rules}
use Rattle.trace_scripts.proofs.Acting.{asks-else, asks-then}
use Rattle.trace_scripts.proofs.actions.asks.Goals as goal

pub returns-then-is_named : goal.returns-then-is_named
returns-then-is_named c =
    asks-then c.args.program.now c.args.event.now c.in-Request.time c.in-Request.task c.in-Request.target c.in-Request.value c.args.asked
    c.unit_at-unit.result.now c.args.object.now c.args.op.now c.in-Request.is c.requires.rules c.unit_at-unit.ensures.unit
    c.unit_at-unit.ensures.name c.is_asked-is_named.result c.is_same_value-is_value.result c.is_asked-is_named.ensures
    c.is_same_value-is_value.ensures (search rules)

pub returns-else-is_named : goal.returns-else-is_named
returns-else-is_named c =
    asks-else c.args.program.now c.args.event.now c.in-Request.time c.in-Request.task c.in-Request.target c.in-Request.value c.args.asked
    c.unit_at-unit.result.now c.args.object.now c.args.op.now c.in-Request.is c.requires.rules c.unit_at-unit.ensures.unit
    c.unit_at-unit.ensures.name c.is_asked-is_named.result c.is_same_value-is_value.result c.is_asked-is_named.ensures
    c.is_same_value-is_value.ensures (search rules)
