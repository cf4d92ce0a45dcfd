use Rattle.std.proofs.Common.{rules, ap, get_or}
use Rattle.trace_scripts.specs.Scenes.{program_in}
use Rattle.trace_scripts.proofs.Objecting.{object-here, none-here, ops-within, leave-made, leave-none}
use Rattle.trace_scripts.proofs.objects.Objects.leave.Goals as goal

pub returns-in_default-clause-states : goal.returns-in_default-clause-states
returns-in_default-clause-states c =
    leave-none (program_in c.args.scene.now) c.args.task c.args.unit c.args.op _ c.args.values.now
    (none-here (program_in c.args.scene.now) c.args.unit _ c.object_at.result c.object_at.ensures (search rules))

pub bounds-object-op : goal.bounds-object-op
bounds-object-op c =
    ops-within (program_in c.args.scene.now) c.args.unit c.requires.unit _ c.in-Some.object
    (object-here (program_in c.args.scene.now) c.args.unit _ c.object_at.result c.in-Some.object c.object_at.ensures c.in-Some.is) c.args.op c.requires.op

pub returns-clause-states : goal.returns-clause-states
returns-clause-states c =
    leave-made (program_in c.args.scene.now) c.requires.scene.rules c.args.task c.args.unit c.args.op c.requires.unit c.requires.op _ _ c.in-Some.object
    (object-here (program_in c.args.scene.now) c.args.unit _ c.object_at.result c.in-Some.object c.object_at.ensures c.in-Some.is) c.unit_at.ensures.name (get_or c.in-Some.object.ops.now c.args.op c.index-object-op.result)
    (ap (get_or c.in-Some.object.ops.now c.args.op) c.index-object-op.is) c.args.self.now.states.items _ c.replace-before.result c.leave.result
    c.args.values.now (search rules) (search rules) c.leave.ensures
