use Rattle.std.proofs.Common.{rules, ℕ, suc, ◌≤◌, ap, drop, refl, get_or}
use Rattle.seq_tree.specs.Limits.{tick_limit}
use Rattle.trace_tree.specs.Lines.{unit_name}
use Rattle.trace_scripts.specs.Insides.{known_from}
use Rattle.trace_scripts.specs.Scenes.{program_in, software_of, calls_of}
use Rattle.trace_scripts.specs.Objects.{object_of}
use Rattle.seq_eval.specs.Bounds.{most_ticks}
use Rattle.law_walks.specs.Fit.{MayRun}
use Rattle.guarantee.specs.Software.{leads_to}
use Rattle.trace_scripts.proofs.Objecting.{object-here, none-here, ops-within, body-named, body-all, enter-made, charge-made, enter-none}
use Rattle.trace_scripts.proofs.objects.Objects.enter.Goals as goal

pub returns-in_default-clause-states : goal.returns-in_default-clause-states
returns-in_default-clause-states c = λ depth may.
    enter-none (program_in c.args.scene.now) depth c.args.task c.args.unit c.args.op (known_from (program_in c.args.scene.now) c.args.task c.args.unit (drop (suc c.args.here) c.args.events.now)) _ c.args.values.now
    (none-here (program_in c.args.scene.now) c.args.unit _ c.object_at.result c.object_at.ensures (search rules))

pub bounds-object-op : goal.bounds-object-op
bounds-object-op c =
    ops-within (program_in c.args.scene.now) c.args.unit c.requires.unit _ c.in-Some.object
    (object-here (program_in c.args.scene.now) c.args.unit _ c.object_at.result c.in-Some.object c.object_at.ensures c.in-Some.is) c.args.op c.requires.op

pub enter-requires-clause-ticks : goal.enter-requires-clause-ticks
enter-requires-clause-ticks c =
    body-all (program_in c.args.scene.now) c.requires.scene.rules c.args.task c.args.unit c.args.op c.requires.unit c.requires.op _ _ c.in-Some.object
    (object-here (program_in c.args.scene.now) c.args.unit _ c.object_at.result c.in-Some.object c.object_at.ensures c.in-Some.is) c.unit_at.ensures.name (get_or c.in-Some.object.ops.now c.args.op c.index-object-op.result)
    (ap (get_or c.in-Some.object.ops.now c.args.op) c.index-object-op.is)
    (λ b. (depth : ℕ) → most_ticks (program_in c.args.scene.now).costs (calls_of c.args.scene.now) depth b ≤ tick_limit) c.requires.scene.ticks

pub returns-clause-states : goal.returns-clause-states
returns-clause-states c = λ depth may.
    enter-made (program_in c.args.scene.now) c.requires.scene.rules c.args.task c.args.unit c.args.op c.requires.unit c.requires.op _ _ c.in-Some.object
    (object-here (program_in c.args.scene.now) c.args.unit _ c.object_at.result c.in-Some.object c.object_at.ensures c.in-Some.is) c.unit_at.ensures.name (get_or c.in-Some.object.ops.now c.args.op c.index-object-op.result)
    (ap (get_or c.in-Some.object.ops.now c.args.op) c.index-object-op.is) depth (known_from (program_in c.args.scene.now) c.args.task c.args.unit (drop (suc c.args.here) c.args.events.now)) c.args.self.now.states.items _
    c.replace-before.result c.in_ok-after.after c.args.values.now (search rules) (search rules)
    (c.in_ok-after.ensures.service depth (object_of (unit_name (program_in c.args.scene.now) c.args.unit) c.in-Some.object)
    (body-all (program_in c.args.scene.now) c.requires.scene.rules c.args.task c.args.unit c.args.op c.requires.unit c.requires.op _ _ c.in-Some.object
    (object-here (program_in c.args.scene.now) c.args.unit _ c.object_at.result c.in-Some.object c.object_at.ensures c.in-Some.is) c.unit_at.ensures.name (get_or c.in-Some.object.ops.now c.args.op c.index-object-op.result)
    (ap (get_or c.in-Some.object.ops.now c.args.op) c.index-object-op.is) (λ b. MayRun (leads_to (software_of c.args.scene.now)) depth b) may) refl
    (body-named (program_in c.args.scene.now) c.requires.scene.rules c.args.task c.args.unit c.args.op c.requires.unit c.requires.op _ _ c.in-Some.object
    (object-here (program_in c.args.scene.now) c.args.unit _ c.object_at.result c.in-Some.object c.object_at.ensures c.in-Some.is) c.unit_at.ensures.name (get_or c.in-Some.object.ops.now c.args.op c.index-object-op.result)
    (ap (get_or c.in-Some.object.ops.now c.args.op) c.index-object-op.is)))

pub returns-clause-charge : goal.returns-clause-charge
returns-clause-charge c = λ depth may.
    charge-made (program_in c.args.scene.now) c.requires.scene.rules c.args.task c.args.unit c.args.op c.requires.unit c.requires.op _ _ c.in-Some.object
    (object-here (program_in c.args.scene.now) c.args.unit _ c.object_at.result c.in-Some.object c.object_at.ensures c.in-Some.is) c.unit_at.ensures.name (get_or c.in-Some.object.ops.now c.args.op c.index-object-op.result)
    (ap (get_or c.in-Some.object.ops.now c.args.op) c.index-object-op.is) depth c.args.most (known_from (program_in c.args.scene.now) c.args.task c.args.unit (drop (suc c.args.here) c.args.events.now)) c.args.self.now.states.items
    c.replace-before.result c.args.values.now _ (search rules) (search rules)
    (c.in_ok-after.ensures.charge depth (object_of (unit_name (program_in c.args.scene.now) c.args.unit) c.in-Some.object)
    (body-all (program_in c.args.scene.now) c.requires.scene.rules c.args.task c.args.unit c.args.op c.requires.unit c.requires.op _ _ c.in-Some.object
    (object-here (program_in c.args.scene.now) c.args.unit _ c.object_at.result c.in-Some.object c.object_at.ensures c.in-Some.is) c.unit_at.ensures.name (get_or c.in-Some.object.ops.now c.args.op c.index-object-op.result)
    (ap (get_or c.in-Some.object.ops.now c.args.op) c.index-object-op.is) (λ b. MayRun (leads_to (software_of c.args.scene.now)) depth b) may) refl
    (body-named (program_in c.args.scene.now) c.requires.scene.rules c.args.task c.args.unit c.args.op c.requires.unit c.requires.op _ _ c.in-Some.object
    (object-here (program_in c.args.scene.now) c.args.unit _ c.object_at.result c.in-Some.object c.object_at.ensures c.in-Some.is) c.unit_at.ensures.name (get_or c.in-Some.object.ops.now c.args.op c.index-object-op.result)
    (ap (get_or c.in-Some.object.ops.now c.args.op) c.index-object-op.is)))
