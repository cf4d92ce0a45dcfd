use Rattle.std.proofs.Common.{refl}
use Rattle.ceil_runtime.proofs.Gathered.{adds-none, adds-one, is-task, passive-none, shared-none}
use Rattle.ceil_runtime.proofs.threads.add_thread.Goals as goal

pub returns-in-Cyclic-clause-adds : goal.returns-in-Cyclic-clause-adds
returns-in-Cyclic-clause-adds c =
    adds-one c.args.work.now c.args.units.now c.args.place c.args.unit.now c.args.threads.now.items _ _
    (is-task c.args.work.now c.args.units.now c.args.place c.args.unit.now _ _ _ _ refl refl refl refl c.in-Cyclic.is refl c.as_slice.ensures.value
    c.as_slice-in-Cyclic.ensures.value) c.push_reserved.ensures.items

pub returns-in-Sporadic-clause-adds : goal.returns-in-Sporadic-clause-adds
returns-in-Sporadic-clause-adds c =
    adds-one c.args.work.now c.args.units.now c.args.place c.args.unit.now c.args.threads.now.items _ _
    (is-task c.args.work.now c.args.units.now c.args.place c.args.unit.now _ _ _ _ refl refl refl refl c.in-Sporadic.is refl
    c.as_slice-in-Sporadic.ensures.value c.as_slice-in-Sporadic-2.ensures.value) c.push_reserved-in-Sporadic.ensures.items

pub returns-in-Passive-clause-adds : goal.returns-in-Passive-clause-adds
returns-in-Passive-clause-adds c =
    adds-none c.args.work.now c.args.units.now c.args.place c.args.unit.now c.args.threads.now.items
    (passive-none c.args.work.now c.args.place c.args.unit.now _ c.in-Passive.is)

pub returns-in-Shared-clause-adds : goal.returns-in-Shared-clause-adds
returns-in-Shared-clause-adds c =
    adds-none c.args.work.now c.args.units.now c.args.place c.args.unit.now c.args.threads.now.items
    (shared-none c.args.work.now c.args.place c.args.unit.now _ _ _ c.in-Shared.is)
