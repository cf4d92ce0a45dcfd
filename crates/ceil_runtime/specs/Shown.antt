-- What a machine stands for: what runs, and where its run stands.
-- A ready task's order number is its place in the order of dispatch, from 1; that of any other task is 0.
use Rattle.std.specs.Prelude.{◌≡◌, List, map, None}
use Rattle.seq_tree.specs.Variables.{Variables}
use Rattle.machine.specs.Meanings.{Running}
use Rattle.machine.specs.States.{State, Effects}
use Rattle.ceil_runtime.specs.Objects.{store_of}
use Rattle.ceil_runtime.specs.Snapshots.{IsWholeAt, Snapshot, running_at}
use Rattle.ceil_runtime.specs.declared.processor.Machine.{Machine}

-- the data of the protected objects
abbrev pub stores_of : Machine → List Variables
stores_of m = map store_of m.objects.items

-- all that its steps depend on
abbrev pub snapshot_of : Machine → Snapshot
snapshot_of m = record {
  until = m.until;
  costs = m.costs;
  units = m.units.now;
  code = m.code;
  stores = stores_of m;
  arrivals = m.arrivals.now;
  time = m.time;
  phase = m.phase;
  ran = m.ran;
  stopped = m.stopped;
  tasks = m.tasks.items;
  queues = m.links;
}

-- what runs, and where it stands
abbrev pub running_of : Machine → Running
running_of m = running_at (snapshot_of m)

-- a processor whose lists are those of its tasks, and whose tasks are at work over its code
abbrev pub IsWhole : Machine → Type 0
IsWhole m = IsWholeAt (snapshot_of m)

-- no task has effects: the part of the instant is another one, or no task used the tick before
abbrev pub IsSettled : State → Type 0
IsSettled s = s.phase ≡ Effects → s.ran ≡ None
