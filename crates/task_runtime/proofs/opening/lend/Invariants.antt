use Rattle.std.proofs.Common.{◌≡◌, ◌≤◌, ◌-◌, length, take}
use Rattle.linker.specs.Slots.{vars_at}
use Rattle.linker.specs.Scopes.{slots_of}
use Rattle.task_runtime.specs.Fitting.{names_of}
use Rattle.task_runtime.specs.Stacked.{vars_of}
use Rattle.task_runtime.proofs.opening.lend.Given as goal

-- the first data have their slots
abbrev pub invariant-data : goal.invariant-data
invariant-data l = record {
  within : l.at ≤ length l.«data»;
  vars : vars_at (slots_of (names_of (vars_of (take l.at l.«data»)))) l.slots.here ≡ vars_of (take l.at l.«data»);
  len : length l.slots.here ≡ length l.fn.slots.here;
  away : l.slots.away ≡ l.fn.slots.away;
}

abbrev pub decreases-data : goal.decreases-data
decreases-data l = length l.«data» - l.at
