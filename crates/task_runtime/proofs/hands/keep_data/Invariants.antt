use Rattle.std.proofs.Common.{◌≡◌, ◌≤◌, ◌+◌, length, drop, vec_capacity, vec_len}
use Rattle.linker.specs.Slots.{vars_at}
use Rattle.linker.specs.Programs.{datum_names}
use Rattle.linker.specs.Scopes.{slots_of}
use Rattle.task_runtime.specs.Stacked.{vars_of}
use Rattle.task_runtime.proofs.hands.keep_data.Given as goal

-- the data from here on are kept
abbrev pub invariant-data : goal.invariant-data
invariant-data l = record {
  within : l.at ≤ length l.«data»;
  count : vec_len l.into + l.at ≡ length l.«data»;
  vars : vars_of l.into.items ≡ vars_at (slots_of (datum_names (drop l.at l.«data»))) l.slots.here;
  room : vec_capacity l.into ≡ vec_capacity l.fn.into;
}

abbrev pub decreases-data : goal.decreases-data
decreases-data l = l.at
