use Rattle.std.proofs.Common.{◌≡◌, ◌≤◌, ◌+◌, ◌++◌, List, length, drop}
use Rattle.seq_tree.specs.Names.{Name}
use Rattle.seq_tree.specs.Variables.{written}
use Rattle.linker.specs.Slots.{vars_at}
use Rattle.linker.specs.Programs.{datum_names}
use Rattle.linker.specs.Scopes.{slots_of}
use Rattle.task_runtime.proofs.opening.open_data.Given as goal

-- the data from here on have their slots
abbrev pub invariant-data : goal.invariant-data
invariant-data l = record {
  within : l.at ≤ length l.«data»;
  vars : (ns : List Name) → length ns + length l.«data» ≡ l.top
      → vars_at (slots_of (datum_names (drop l.at l.«data») ++ ns)) l.slots.here
      ≡ written (drop l.at l.«data») ++ vars_at (slots_of ns) l.fn.slots.here;
  len : length l.slots.here ≡ length l.fn.slots.here;
  away : l.slots.away ≡ l.fn.slots.away;
}

abbrev pub decreases-data : goal.decreases-data
decreases-data l = l.at
