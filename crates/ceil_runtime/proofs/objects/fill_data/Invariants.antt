use Rattle.std.proofs.Common.{◌≡◌, ◌≤◌, ◌+◌, ◌++◌, length, drop, vec_capacity, vec_len}
use Rattle.seq_tree.specs.Variables.{written}
use Rattle.task_runtime.specs.Stacked.{vars_of}
use Rattle.ceil_runtime.proofs.objects.fill_data.Given as goal

-- the data from here on are variables
abbrev pub invariant-data : goal.invariant-data
invariant-data l = record {
  within : l.at ≤ length l.«data»;
  count : vec_len l.vars + l.at ≡ vec_len l.fn.vars + length l.«data»;
  vars : vars_of l.vars.items ≡ written (drop l.at l.«data») ++ vars_of l.fn.vars.items;
  room : vec_capacity l.vars ≡ vec_capacity l.fn.vars;
}

abbrev pub decreases-data : goal.decreases-data
decreases-data l = l.at
