use Rattle.std.proofs.Common.{◌≡◌, ◌≤◌, ◌-◌, length, map, take}
use Rattle.seq_eval.specs.Ends.{names_of}
use Rattle.seq_eval.proofs.along.set_values.Given as goal

-- the variables up to here have their values
abbrev pub invariant-values : goal.invariant-values
invariant-values l = record {
  within : l.at ≤ length l.values;
  even : length l.env.slots.items ≡ length l.values;
  names : names_of l.env.slots.items ≡ names_of l.fn.env.slots.items;
  set : map (λ v. v.1) (take l.at l.env.slots.items) ≡ take l.at l.values;
}

abbrev pub decreases-values : goal.decreases-values
decreases-values l = length l.values - l.at
