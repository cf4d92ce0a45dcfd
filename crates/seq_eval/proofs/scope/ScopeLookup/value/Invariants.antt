use Rattle.std.proofs.Common.{◌≡◌, ◌≤◌, length, take}
use Rattle.seq_eval.specs.Lookups.{found}
use Rattle.seq_eval.specs.Scopes.{vars_of}
use Rattle.seq_eval.proofs.scope.ScopeLookup.value.Given as goal

-- the innermost variable of that name stands among those up to here
abbrev pub invariant-vars : goal.invariant-vars
invariant-vars l = record {
  within : l.at ≤ length l.self-inside.vars.items;
  same : found l.name (vars_of (take l.at l.self-inside.vars.items)) ≡ found l.name (vars_of l.self-inside.vars.items);
}

abbrev pub decreases-vars : goal.decreases-vars
decreases-vars l = l.at
