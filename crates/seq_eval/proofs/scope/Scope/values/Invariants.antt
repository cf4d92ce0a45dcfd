use Rattle.std.proofs.Common.{◌≡◌, ◌≤◌, length, map, drop}
use Rattle.seq_eval.specs.Scopes.{vars_of}
use Rattle.seq_eval.proofs.scope.Scope.values.Given as goal

-- the values from here on are there
abbrev pub invariant-vars : goal.invariant-vars
invariant-vars l = record {
  within : l.at ≤ length l.self-inside.vars.items;
  values : l.values.items ≡ map (λ x. x.1) (vars_of (drop l.at l.self-inside.vars.items));
}

abbrev pub decreases-vars : goal.decreases-vars
decreases-vars l = l.at
