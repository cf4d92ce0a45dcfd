use Rattle.std.proofs.Common.{◌≡◌, ◌≤◌, ◌++◌, length, drop, take}
use Rattle.seq_tree.specs.Variables.{write}
use Rattle.seq_eval.specs.Scopes.{vars_of}
use Rattle.seq_eval.proofs.scope.Scope.write.Given as goal

-- no variable from here on has the name
abbrev pub invariant-vars : goal.invariant-vars
invariant-vars l = record {
  within : l.at ≤ length l.self-inside.vars.items;
  same : vars_of l.self-inside.vars.items ≡ l.fn.self;
  written : write l.name l.value (vars_of l.self-inside.vars.items)
      ≡ vars_of (drop l.at l.self-inside.vars.items) ++ write l.name l.value (vars_of (take l.at l.self-inside.vars.items));
}

abbrev pub decreases-vars : goal.decreases-vars
decreases-vars l = l.at
