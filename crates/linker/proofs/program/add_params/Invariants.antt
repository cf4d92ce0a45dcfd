use Rattle.std.proofs.Common.{◌≡◌, ◌≤◌, ◌++◌, List, length, drop}
use Rattle.seq_tree.specs.Names.{Name}
use Rattle.linker.specs.Programs.{param_names}
use Rattle.linker.specs.Scopes.{slots_of}
use Rattle.linker.proofs.program.add_params.Given as goal

-- the parameters from this one on are added
abbrev pub invariant-params : goal.invariant-params
invariant-params l = record {
  within : l.at ≤ length l.params;
  added : (ns : List Name) → l.fn.scope ≡ slots_of ns → l.scope ≡ slots_of (param_names (drop l.at l.params) ++ ns);
}

abbrev pub decreases-params : goal.decreases-params
decreases-params l = l.at
