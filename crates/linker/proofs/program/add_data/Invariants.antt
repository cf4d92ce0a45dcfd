use Rattle.std.proofs.Common.{◌≡◌, ◌≤◌, ◌++◌, List, length, drop}
use Rattle.seq_tree.specs.Names.{Name}
use Rattle.linker.specs.Programs.{datum_names}
use Rattle.linker.specs.Scopes.{slots_of}
use Rattle.linker.proofs.program.add_data.Given as goal

-- the data from this one on are added
abbrev pub invariant-vars : goal.invariant-vars
invariant-vars l = record {
  within : l.at ≤ length l.vars;
  added : (ns : List Name) → l.fn.scope ≡ slots_of ns → l.scope ≡ slots_of (datum_names (drop l.at l.vars) ++ ns);
}

abbrev pub decreases-vars : goal.decreases-vars
decreases-vars l = l.at
