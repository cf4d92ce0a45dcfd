use Rattle.std.proofs.Common.{◌≡◌, true, map, take, flat_map}
use Rattle.seq_tree.specs.Names.{Name, is_named}
use Rattle.ada_tree.specs.Trees.{program_of, unit_of}
use Rattle.ada_tree.specs.Naming.{breaks_naming, inner_names}
use Rattle.ada_rules.specs.Firsts.{NoneBefore}
use Rattle.name_sets.specs.Sets.{has}
use Rattle.ada_rules.proofs.naming.first_by_names.Given as goal

-- the names of the units before, those inside them, and that none of them breaks the rule
abbrev pub invariant-units : goal.invariant-units
invariant-units l = record {
  names : (n : Name) → has l.units n ≡ is_named (map (λ v. v.name) (take l.place (map unit_of l.list))) n;
  inside : (n : Name) → has l.inner n ≡ is_named (flat_map (λ v. inner_names v.form) (take l.place (map unit_of l.list))) n;
  before : NoneBefore (λ place u. breaks_naming (program_of l.program) place u ≡ true) (map unit_of l.list) l.place;
}
