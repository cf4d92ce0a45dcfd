use Rattle.std.proofs.Common.{◌≡◌, ◌&&◌, ◌||◌, drop, take}
use Rattle.seq_tree.specs.Names.{Name, is_named}
use Rattle.ada_rules.specs.Clashes.{are_new}
use Rattle.ada_rules.specs.Lists.{names_of}
use Rattle.name_sets.specs.Sets.{has}
use Rattle.ada_rules.proofs.clashes.add_new.Given as goal

-- what the names so far are, and those that are left
abbrev pub invariant-names : goal.invariant-names
invariant-names l = record {
  told : (l.all_new && are_new (λ n. has l.inside n || has l.taken n) (names_of (drop l.name-index l.names))) ≡ are_new (λ n. has l.initial.inside n
      || has l.taken n) (names_of l.names);
  added : (n : Name) → has l.inside n ≡ (is_named (names_of (take l.name-index l.names)) n || has l.initial.inside n);
}
