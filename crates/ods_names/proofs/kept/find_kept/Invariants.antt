use Rattle.std.proofs.Common.{◌≡◌, not, find, drop}
use Rattle.ada_tree.specs.Words.{is_ada_name}
use Rattle.ods_names.specs.NameLists.{names_of}
use Rattle.ods_names.proofs.kept.find_kept.Given as goal

-- the first is that of the names that are left
abbrev pub invariant-names : goal.invariant-names
invariant-names l = find (λ n. not (is_ada_name n)) (names_of (drop l.name-index l.names)) ≡ find (λ n. not (is_ada_name n)) (names_of l.names)
