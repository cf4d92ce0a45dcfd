use Rattle.std.proofs.Common.{◌≡◌, drop}
use Rattle.seq_tree.specs.Names.{is_named}
use Rattle.ods_names.specs.NameLists.{names_of}
use Rattle.ods_names.proofs.clashes.is_among.Given as goal

-- the answer is that of the names that are left
abbrev pub invariant-names : goal.invariant-names
invariant-names l = is_named (names_of (drop l.other-index l.names)) l.name ≡ is_named (names_of l.names) l.name
