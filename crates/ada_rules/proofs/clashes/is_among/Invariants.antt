use Rattle.std.proofs.Common.{◌≡◌, drop}
use Rattle.seq_tree.specs.Names.{is_named}
use Rattle.ada_rules.specs.Lists.{names_of}
use Rattle.ada_rules.proofs.clashes.is_among.Given as goal

-- it is among those that are left
abbrev pub invariant-names : goal.invariant-names
invariant-names l = is_named (names_of (drop l.other-index l.names)) l.name ≡ is_named (names_of l.names) l.name
