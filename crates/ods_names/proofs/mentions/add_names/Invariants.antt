use Rattle.std.proofs.Common.{◌≡◌, ◌++◌, take}
use Rattle.ods_names.specs.NameLists.{names_of}
use Rattle.ods_names.proofs.mentions.add_names.Given as goal

-- the names so far
abbrev pub invariant-names : goal.invariant-names
invariant-names l = names_of l.into.items ≡ names_of l.initial.into.items ++ names_of (take l.name-index l.names)
