use Rattle.std.proofs.Common.{◌≡◌, ◌++◌, map, take}
use Rattle.ada_rules.specs.Lists.{names_of}
use Rattle.ada_rules.proofs.lists.add_data.Given as goal

-- the names so far are those of the data so far
abbrev pub invariant-data : goal.invariant-data
invariant-data l = names_of l.names.items ≡ names_of l.initial.names.items ++ map (λ d. d.name) (take l.datum-index l.data)
