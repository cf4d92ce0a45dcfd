use Rattle.std.proofs.Common.{◌≡◌, ◌++◌, map, take}
use Rattle.ods_names.specs.NameLists.{names_of}
use Rattle.ods_names.proofs.kept.add_data.Given as goal

-- the names so far are those of the data so far
abbrev pub invariant-vars : goal.invariant-vars
invariant-vars l = names_of l.names.items ≡ names_of l.initial.names.items ++ map (λ d. d.name) (take l.datum-index l.vars)
