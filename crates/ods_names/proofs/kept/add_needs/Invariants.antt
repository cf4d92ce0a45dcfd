use Rattle.std.proofs.Common.{◌≡◌, ◌++◌, flat_map, drop}
use Rattle.design_rules.specs.Words.{op_names}
use Rattle.ods_names.specs.NameLists.{names_of}
use Rattle.ods_names.proofs.kept.add_needs.Given as goal

-- the names so far, and those of the operations that are left
abbrev pub invariant-needs : goal.invariant-needs
invariant-needs l = names_of l.names.items ++ flat_map op_names (drop l.need-index l.needs)
    ≡ names_of l.initial.names.items ++ flat_map op_names l.needs
