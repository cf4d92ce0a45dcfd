use Rattle.std.proofs.Common.{◌≡◌, ◌++◌, map, flat_map, drop}
use Rattle.ods_tree.specs.Trees.{provided_of}
use Rattle.design_rules.specs.Words.{provided_names}
use Rattle.ods_names.specs.NameLists.{names_of}
use Rattle.ods_names.proofs.kept.add_ops.Given as goal

-- the names so far, and those of the operations that are left
abbrev pub invariant-provides : goal.invariant-provides
invariant-provides l = names_of l.names.items ++ flat_map provided_names (map provided_of (drop l.provided-index l.provides))
    ≡ names_of l.initial.names.items ++ flat_map provided_names (map provided_of l.provides)
