use Rattle.std.proofs.Common.{◌≡◌, ◌++◌, map, flat_map, drop}
use Rattle.ods_tree.specs.Trees.{provided_of}
use Rattle.design_rules.specs.Clashes.{operation_mentions}
use Rattle.ods_names.specs.Mentions.{gathered}
use Rattle.ods_index.specs.Walking.{object_of}
use Rattle.ods_names.proofs.mentions.add_operations.Given as goal

-- the names so far, and those of the operations that are left
abbrev pub invariant-provides : goal.invariant-provides
invariant-provides l =
    gathered l.source.index.now l.into.items ++ flat_map (operation_mentions l.place (object_of l.node))
    (map provided_of (drop l.provided-index l.provides))
    ≡ gathered l.source.index.now l.initial.into.items ++ flat_map (operation_mentions l.place (object_of l.node)) (map provided_of l.provides)
