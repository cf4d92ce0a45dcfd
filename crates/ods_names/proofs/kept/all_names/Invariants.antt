use Rattle.std.proofs.Common.{◌≡◌, ◌++◌, map, flat_map, drop}
use Rattle.ods_tree.specs.Trees.{design_of}
use Rattle.design_rules.specs.Words.{object_names}
use Rattle.ods_index.specs.Walking.{standing_of}
use Rattle.ods_names.specs.NameLists.{all_names, names_of}
use Rattle.ods_names.proofs.kept.all_names.Given as goal

-- the names so far, and those of the objects that are left
abbrev pub invariant-objects : goal.invariant-objects
invariant-objects l = names_of l.names.items ++ flat_map (λ s. object_names s.own) (map standing_of (drop l.standing-index l.standing-items))
    ≡ all_names (design_of l.index.design.now)
