use Rattle.std.proofs.Common.{◌≡◌, ◌++◌, map, drop, flat_map}
use Rattle.ods_tree.specs.Trees.{library_of}
use Rattle.rt_block.specs.Ceilings.{for_each}
use Rattle.rt_block.proofs.ceilings.add_libraries.Given as goal

-- the ceilings so far, and those of the objects that are left
abbrev pub invariant-passive : goal.invariant-passive
invariant-passive l =
    l.into.items ++ flat_map (λ o. for_each 0 o.ops) (map library_of (drop l.object-index l.passive)) ≡ l.initial.into.items
    ++ flat_map (λ o. for_each 0 o.ops) (map library_of l.passive)
