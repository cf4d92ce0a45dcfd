use Rattle.std.proofs.Common.{◌≡◌, ◌++◌, map, drop, flat_map}
use Rattle.ods_tree.specs.Trees.{library_of}
use Rattle.rt_block.specs.Known.{design}
use Rattle.rt_block.specs.PartCosts.{body_cost}
use Rattle.rt_block.proofs.parts.add_libraries.Given as goal

-- the costs so far, and those of the objects that are left
abbrev pub invariant-passive : goal.invariant-passive
invariant-passive l =
    l.into.items ++ flat_map (λ o. map (body_cost (design l.operations)) o.ops) (map library_of (drop l.object-index l.passive)) ≡ l.initial.into.items
    ++ flat_map (λ o. map (body_cost (design l.operations)) o.ops) (map library_of l.passive)
