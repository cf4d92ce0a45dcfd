use Rattle.std.proofs.Common.{◌≡◌, ◌++◌, map, drop, flat_map}
use Rattle.ods_tree.specs.Trees.{guarded_of}
use Rattle.rt_block.specs.Known.{design}
use Rattle.rt_block.specs.PartCosts.{body_cost}
use Rattle.rt_block.proofs.parts.add_shared.Given as goal

-- the costs so far, and those of the objects that are left
abbrev pub invariant-shared : goal.invariant-shared
invariant-shared l =
    l.into.items ++ flat_map (λ o. map (body_cost (design l.operations)) o.ops) (map guarded_of (drop l.object-index l.shared)) ≡ l.initial.into.items
    ++ flat_map (λ o. map (body_cost (design l.operations)) o.ops) (map guarded_of l.shared)
