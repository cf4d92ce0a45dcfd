use Rattle.std.proofs.Common.{◌≡◌, ◌++◌, map, drop, flat_map, zip}
use Rattle.ods_tree.specs.Trees.{guarded_of}
use Rattle.rt_block.specs.Ceilings.{for_each}
use Rattle.rt_block.proofs.ceilings.add_shared.Given as goal

-- the ceilings so far, and those of the objects that are left
abbrev pub invariant-shared : goal.invariant-shared
invariant-shared l =
    l.into.items ++ flat_map (λ g. for_each g.1 g.0.ops) (zip (map guarded_of (drop l.i l.shared)) (drop l.i l.ceilings)) ≡ l.initial.into.items
    ++ flat_map (λ g. for_each g.1 g.0.ops) (zip (map guarded_of l.shared) l.ceilings)
