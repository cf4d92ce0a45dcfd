use Rattle.std.proofs.Common.{◌≡◌, ◌++◌, map, drop, flat_map, zip}
use Rattle.ods_tree.specs.Trees.{thread_of}
use Rattle.rt_block.specs.Ceilings.{asked_ceiling}
use Rattle.rt_block.proofs.ceilings.add_controls.Given as goal

-- the ceilings so far, and those of the threads that are left
abbrev pub invariant-threads : goal.invariant-threads
invariant-threads l =
    l.into.items ++ flat_map (λ t. asked_ceiling t.0.timing t.1) (zip (map thread_of (drop l.i l.threads)) (drop l.i l.ceilings))
    ≡ l.initial.into.items
    ++ flat_map (λ t. asked_ceiling t.0.timing t.1) (zip (map thread_of l.threads) l.ceilings)
