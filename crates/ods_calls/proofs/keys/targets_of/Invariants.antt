use Rattle.std.proofs.Common.{◌≡◌, ◌||◌, map, drop, is_some}
use Rattle.seq_tree.specs.Names.{Name}
use Rattle.name_sets.specs.Places.{place_in}
use Rattle.ods_index.specs.Nodes.{node_object}
use Rattle.ods_calls.specs.Keys.{has_target}
use Rattle.ods_calls.proofs.keys.targets_of.Given as goal

-- the names so far, and those of the threads that are left
abbrev pub invariant-threads : goal.invariant-threads
invariant-threads l =
    (n : Name) → (is_some (place_in l.names n) || has_target (map node_object (drop l.node-index l.threads)) n)
    ≡ has_target (map node_object l.threads) n
