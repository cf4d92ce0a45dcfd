use Rattle.std.proofs.Common.{◌≡◌, ◌++◌, flat_map, map, drop}
use Rattle.ods_tree.specs.Trees.{design_of}
use Rattle.ods_index.specs.Walking.{object_of}
use Rattle.ods_calls.specs.Spreading.{direct_calls}
use Rattle.ods_calls.proofs.starts.all_starts.Given as goal
use Rattle.seq_cost.specs.Different.{call_of}

-- the calls so far, and the threads that are left
abbrev pub invariant-threads : goal.invariant-threads
invariant-threads l =
    map call_of l.calls.items ++ flat_map (direct_calls (design_of l.links.design.now)) (map (λ t. object_of t.now) (drop l.node-index l.threads))
    ≡ flat_map (direct_calls (design_of l.links.design.now)) (map (λ t. object_of t.now) l.threads)
