use Rattle.std.proofs.Common.{◌≡◌, ◌++◌, flat_map, map, drop}
use Rattle.seq_cost.specs.Different.{call_of}
use Rattle.ods_tree.specs.Trees.{design_of}
use Rattle.ods_calls.specs.Reaching.{thread_of}
use Rattle.ods_calls.specs.Keys.{thread_keys}
use Rattle.ods_calls.proofs.once.add_threads.Given as goal

-- the names so far, and the threads that are left
abbrev pub invariant-threads : goal.invariant-threads
invariant-threads l =
    map call_of l.into.items ++ flat_map (thread_keys l.targets (design_of l.links.design.now)) (map thread_of (drop l.node-index l.threads))
    ≡ map call_of l.initial.into.items ++ flat_map (thread_keys l.targets (design_of l.links.design.now)) (map thread_of l.threads)
