use Rattle.std.proofs.Common.{◌≡◌, ◌++◌, filter, map, drop}
use Rattle.ods_tree.specs.Trees.{design_of}
use Rattle.ods_calls.specs.Reaching.{reacher_of, thread_of}
use Rattle.ods_calls.specs.Sourced.{reaches_by}
use Rattle.ods_calls.specs.Spotted.{marked, spot_in}
use Rattle.ods_calls.specs.Starting.{Op}
use Rattle.ods_calls.proofs.sources.reachers_by.Given as goal

-- the threads so far, and those that are left
abbrev pub invariant-threads : goal.invariant-threads
invariant-threads l =
    map reacher_of l.reachers.items
    ++ filter (reaches_by (design_of l.starts.links.now.design.now) l.target (λ m. marked l.leading (spot_in l.starts.spots (Op m)))) (map thread_of (drop l.thread-index l.threads))
    ≡ filter (reaches_by (design_of l.starts.links.now.design.now) l.target (λ m. marked l.leading (spot_in l.starts.spots (Op m)))) (map thread_of l.threads)
