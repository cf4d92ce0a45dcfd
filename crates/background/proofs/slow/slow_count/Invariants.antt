use Rattle.std.proofs.Common.{◌≡◌, ◌+◌, ◌≤◌, drop, filter, length, map}
use Rattle.ods_tree.specs.Trees.{thread_of}
use Rattle.background.specs.Fronts.{is_slow}
use Rattle.background.proofs.slow.slow_count.Given as goal

-- those so far, and those of the threads that are left
abbrev pub invariant-threads : goal.invariant-threads
invariant-threads l =
    (l.count + length (filter is_slow (map thread_of (drop l.thread-index l.threads))) ≡ length (filter is_slow (map thread_of l.threads)))
    × (l.count ≤ l.thread-index)
