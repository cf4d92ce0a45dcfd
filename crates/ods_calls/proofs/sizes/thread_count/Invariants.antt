use Rattle.std.proofs.Common.{◌≡◌, ◌+◌, ◌≤◌, map, drop, length}
use Rattle.ods_calls.specs.Costed.{threads_among}
use Rattle.ods_index.specs.Walking.{standing_of}
use Rattle.ods_calls.proofs.sizes.thread_count.Given as goal

-- with those that are left it is the count of all, and it is no more than the objects so far
abbrev pub invariant-objects : goal.invariant-objects
invariant-objects l =
    (l.count + length (threads_among (map standing_of (drop l.standing-index l.objects))) ≡ length (threads_among (map standing_of l.objects)))
    × (l.count ≤ l.standing-index)
