use Rattle.std.proofs.Common.{◌≡◌, flat_map, map, drop}
use Rattle.ods_calls.specs.Requesters.{by_op}
use Rattle.ods_calls.specs.Spreading.{IsSeen, found_all}
use Rattle.ods_calls.proofs.callers.follow_all.Given as goal
use Rattle.seq_cost.specs.Different.{call_of}

-- what was found so far, and what the operations call that are left
abbrev pub invariant-ops : goal.invariant-ops
invariant-ops l =
    IsSeen l.seen (map call_of l.found.items)
    × (found_all (map call_of l.found.items) (flat_map (by_op l.callers) (map call_of (drop l.op-index l.ops)))
    ≡ found_all (map call_of l.initial.found.items) (flat_map (by_op l.callers) (map call_of l.ops)))
