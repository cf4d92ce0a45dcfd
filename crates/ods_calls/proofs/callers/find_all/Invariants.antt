use Rattle.std.proofs.Common.{◌≡◌, map, drop}
use Rattle.ods_calls.specs.Spreading.{IsSeen, found_all}
use Rattle.ods_calls.proofs.callers.find_all.Given as goal
use Rattle.seq_cost.specs.Different.{call_of}

-- what was found so far, and the operations that are left
abbrev pub invariant-ops : goal.invariant-ops
invariant-ops l =
    IsSeen l.seen (map call_of l.found.items)
    × (found_all (map call_of l.found.items) (map call_of (drop l.op-index l.ops)) ≡ found_all (map call_of l.initial.found.items) (map call_of l.ops))
