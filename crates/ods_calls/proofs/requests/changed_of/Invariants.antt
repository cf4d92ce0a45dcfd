use Rattle.std.proofs.Common.{◌≡◌, ◌++◌, filter, map, drop}
use Rattle.ods_calls.specs.Requested.{changes}
use Rattle.ods_calls.proofs.requests.changed_of.Given as goal
use Rattle.seq_cost.specs.Different.{call_of}

-- those so far, and those that are left
abbrev pub invariant-ops : goal.invariant-ops
invariant-ops l =
    map call_of l.changed.items ++ filter (changes l.known l.counts) (map call_of (drop l.op-index l.ops))
    ≡ filter (changes l.known l.counts) (map call_of l.ops)
