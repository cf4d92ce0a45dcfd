use Rattle.std.proofs.Common.{◌≡◌, ◌++◌, map, drop}
use Rattle.seq_cost.specs.Different.{call_of}
use Rattle.ada_rules.specs.Callers.{caller_of, names}
use Rattle.ada_rules.proofs.callers.names_of.Given as goal

-- the names so far, and those of the operations that are left
abbrev pub invariant-callers : goal.invariant-callers
invariant-callers l =
    map call_of l.all.items ++ names (map caller_of (drop l.caller-index l.callers)) ≡ names (map caller_of l.callers)
