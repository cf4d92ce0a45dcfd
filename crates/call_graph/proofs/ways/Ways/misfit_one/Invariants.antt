use Rattle.std.proofs.Common.{◌≡◌, drop, map}
use Rattle.std.specs.List.{list_any}
use Rattle.call_graph.specs.Once.{caller_of, misfits}
use Rattle.call_graph.proofs.ways.Ways.misfit_one.Given as goal

-- it is up to the callers that are left
abbrev pub invariant-callers : goal.invariant-callers
invariant-callers l =
    list_any (misfits l.self) (map caller_of (drop l.caller-index l.callers)) ≡ list_any (misfits l.self) (map caller_of l.callers)
