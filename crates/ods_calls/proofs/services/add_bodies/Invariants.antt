use Rattle.std.proofs.Common.{◌≡◌, ◌++◌, map, drop}
use Rattle.std.specs.Prelude.{filter_map}
use Rattle.call_graph.specs.Entries.{entry_at}
use Rattle.ods_calls.specs.Costed.{body_entry}
use Rattle.ods_index.specs.Calling.{calls_of}
use Rattle.ods_calls.proofs.services.add_bodies.Given as goal

-- the operations so far, and those of the bodies that are left
abbrev pub invariant-bodies : goal.invariant-bodies
invariant-bodies l =
    map entry_at l.into.items ++ filter_map (body_entry l.kind) (map calls_of (drop l.calls-index l.bodies))
    ≡ map entry_at l.initial.into.items ++ filter_map (body_entry l.kind) (map calls_of l.bodies)
