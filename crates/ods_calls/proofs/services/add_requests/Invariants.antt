use Rattle.std.proofs.Common.{◌≡◌, ◌++◌, map, drop, flat_map}
use Rattle.call_graph.specs.Entries.{entry_at}
use Rattle.ods_calls.specs.Costed.{request_served}
use Rattle.ods_index.specs.Walking.{standing_of}
use Rattle.ods_calls.proofs.services.add_requests.Given as goal

-- the requests so far, and those of the objects that are left
abbrev pub invariant-objects : goal.invariant-objects
invariant-objects l =
    map entry_at l.into.items ++ flat_map request_served (map standing_of (drop l.standing-index l.objects))
    ≡ map entry_at l.initial.into.items ++ flat_map request_served (map standing_of l.objects)
