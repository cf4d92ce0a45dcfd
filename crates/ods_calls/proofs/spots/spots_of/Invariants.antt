use Rattle.std.proofs.Common.{◌≡◌, ◌++◌, filter, map, drop}
use Rattle.ods_index.specs.Calling.{Calls, calls_of}
use Rattle.ods_index.specs.Nodes.{node_object}
use Rattle.ods_calls.specs.Held.{is_held}
use Rattle.ods_calls.specs.Spotted.{spot_of}
use Rattle.ods_calls.specs.Starting.{Op, spots_among}
use Rattle.ods_calls.proofs.spots.spots_of.Given as goal

-- those so far, and the operations of the bodies that are left
abbrev pub invariant-calls : goal.invariant-calls
invariant-calls l =
    map spot_of l.spots.items ++ map (λ (h : Calls). Op h.name) (filter is_held (map calls_of (drop l.body-index l.calls)))
    ≡ spots_among (map node_object l.threads) (filter is_held (map calls_of l.calls))
