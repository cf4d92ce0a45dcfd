use Rattle.std.proofs.Common.{◌≡◌, length, map, take}
use Rattle.call_graph.specs.Places.{work_places}
use Rattle.call_graph.specs.Entries.{entry_at}
use Rattle.call_graph.proofs.callees.all_calls.Given as goal

-- the places so far are those of the operations so far
abbrev pub invariant-services : goal.invariant-services
invariant-services g l = record {
  places : map (λ v. v.items) l.calls.items
      ≡ map (λ e. work_places (g.P.CallPlaces.places l.places) e.work) (map entry_at (take l.served-index l.services));
  many : length l.calls.items ≡ l.served-index;
}
