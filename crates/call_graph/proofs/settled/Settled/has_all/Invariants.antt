use Rattle.std.proofs.Common.{◌≡◌, drop}
use Rattle.std.specs.List.{list_all}
use Rattle.call_graph.specs.Settled.{is_done}
use Rattle.call_graph.proofs.settled.Settled.has_all.Given as goal

-- it is up to the places that are left
abbrev pub invariant-places : goal.invariant-places
invariant-places l = list_all (is_done l.self) (drop l.place-index l.places) ≡ list_all (is_done l.self) l.places
