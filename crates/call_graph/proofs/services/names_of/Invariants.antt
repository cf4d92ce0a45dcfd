use Rattle.std.proofs.Common.{◌≡◌, ◌++◌, map, drop}
use Rattle.seq_cost.specs.Different.{call_of}
use Rattle.call_graph.specs.Entries.{entry_at}
use Rattle.call_graph.proofs.services.names_of.Given as goal

-- the names so far, and those of the operations that are left
abbrev pub invariant-services : goal.invariant-services
invariant-services l =
    map call_of l.names.items ++ map (λ e. e.name) (map entry_at (drop l.served-index l.services)) ≡ map (λ e. e.name) (map entry_at l.services)
