use Rattle.std.proofs.Common.{◌≡◌, drop, map, not, option_map}
use Rattle.std.specs.List.{list_any}
use Rattle.seq_cost.specs.Different.{call_of}
use Rattle.call_graph.specs.Once.{depth_at, fits, from_at}
use Rattle.call_graph.proofs.ways.Ways.any_misfit.Given as goal

-- it is up to the calls that are left
abbrev pub invariant-calls : goal.invariant-calls
invariant-calls l =
    list_any (λ k. not (fits (depth_at l.self) (from_at l.self) (option_map call_of l.from) k)) (map call_of (drop l.op-index l.calls))
    ≡ list_any (λ k. not (fits (depth_at l.self) (from_at l.self) (option_map call_of l.from) k)) (map call_of l.calls)
