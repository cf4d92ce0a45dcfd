use Rattle.std.proofs.Common.{◌≡◌, false, is_some, drop, map}
use Rattle.seq_cost.specs.Different.{call_of}
use Rattle.name_sets.specs.Sets.{has_op}
use Rattle.call_graph.specs.Once.{depth_at, repeats}
use Rattle.call_graph.proofs.ways.Ways.repeats.Given as goal

-- it is up to the calls that are left, by what was seen
abbrev pub invariant-calls : goal.invariant-calls
invariant-calls l =
    repeats (λ k. is_some (depth_at l.self k)) (has_op l.seen) (map call_of (drop l.op-index l.calls))
    ≡ repeats (λ k. is_some (depth_at l.self k)) (λ n. false) (map call_of l.calls)
