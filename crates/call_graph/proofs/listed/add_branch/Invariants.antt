use Rattle.std.proofs.Common.{◌≡◌, false, map, drop}
use Rattle.name_sets.specs.Sets.{has_op}
use Rattle.seq_cost.specs.Different.{call_of}
use Rattle.call_graph.specs.Branched.{AreNames}
use Rattle.call_graph.specs.Listed.{listed_all}
use Rattle.call_graph.proofs.listed.add_branch.Given as goal

-- what is listed so far, and the calls that are left
abbrev pub invariant-calls : goal.invariant-calls
invariant-calls l =
    AreNames l.names (map call_of l.listed.items)
    × (listed_all (has_op l.seen) (map call_of l.listed.items) (map call_of (drop l.call-index l.calls))
    ≡ listed_all (λ n. false) (map call_of l.initial.listed.items) (map call_of l.calls))
