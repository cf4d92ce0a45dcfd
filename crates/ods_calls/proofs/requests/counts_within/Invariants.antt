use Rattle.std.proofs.Common.{map}
use Rattle.ods_tree.specs.Trees.{design_of}
use Rattle.design_rules.specs.Sources.{starts_within}
use Rattle.ods_calls.specs.Requested.{AreDue, Knows}
use Rattle.ods_calls.proofs.requests.counts_within.Given as goal
use Rattle.seq_cost.specs.Different.{call_of}

-- calls are followed as deep as there were turns, and what changes next is due
abbrev pub invariant-levels : goal.invariant-levels
invariant-levels l =
    Knows l.known (starts_within l.counter (design_of l.links.design.now) l.target)
    × AreDue (design_of l.links.design.now) l.target l.counter (map call_of l.due.items)
