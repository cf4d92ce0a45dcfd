use Rattle.std.proofs.Common.{◌≤◌, length}
use Rattle.rings.proofs.ranks.targets_first.Given as goal

-- there is at most one node a turn
abbrev pub invariant-nodes : goal.invariant-nodes
invariant-nodes l = length l.order.items ≤ l.counter
