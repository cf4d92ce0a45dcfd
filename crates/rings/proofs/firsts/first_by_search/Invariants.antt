use Rattle.std.proofs.Common.{ℕ, ◌<◌}
use Rattle.seq_tree.specs.Rings.{IsOnRing}
use Rattle.rings.specs.Reached.{leads, Goes}
use Rattle.rings.proofs.firsts.first_by_search.Given as goal

-- no node so far is on a ring
abbrev pub invariant-nodes : goal.invariant-nodes
invariant-nodes l = (n : ℕ) → n < l.node → IsOnRing (Goes (leads l.graph)) n → ⊥
