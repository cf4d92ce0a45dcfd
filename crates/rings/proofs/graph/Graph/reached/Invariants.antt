use Rattle.std.proofs.Common.{◌≡◌, ◌+◌, not, length}
use Rattle.std.specs.List.{count_by}
use Rattle.rings.proofs.Shared.Reaching.{Reaching}
use Rattle.rings.proofs.graph.Graph.reached.Given as goal

abbrev pub invariant-nodes : goal.invariant-nodes
invariant-nodes l = (length l.marks.items ≡ l.self.count) × Reaching l.self l.starts l.marks.items l.todo.items

abbrev pub decreases-nodes : goal.decreases-nodes
decreases-nodes l = count_by not l.marks.items + length l.todo.items
