use Rattle.std.proofs.Common.{◌≡◌, ◌++◌, map, drop}
use Rattle.ods_calls.specs.Starting.{turned}
use Rattle.ods_calls.proofs.starts.turned_edges.Given as goal

-- those so far, and the edges that are left
abbrev pub invariant-edges : goal.invariant-edges
invariant-edges l = l.turned.items ++ map turned (drop l.edge-index l.edges) ≡ map turned l.edges
