use Rattle.std.proofs.Common.{◌≡◌, drop}
use Rattle.std.specs.List.{list_any}
use Rattle.rings.specs.Ranks.{falls}
use Rattle.rings.proofs.components.any_falls.Given as goal

-- no edge so far falls
abbrev pub invariant-edges : goal.invariant-edges
invariant-edges l = list_any (falls l.count l.ranks) (drop l.edge-index l.edges) ≡ list_any (falls l.count l.ranks) l.edges
