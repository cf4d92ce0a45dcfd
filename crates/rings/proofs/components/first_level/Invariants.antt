use Rattle.std.proofs.Common.{◌≡◌, ◌&&◌, ℕ, drop, not}
use Rattle.std.specs.List.{list_any}
use Rattle.rings.specs.Ranks.{is_before, stays}
use Rattle.rings.proofs.components.first_level.Given as goal

-- the first so far, and the edges that are left
abbrev pub invariant-edges : goal.invariant-edges
invariant-edges l = (n : ℕ) → (is_before n l.first && not (list_any (stays l.count l.ranks n) (drop l.edge-index l.edges)))
    ≡ not (list_any (stays l.count l.ranks n) l.edges)
