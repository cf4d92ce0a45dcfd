use Rattle.std.proofs.Common.{◌≡◌, ℕ, ◌||◌, drop}
use Rattle.rings.specs.Graphs.{has_number, is_step, targets_at}
use Rattle.rings.proofs.targets.targets_of.Given as goal

-- the edges so far, and those that are left
abbrev pub invariant-edges : goal.invariant-edges
invariant-edges l = (a b : ℕ) → (has_number (targets_at l.targets a) b || is_step l.count (drop l.edge-index l.edges) a b)
    ≡ is_step l.count l.edges a b
