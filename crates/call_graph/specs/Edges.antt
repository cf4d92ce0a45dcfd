-- Calls as edges between places: one for each call, from the place of who calls to that of what is called.
-- What has no place has no edge. Places count from 0.
use Rattle.std.specs.Prelude.{ℕ, List, [], map, filter_map, Option, Some, None}
use Rattle.seq_tree.specs.declared.tree.OpName.{OpName}

-- the edges from a place to those of these operations
abbrev pub edges_to : (OpName → Option ℕ) → ℕ → List OpName → List (ℕ × ℕ)
edges_to target from ops = map (λ t. (from, t)) (filter_map target ops)

-- the edges of what has a place
abbrev pub edges_from : (OpName → Option ℕ) → Option ℕ → List OpName → List (ℕ × ℕ)
edges_from target None ops = []
edges_from target (Some from) ops = edges_to target from ops
