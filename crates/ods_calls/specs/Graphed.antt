-- Graphs of calls by places, and that between terminal operations: an edge for each call in a body, links followed.
-- Places are those of `FirstPlaces` of name_sets.
use Rattle.std.specs.Prelude.{ℕ, Bool, List, flat_map, length, Option}
use Rattle.seq_tree.specs.declared.tree.OpName.{OpName}
use Rattle.ods_tree.specs.Designs.{Design}
use Rattle.call_graph.specs.Edges.{edges_from}
use Rattle.name_sets.specs.FirstPlaces.{op_place_from}
use Rattle.ods_index.specs.Calling.{Calls, design_calls}
use Rattle.rings.specs.Graphs.{is_step}

-- the edges of a body
abbrev pub body_edges : (Calls → Option ℕ) → (OpName → Option ℕ) → Calls → List (ℕ × ℕ)
body_edges source target c = edges_from target (source c) c.meant

-- the steps between the places of these operations: an edge for each call
abbrev pub calls_step : Design → List OpName → ℕ → ℕ → Bool
calls_step x ops = is_step (length ops) (flat_map (body_edges (λ c. op_place_from 0 ops c.name) (op_place_from 0 ops)) (design_calls x))
