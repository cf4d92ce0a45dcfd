-- Examples of calls as edges between places, beside what is broken alone.
use Rattle.std.proofs.Common.{◌≡◌, ℕ, true, false, [], ◌∷◌, Option, Some, None, refl}
use Rattle.seq_tree.specs.declared.tree.OpName.{OpName}
use Rattle.name_sets.specs.FirstPlaces.{op_place_from}
use Rattle.call_graph.specs.Edges.{edges_from, edges_to}
use Rattle.call_graph.proofs.Shared.EdgeLaws.{has_edge, is_at}

abbrev f : OpName
f = record { object = 112 ∷ []; op = 102 ∷ [] }

abbrev g : OpName
g = record { object = 113 ∷ []; op = 103 ∷ [] }

abbrev h : OpName
h = record { object = 113 ∷ []; op = 104 ∷ [] }

-- edges go from a place to that of an operation, where it has one
abbrev place : OpName → Option ℕ
place = op_place_from 0 (f ∷ g ∷ [])

edge : edges_to place 1 (f ∷ []) ≡ (1, 0) ∷ []
edge = refl

edge_without_place : edges_to place 1 (h ∷ []) ≡ []
edge_without_place = refl

edges_from_place : edges_from place (Some 1) (f ∷ h ∷ []) ≡ (1, 0) ∷ []
edges_from_place = refl

edges_from_none : edges_from place None (f ∷ []) ≡ []
edges_from_none = refl

-- an edge leads one way
there : has_edge ((1, 0) ∷ []) 1 0 ≡ true
there = refl

not_back : has_edge ((1, 0) ∷ []) 0 1 ≡ false
not_back = refl

not_from_another : has_edge ((1, 0) ∷ []) 0 0 ≡ false
not_from_another = refl

not_to_another : has_edge ((1, 0) ∷ []) 1 1 ≡ false
not_to_another = refl

-- a place that is this one, that is another, and none
at : is_at (Some 1) 1 ≡ true
at = refl

not_at : is_at (Some 1) 0 ≡ false
not_at = refl

none_at : is_at None 0 ≡ false
none_at = refl
