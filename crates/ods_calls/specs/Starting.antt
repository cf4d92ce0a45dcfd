-- The graph of starts, by places: threads, and the protected operations through which they start each other.
-- A thread that is sporadic and a protected operation lead to what they call: to its operation, and to the thread of its object.
use Rattle.std.specs.Prelude.{ℕ, Bool, false, List, ◌++◌, map, flat_map, length, Option, None, if◌then◌else◌}
use Rattle.seq_tree.specs.Calls.{same_op}
use Rattle.seq_tree.specs.Names.{Name, same_name}
use Rattle.seq_tree.specs.declared.tree.OpName.{OpName}
use Rattle.ods_tree.specs.Designs.{Object, Design}
use Rattle.name_sets.specs.FirstPlaces.{place_where}
use Rattle.design_rules.specs.Rings.{thread_objects}
use Rattle.ods_index.specs.Calling.{Calls, design_calls}
use Rattle.ods_calls.specs.Graphed.{body_edges}
use Rattle.ods_calls.specs.Held.{held_bodies, is_held}
use Rattle.ods_calls.specs.Keys.{has_target}
use Rattle.ods_calls.specs.Spreading.{direct_calls}
use Rattle.ods_calls.specs.declared.spots.Part.{Part}
use Rattle.ods_calls.specs.declared.spots.Part.TheVariants.{Threads, Operations}
use Rattle.rings.specs.Graphs.{is_step}
use Rattle.call_graph.specs.Edges.{edges_from}

-- what stands at a place, by its name
pub data Spot : Type 0 where
  Thread : Name → Spot
  Op : OpName → Spot

abbrev pub same_spot : Spot → Spot → Bool
same_spot (Thread m) (Thread n) = same_name m n
same_spot (Op m) (Op n) = same_op m n
same_spot (Thread m) (Op n) = false
same_spot (Op m) (Thread n) = false

-- the first place of one among these
abbrev pub spot_from : ℕ → List Spot → Spot → Option ℕ
spot_from place all s = place_where (λ t. same_spot t s) place all

-- these threads, and then the operations of these bodies
abbrev pub spots_among : List Object → List Calls → List Spot
spots_among os hs = map (λ o. Thread o.name) os ++ map (λ h. Op h.name) hs

-- those of a design
abbrev pub spots_of : Design → List Spot
spots_of x = spots_among (thread_objects x) (held_bodies x)

-- to what a call leads
abbrev pub aimed : Part → OpName → Spot
aimed Threads k = Thread k.object
aimed Operations k = Op k

-- the place of a body, where its object is protected
abbrev pub held_place : (Spot → Option ℕ) → Calls → Option ℕ
held_place place c = if is_held c then place (Op c.name) else None

-- the edges of bodies to a part of what they call
abbrev pub held_edges : (Spot → Option ℕ) → Part → List Calls → List (ℕ × ℕ)
held_edges place part cs = flat_map (body_edges (held_place place) (λ k. place (aimed part k))) cs

-- those to all that they call
abbrev pub all_held : (Spot → Option ℕ) → List Calls → List (ℕ × ℕ)
all_held place cs = held_edges place Threads cs ++ held_edges place Operations cs

-- the place of a thread, where one of its name is sporadic
abbrev pub source_place : (Spot → Option ℕ) → (Name → Bool) → Object → Option ℕ
source_place place target o = if target o.name then place (Thread o.name) else None

-- the edges of a thread
abbrev pub thread_edges : Design → (Spot → Option ℕ) → (Name → Bool) → Object → List (ℕ × ℕ)
thread_edges x place target o =
    edges_from (λ k. place (aimed Threads k)) (source_place place target o) (direct_calls x o)
    ++ edges_from (λ k. place (aimed Operations k)) (source_place place target o) (direct_calls x o)

-- those of bodies, and then those of threads
abbrev pub start_edges : Design → (Spot → Option ℕ) → (Name → Bool) → List Calls → List Object → List (ℕ × ℕ)
start_edges x place target cs os =
    all_held place cs ++ flat_map (thread_edges x place target) os

-- the steps of a design
abbrev pub starts_step : Design → ℕ → ℕ → Bool
starts_step x =
    is_step (length (spots_of x))
    (start_edges x (spot_from 0 (spots_of x)) (has_target (thread_objects x)) (design_calls x) (thread_objects x))

-- an edge the other way round
abbrev pub turned : ℕ × ℕ → ℕ × ℕ
turned e = (e.1, e.0)
