-- The graph of calls between protected objects, by their places: an edge for each call in a body of one, links followed.
-- Places count from 0 in flattened order; of objects of one name the first counts.
use Rattle.std.specs.Prelude.{ℕ, Bool, List, map, filter, flat_map, length, Option, None, if◌then◌else◌}
use Rattle.seq_tree.specs.Names.{Name}
use Rattle.ods_tree.specs.Designs.{Object, Design}
use Rattle.ods_tree.specs.Flattening.{is_protected}
use Rattle.ods_tree.specs.Walk.{Standing, is_terminal}
use Rattle.name_sets.specs.FirstPlaces.{place_from}
use Rattle.ods_index.specs.Calling.{Calls, design_calls}
use Rattle.ods_calls.specs.Graphed.{body_edges}
use Rattle.rings.specs.Graphs.{is_step}

-- the protected ones of these objects, where they have no children
abbrev pub guards_among : List Standing → List Object
guards_among ss = map (λ s. s.own) (filter (λ s. is_protected s.own.kind) (filter is_terminal ss))

-- the place of the object of a body, where that is protected
abbrev pub guard_place : (Name → Option ℕ) → Calls → Option ℕ
guard_place place c = if is_protected c.kind then place c.name.object else None

-- the edges of the bodies of protected objects, between those of these places
abbrev pub guard_edges : (Name → Option ℕ) → Calls → List (ℕ × ℕ)
guard_edges place = body_edges (guard_place place) (λ k. place k.object)

-- the steps between the places of these objects: an edge for each call
abbrev pub guards_step : Design → List Object → ℕ → ℕ → Bool
guards_step x os = is_step (length os) (flat_map (guard_edges (λ n. place_from 0 n (map (λ o. o.name) os))) (design_calls x))
