-- The edges between places are the calls of bodies, and bodies are those of the objects of a design.
use Rattle.std.proofs.Common.{◌≡◌, ℕ, true, ◌&&◌, List, filter, flat_map, Option, Some, sym, subst, ◌∙◌}
use Rattle.std.specs.List.{list_any}
use Rattle.std.proofs.lemmas.Bool.{and_parts, and_from}
use Rattle.seq_tree.specs.declared.tree.OpName.{OpName}
use Rattle.ods_tree.specs.Designs.{Body, Object, Design}
use Rattle.ods_tree.specs.Flattening.{is_protected}
use Rattle.ods_tree.specs.Walk.{Standing, terminals}
use Rattle.design_rules.specs.Rings.{protected_objects}
use Rattle.ods_index.specs.Calling.{Calls, body_calls, design_calls, object_calls}
use Rattle.call_graph.proofs.Shared.EdgeLaws.{at-is, edge-between, has_edge, is-at, is_at}
use Rattle.ods_calls.specs.Graphed.{body_edges}
use Rattle.ods_calls.proofs.Items.{In, any-in, from-filter, from-flat, from-map, in-flat, in-map, some-in}

module _ (source : Calls → Option ℕ) (target : OpName → Option ℕ) (bodies : List Calls) where
  abbrev edges : List (ℕ × ℕ)
  edges = flat_map (body_edges source target) bodies

  -- a call of a body is an edge between their places
  pub edge-of : (b : Calls) (k : OpName) (p q : ℕ) → In b bodies → source b ≡ Some p → In k b.meant → target k ≡ Some q
      → has_edge edges p q ≡ true
  edge-of b k p q held at called there =
      edge-between target p q source (λ (c : Calls). c.meant) bodies
      ∙ any-in (λ c. is_at (source c) p && list_any (λ o. is_at (target o) q) c.meant) b bodies held
      (and_from _ _ (at-is (source b) p at) (any-in (λ o. is_at (target o) q) k b.meant called (at-is (target k) q there)))

  -- an edge is a call of a body between these places
  pub call-of : (p q : ℕ) → has_edge edges p q ≡ true
      → (b : Calls) × In b bodies × (source b ≡ Some p) × ((k : OpName) × In k b.meant × (target k ≡ Some q))
  call-of p q h =
      let b = some-in (λ c. is_at (source c) p && list_any (λ o. is_at (target o) q) c.meant) bodies
      (sym (edge-between target p q source (λ (c : Calls). c.meant) bodies) ∙ h) in
      let parts = and_parts (is_at (source b.0) p) (list_any (λ o. is_at (target o) q) b.0.meant) b.2 in
      let k = some-in (λ o. is_at (target o) q) b.0.meant parts.1 in
      (b.0, b.1, is-at (source b.0) p parts.0, (k.0, k.1, is-at (target k.0) q k.2))

-- what a body of an object calls, as the bodies of a design have it
abbrev pub calls-in : Design → Object → Body → Calls
calls-in x o b = body_calls x o.kind o.name o.needs b

pub body-in : (x : Design) (s : Standing) (b : Body) → In s (terminals x) → In b s.own.bodies → In (calls-in x s.own b) (design_calls x)
body-in x s b stands held =
    in-flat (λ (t : Standing). object_calls x t.own) s (calls-in x s.own b) (terminals x) stands (in-map (calls-in x s.own) b s.own.bodies held)

pub body-from : (x : Design) (c : Calls) → In c (design_calls x)
    → (s : Standing) × In s (terminals x) × ((b : Body) × In b s.own.bodies × (calls-in x s.own b ≡ c))
body-from x c h =
    let s = from-flat (λ (t : Standing). object_calls x t.own) c (terminals x) h in
    (s.0, s.1, from-map (calls-in x s.0.own) c s.0.own.bodies s.2)

-- and a body of a protected object
pub held-in : (x : Design) (o : Object) (b : Body) → In o (protected_objects x) → In b o.bodies
    → In (calls-in x o b) (design_calls x) × (is_protected o.kind ≡ true)
held-in x o b stands held =
    let s = from-map (λ (t : Standing). t.own) o (filter (λ (t : Standing). is_protected t.own.kind) (terminals x)) stands in
    let f = from-filter (λ (t : Standing). is_protected t.own.kind) s.0 (terminals x) s.1 in
    let P : Object → Type 0 = λ q. In b q.bodies → In (calls-in x q b) (design_calls x) × (is_protected q.kind ≡ true) in
    subst P s.2 (λ k. (body-in x s.0 b f.0 k, f.1)) held
