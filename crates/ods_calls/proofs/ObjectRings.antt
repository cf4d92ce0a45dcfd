-- Rings of calls between protected objects are rings between their places.
use Rattle.std.proofs.Common.{◌≡◌, ℕ, ◌≤◌, Bool, true, ◌&&◌, filter, flat_map, length, slice_get, nat_lt, Option, Some, None, refl, sym}
use Rattle.std.proofs.Common.{ap, subst, ◌∙◌, arith, if◌then◌else◌}
use Rattle.std.specs.List.{list_any}
use Rattle.std.proofs.lemmas.Bool.{and_parts, and_from}
use Rattle.std.proofs.lemmas.Option.{slice_get_within}
use Rattle.seq_tree.proofs.Shared.SameNames.{same-self, same-is}
use Rattle.seq_tree.specs.Names.{Name, same_name}
use Rattle.seq_tree.specs.Rings.{IsOnRing}
use Rattle.seq_tree.specs.declared.tree.OpName.{OpName}
use Rattle.ods_tree.specs.Designs.{Body, Object, Design}
use Rattle.ods_tree.specs.Flattening.{is_protected}
use Rattle.ods_tree.specs.Walk.{Standing, terminals}
use Rattle.design_rules.specs.Broken.{Broken, V09Objects}
use Rattle.design_rules.specs.Rings.{CallsObject, calls_object, meant_calls, protected_objects}
use Rattle.design_rules.specs.Rules.{RingedObject}
use Rattle.ods_calls.specs.Guarded.{guard_edges, guard_place}
use Rattle.ods_index.specs.Calling.{Calls, design_calls}
use Rattle.ods_index.specs.Judging.{IsFirstOffender}
use Rattle.name_sets.proofs.Shared.PlaceLaws.{name-none-later, name-placed}
use Rattle.name_sets.specs.FirstPlaces.{place_from}
use Rattle.ods_calls.proofs.Items.{In, any-in, from-flat, in-filter, in-flat, in-map, some-in}
use Rattle.ods_calls.proofs.BodyEdges.{body-from, call-of, calls-in, edge-of, held-in}
use Rattle.ods_calls.proofs.NamePlaces.{has-place, name-at, names-of, object-at, placed-parts}
use Rattle.rings.proofs.Shared.NamedRings.{ring_of_names, ring_of_places}
use Rattle.rings.specs.Graphs.{is_step}
use Rattle.rings.specs.Reached.{Goes, IsFirstOnRing}

-- a call between protected objects, by the body that it stands in
pub record Between (x : Design) (a c : Name) : Type 0 where
  pub from : Object
  pub stands : In from (protected_objects x)
  pub named : from.name ≡ a
  pub body : Body
  pub held : In body from.bodies
  pub call : OpName
  pub written : In call (meant_calls x from body.block)
  pub to : call.object ≡ c

same_both : (a b c : Name) → same_name a b ≡ true → same_name b c ≡ true → a ≡ c
same_both a b c e f = same-is a b e ∙ same-is b c f

between : (x : Design) (a c : Name) → CallsObject x a c → Between x a c
between x a c h =
    let f = some-in (λ f. same_name f.name a && list_any (λ t. same_name t.name c && calls_object x f t) (protected_objects x))
    (protected_objects x) h in
    let g = and_parts (same_name f.0.name a) (list_any (λ t. same_name t.name c && calls_object x f.0 t) (protected_objects x)) f.2 in
    let t = some-in (λ t. same_name t.name c && calls_object x f.0 t) (protected_objects x) g.1 in
    let u = and_parts (same_name t.0.name c) (calls_object x f.0 t.0) t.2 in
    let k = some-in (λ k. same_name k.object t.0.name) (flat_map (λ b. meant_calls x f.0 b.block) f.0.bodies) u.1 in
    let b = from-flat (λ b. meant_calls x f.0 b.block) k.0 f.0.bodies k.1 in
    record {
      from = f.0;
      stands = f.1;
      named = same-is f.0.name a g.0;
      body = b.0;
      held = b.1;
      call = k.0;
      written = b.2;
      to = same_both
          k.0.object t.0.name c k.2 u.0;
    }

called : (x : Design) (f t : Object) (b : Body) (k : OpName) → In f (protected_objects x) → In t (protected_objects x) → In b f.bodies
    → In k (meant_calls x f b.block) → t.name ≡ k.object → CallsObject x f.name k.object
called x f t b k hf ht hb hk same =
    let here : calls_object x f t ≡ true =
    any-in (λ c. same_name c.object t.name) k (flat_map (λ d. meant_calls x f d.block) f.bodies)
    (in-flat (λ d. meant_calls x f d.block) b k f.bodies hb hk)
    (ap (λ n. same_name k.object n) same ∙ same-self k.object) in
    any-in (λ g. same_name g.name f.name && list_any (λ u. same_name u.name k.object && calls_object x g u) (protected_objects x)) f
    (protected_objects x) hf
    (and_from _ _ (same-self f.name)
    (any-in (λ u. same_name u.name k.object && calls_object x f u) t (protected_objects x) ht
    (and_from _ _ (ap (λ n. same_name n k.object) same ∙ same-self k.object) here)))

module _ (x : Design) (place : Name → Option ℕ) (placed : (n : Name) → place n ≡ place_from 0 n (names-of (protected_objects x))) where
  abbrev pub step-of : ℕ → ℕ → Bool
  step-of = is_step (length (protected_objects x)) (flat_map (guard_edges place) (design_calls x))

  stands-at : (n : Name) (p : ℕ) → place n ≡ Some p → slice_get (names-of (protected_objects x)) p ≡ Some n
  stands-at n p e =
      let r = name-placed 0 (names-of (protected_objects x)) n p (sym (placed n) ∙ e) in
      let k = r.1 in
      let same : r.0 ≡ p = omega (arith, k) in
      let P : ℕ → Type 0 = λ z. slice_get (names-of (protected_objects x)) z ≡ Some n in subst P same r.2

  -- a call between objects with places is an edge
  step-forth : (a c : Name) (p q : ℕ) → CallsObject x a c → place a ≡ Some p → place c ≡ Some q → step-of p q ≡ true
  step-forth a c p q h e f =
      let d = between x a c h in
      let o = object-at (protected_objects x) q c (stands-at c q f) in
      let inside = slice_get_within (protected_objects x) q o.0 o.3 in
      let own = held-in x d.from d.body d.stands d.held in
      and_from _ _ (grind (arith, inside))
      (edge-of (guard_place place) (λ k. place k.object) (design_calls x) (calls-in x d.from d.body) d.call p q own.0
      (ap (λ b. if b then place d.from.name else None) own.1 ∙ ap place d.named ∙ e) d.written (ap place d.to ∙ f))

  -- an edge is a call between objects with these places
  step-back : (p q : ℕ) → step-of p q ≡ true → (a c : Name) × (place a ≡ Some p) × (place c ≡ Some q) × CallsObject x a c
  step-back p q h =
      let e = call-of (guard_place place) (λ k. place k.object) (design_calls x) p q
      (and_parts (nat_lt q (length (protected_objects x))) _ h).1 in
      let s = body-from x e.0 e.1 in
      let own = s.0.own in
      let at = placed-parts (is_protected own.kind) (place own.name) p (ap (guard_place place) s.2.2 ∙ e.2) in
      let guard : In own (protected_objects x) =
      in-map (λ (t : Standing). t.own) s.0 (filter (λ (t : Standing). is_protected t.own.kind) (terminals x))
      (in-filter (λ (t : Standing). is_protected t.own.kind) s.0 (terminals x) s.1 at.0) in
      let P : Calls → Type 0 = λ b. In e.3.0 b.meant in
      let o = object-at (protected_objects x) q e.3.0.object (stands-at e.3.0.object q e.3.2) in
      (own.name, e.3.0.object, at.1, e.3.2, called x own o.0 s.2.0 e.3.0 guard o.1 s.2.1 (subst P (sym s.2.2) e.3.1) o.2)

  -- every object that calls has a place
  source-placed : (a c : Name) → CallsObject x a c → (p : ℕ) × (place a ≡ Some p)
  source-placed a c h =
      let d = between x a c h in
      let r = has-place 0 (protected_objects x) d.from d.stands in (r.0, ap place (sym d.named) ∙ placed d.from.name ∙ r.1)

  ringed : (i : ℕ) (told : Broken) → RingedObject x i told → (p : ℕ) × (p ≤ i) × IsOnRing (Goes step-of) p
  ringed i told r =
      let f = name-none-later 0 (names-of (protected_objects x)) r.object.name i (name-at (protected_objects x) i r.object r.stands) in
      let y = f.2 in (
        f.0,
        omega (arith, y),
        ring_of_places (names-of (protected_objects x)) place
            (CallsObject x) step-of stands-at step-forth step-back source-placed r.object.name f.0 (placed r.object.name ∙ f.1) r.ring,
      )

  -- no place on a ring, or the first
  pub none-ringed : IsFirstOnRing step-of None → (i : ℕ) (told : Broken) → RingedObject x i told → ⊥
  none-ringed none i told r = let f = ringed i told r in none f.0 f.2

  pub first-ringed : (first : ℕ) → IsFirstOnRing step-of (Some first) → (o : Object) × (slice_get (protected_objects x) first ≡ Some o)
      × IsFirstOffender (RingedObject x) (V09Objects o.name)
  first-ringed first (ring, earlier) =
      let r = ring_of_names (names-of (protected_objects x)) place (CallsObject x) step-of stands-at step-forth step-back source-placed first ring in
      let o = object-at (protected_objects x) first r.0 (stands-at r.0 first r.1) in
      let P : Name → Type 0 = λ n. IsOnRing (CallsObject x) n in (
        o.0,
        o.3,
        record {
          place = first;
          offends = record { object = o.0; stands = o.3; ring = subst P (sym o.2) r.2; tells = refl };
          none_earlier = λ i other below bad. let f = ringed i other bad in let y = f.1 in earlier f.0 (omega (arith, y, below)) f.2;
        },
      )
