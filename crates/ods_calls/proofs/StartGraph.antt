-- The edges of the graph of starts are the calls of threads and of protected operations, by their places.
-- So rings of starts between threads are rings between places.
use Rattle.std.proofs.Common.{◌≡◌, ◌⊎◌, inl, inr, ℕ, zero, suc, ◌≤◌, ◌<◌, ◌==◌, Bool, true, false, ◌&&◌, List, [], ◌∷◌, ◌++◌, map, filter_map}
use Rattle.std.proofs.Common.{flat_map}
use Rattle.std.proofs.Common.{length, get_or, slice_get, nat_lt, Option, Some, None, refl, sym, ap, subst, ◌∙◌, arith, if◌then◌else◌}
use Rattle.std.proofs.Common.{Result, Ok, Err, Bor, filter}
use Rattle.std.specs.Prelude.{option_map}
use Rattle.std.specs.List.{list_any}
use Rattle.std.proofs.lemmas.Bool.{and_from, and_parts, eq-eqb, eqb-true, or_cases}
use Rattle.std.proofs.lemmas.List.Folds.{list_any-append}
use Rattle.std.proofs.lemmas.Option.{slice_get_cases, slice_get_within}
use Rattle.seq_tree.proofs.Shared.SameNames.{same-is, same-self}
use Rattle.seq_tree.proofs.Shared.Walks.{LeadOn, same_op-eq, same_op-refl}
use Rattle.seq_tree.specs.Names.{Name, same_name}
use Rattle.seq_tree.specs.Rings.{IsOnRing}
use Rattle.seq_tree.specs.declared.tree.OpName.{OpName}
use Rattle.ods_tree.specs.Designs.{Design, Object, Provided}
use Rattle.ods_tree.specs.Flattening.{is_protected}
use Rattle.ods_tree.specs.Walk.{Standing, is_terminal, objects, terminals}
use Rattle.ods_tree.specs.declared.design.Node.{Node}
use Rattle.name_sets.proofs.Shared.PlaceLaws.{first-none-later, first-placed}
use Rattle.design_rules.specs.Broken.{Broken, V09Starts}
use Rattle.design_rules.specs.Fittings.{is_provided}
use Rattle.design_rules.specs.Lookups.{has_thread, provided_named}
use Rattle.design_rules.specs.Rings.{inner_calls, terminal_ops, thread_objects}
use Rattle.design_rules.specs.Rules.{Fitting, RingedThread}
use Rattle.ods_index.specs.Calling.{Calls, design_calls}
use Rattle.ods_index.specs.Judging.{IsFirstOffender, IsTold, IsToldFirst, Judges, Passes, Tells}
use Rattle.ods_index.specs.Nodes.{node_name, node_object}
use Rattle.ods_index.specs.OwnOps.{own_ops}
use Rattle.ods_index.specs.Told.{is_memory, told_of}
use Rattle.ods_index.specs.declared.broken.Broken as code
use Rattle.ods_calls.specs.Held.{held_bodies, is_held}
use Rattle.ods_calls.specs.Keys.{has_target}
use Rattle.ods_calls.specs.Spreading.{direct_calls}
use Rattle.ods_calls.specs.Starting.{Op, Spot, Thread, aimed, held_edges, held_place, same_spot, source_place, spot_from, spots_of, start_edges}
use Rattle.ods_calls.specs.Starting.{thread_edges}
use Rattle.ods_calls.specs.declared.spots.Part.{Part}
use Rattle.ods_calls.specs.declared.spots.Part.TheVariants.{Threads, Operations}
use Rattle.ods_calls.proofs.BodyEdges.{call-of, edge-of}
use Rattle.ods_calls.proofs.CallRings.{bodies-fit, tells-first}
use Rattle.ods_calls.proofs.CalledLaws.{body-inner, held-from, inner-body}
use Rattle.ods_calls.proofs.Items.{In, any-in, from-filter, from-flat, from-map, from-taken, in-filter, in-flat, in-left, in-map, in-parts, in-right}
use Rattle.ods_calls.proofs.Items.{in-taken, some-in}
use Rattle.ods_calls.proofs.NamePlaces.{in-placed, placed-parts}
use Rattle.ods_calls.proofs.StartPaths.{Aimed, Leads, among-in, in-among, leads-ring, ring-leads}
use Rattle.rings.proofs.Shared.NamedRings.{ring_of_names, ring_of_places}
use Rattle.rings.specs.Graphs.{is_step}
use Rattle.rings.specs.Reached.{Goes, IsFirstOnRing}
use Rattle.call_graph.specs.Edges.{edges_from}

-- two that are one
pub spot-is : (s t : Spot) → same_spot s t ≡ true → s ≡ t
spot-is (Thread m) (Thread n) h = ap Thread (same-is m n h)
spot-is (Op m) (Op n) h = ap Op (same_op-eq m n h)
spot-is (Thread m) (Op n) h = cc
spot-is (Op m) (Thread n) h = cc

pub spot-self : (s : Spot) → same_spot s s ≡ true
spot-self (Thread n) = same-self n
spot-self (Op n) = same_op-refl n

-- to which part of what calls lead to one belongs
abbrev part-of : Spot → Part
part-of (Thread n) = Threads
part-of (Op n) = Operations

aim-at : (k : OpName) (s : Spot) → Aimed k s → aimed (part-of s) k ≡ s
aim-at k (Thread n) e = ap Thread e
aim-at k (Op n) e = ap Op e

at-aim : (part : Part) (k : OpName) → Aimed k (aimed part k)
at-aim Threads k = refl
at-aim Operations k = refl

-- whether an edge leads from one place to another
abbrev pub there : ℕ → ℕ → ℕ × ℕ → Bool
there p q e = e.0 == p && e.1 == q

-- edges that leave a place, where there is one
edge-in : (to : OpName → Option ℕ) (from : Option ℕ) (ks : List OpName) (k : OpName) (p q : ℕ) → from ≡ Some p → In k ks → to k ≡ Some q
    → In (p, q) (edges_from to from ks)
edge-in to from ks k p q e h f =
    let P : Option ℕ → Type 0 = λ o. In (p, q) (edges_from to o ks) in
    subst P (sym e) (in-map (λ t. (p, t)) q (filter_map to ks) (in-taken to k q ks h f))

edge-from : (to : OpName → Option ℕ) (from : Option ℕ) (ks : List OpName) (e : ℕ × ℕ) → In e (edges_from to from ks)
    → (from ≡ Some e.0) × ((k : OpName) × In k ks × (to k ≡ Some e.1))
edge-from to None ks e h = absurd h
edge-from to (Some p) ks e h =
    let t = from-map (λ t. (p, t)) e (filter_map to ks) h in
    let k = from-taken to t.0 ks t.1 in
    (ap Some (ap (λ z. z.0) t.2), (k.0, k.1, k.2 ∙ ap Some (ap (λ z. z.1) t.2)))

-- where the parts of objects fit, whatever calls is a terminal operation
provided-in : (f : Name → OpName) (name : Name) (ps : List Provided) → is_provided (provided_named name ps) ≡ true
    → In (f name) (map (λ p. f p.sig.name) ps)
provided-in f name [] e = cc
provided-in f name (p ∷ ps) e = by (provided-in f name ps) (same_name p.sig.name name) refl e
  where
    by : (is_provided (provided_named name ps) ≡ true → In (f name) (map (λ q. f q.sig.name) ps)) → (t : Bool) → same_name p.sig.name name ≡ t
        → is_provided (if t then Some p else provided_named name ps) ≡ true → In (f name) (map (λ q. f q.sig.name) (p ∷ ps))
    by rest true s h = inl (ap f (same-is p.sig.name name s))
    by rest false s h = inr (rest h)

pub leads-on : (x : Design) → Passes x Fitting → LeadOn (inner_calls x) (terminal_ops x)
leads-on x passes a b h =
    let c = inner-body x a b (among-in b (inner_calls x a) h) in
    let r = held-from x c.0 c.1 in
    let s = r.0 in
    let f = from-filter (λ (t : Standing). is_protected t.own.kind) s (terminals x) r.1 in
    let n : Name → OpName = λ op. record { object = s.own.name; op = op } in
    let own : In (n r.2.name) (own_ops s) = provided-in n r.2.name s.own.provides (bodies-fit x passes s f.0 r.2 r.3) in
    let P : OpName → Type 0 = λ m. In m (terminal_ops x) in
    in-among a (terminal_ops x) (subst P (ap (λ (g : Calls). g.name) r.4 ∙ c.2) (in-flat own_ops s (n r.2.name) (terminals x) f.0 own))

module _ (x : Design) (place : Spot → Option ℕ) (placed : (s : Spot) → place s ≡ spot_from 0 (spots_of x) s) (target : Name → Bool)
    (os : List Object) (inside : (o : Object) → In o os → In o (thread_objects x)) where
  abbrev pub es : List (ℕ × ℕ)
  es = start_edges x place target (design_calls x) os

  abbrev pub step-of : ℕ → ℕ → Bool
  step-of = is_step (length (spots_of x)) es

  pub stands-at : (s : Spot) (p : ℕ) → place s ≡ Some p → slice_get (spots_of x) p ≡ Some s
  stands-at s p e =
      let r = first-placed (λ t. same_spot t s) 0 (spots_of x) p (sym (placed s) ∙ e) in
      let k = r.1 in
      let same : r.0 ≡ p = omega (arith, k) in
      let P : ℕ → Type 0 = λ z. slice_get (spots_of x) z ≡ Some s in
      subst P same (r.3 ∙ ap Some (spot-is r.2 s r.4))

  -- edges of each part
  body-part : (part : Part) (p q : ℕ) → list_any (there p q) (held_edges place part (design_calls x)) ≡ true → list_any (there p q) es ≡ true
  body-part part p q h =
      let e = some-in (there p q) (held_edges place part (design_calls x)) h in
      any-in (there p q) e.0 es
      (in-left e.0 (held_edges place Threads (design_calls x) ++ held_edges place Operations (design_calls x))
      (flat_map (thread_edges x place target) os) (by e.0 part e.1)) e.2
    where
      by : (e : ℕ × ℕ) (part : Part) → In e (held_edges place part (design_calls x))
          → In e (held_edges place Threads (design_calls x) ++ held_edges place Operations (design_calls x))
      by e Threads k = in-left e (held_edges place Threads (design_calls x)) (held_edges place Operations (design_calls x)) k
      by e Operations k = in-right e (held_edges place Threads (design_calls x)) (held_edges place Operations (design_calls x)) k

  thread-part : (part : Part) (o : Object) (e : ℕ × ℕ)
      → In e (edges_from (λ k. place (aimed part k)) (source_place place target o) (direct_calls x o)) → In e (thread_edges x place target o)
  thread-part Threads o e k =
      in-left e (edges_from (λ k. place (aimed Threads k)) (source_place place target o) (direct_calls x o))
      (edges_from (λ k. place (aimed Operations k)) (source_place place target o) (direct_calls x o)) k
  thread-part Operations o e k =
      in-right e (edges_from (λ k. place (aimed Threads k)) (source_place place target o) (direct_calls x o))
      (edges_from (λ k. place (aimed Operations k)) (source_place place target o) (direct_calls x o)) k

  -- a step between what has places is an edge
  edge-forth : (a c : Spot) (p q : ℕ) → Leads x target os a c → place a ≡ Some p → place c ≡ Some q → list_any (there p q) es ≡ true
  edge-forth (Thread n) c p q (is, (o, held, named, (k, call, aim))) e f =
      let source : source_place place target o ≡ Some p =
      ap (λ b. if b then place (Thread o.name) else None) (ap target named ∙ is) ∙ ap (λ m. place (Thread m)) named ∙ e in
      let edge : In (p, q) (thread_edges x place target o) =
      thread-part (part-of c) o (p, q) (edge-in (λ k. place (aimed (part-of c) k)) (source_place place target o) (direct_calls x o) k p q source call
      (ap place (aim-at k c aim) ∙ f)) in
      any-in (there p q) (p, q) es
      (in-right (p, q) (held_edges place Threads (design_calls x) ++ held_edges place Operations (design_calls x))
      (flat_map (thread_edges x place target) os) (in-flat (thread_edges x place target) o (p, q) os held edge))
      (and_from _ _ (eq-eqb p p refl) (eq-eqb q q refl))
  edge-forth (Op m) c p q (k, call, aim) e f =
      let b = inner-body x m k call in
      let h = from-filter is_held b.0 (design_calls x) b.1 in
      body-part (part-of c) p q
      (edge-of (held_place place) (λ k. place (aimed (part-of c) k)) (design_calls x) b.0 k p q h.0
      (ap (λ t. if t then place (Op b.0.name) else None) h.1 ∙ ap (λ n. place (Op n)) b.2 ∙ e) b.3 (ap place (aim-at k c aim) ∙ f))

  pub step-forth : (a c : Spot) (p q : ℕ) → Leads x target os a c → place a ≡ Some p → place c ≡ Some q → step-of p q ≡ true
  step-forth a c p q h e f =
      let within = slice_get_within (spots_of x) q c (stands-at c q f) in
      and_from _ _ (grind (arith, within)) (edge-forth a c p q h e f)

  -- an edge is a step between what has these places
  abbrev pub Back : ℕ → ℕ → Type 0
  Back p q = (a c : Spot) × (place a ≡ Some p) × (place c ≡ Some q) × Leads x target os a c

  body-back : (part : Part) (p q : ℕ) → list_any (there p q) (held_edges place part (design_calls x)) ≡ true → Back p q
  body-back part p q h =
      let b = call-of (held_place place) (λ k. place (aimed part k)) (design_calls x) p q h in
      let at = placed-parts (is_held b.0) (place (Op b.0.name)) p b.2 in
      let k = b.3 in (
        Op b.0.name,
        aimed part k.0,
        at.1,
        k.2,
        (k.0, body-inner x b.0 k.0 (in-filter is_held b.0 (design_calls x) b.1 at.0) k.1, at-aim part k.0),
      )

  thread-back : (p q : ℕ) → list_any (there p q) (flat_map (thread_edges x place target) os) ≡ true → Back p q
  thread-back p q h =
      let e = some-in (there p q) (flat_map (thread_edges x place target) os) h in
      let ends = and_parts (e.0.0 == p) (e.0.1 == q) e.2 in
      let o = from-flat (thread_edges x place target) e.0 os e.1 in
      by e.0 (eqb-true e.0.0 p ends.0) (eqb-true e.0.1 q ends.1) o.0 o.1
      (in-parts e.0 (edges_from (λ k. place (aimed Threads k)) (source_place place target o.0) (direct_calls x o.0))
      (edges_from (λ k. place (aimed Operations k)) (source_place place target o.0) (direct_calls x o.0)) o.2)
    where
      one : (part : Part) (e : ℕ × ℕ) → e.0 ≡ p → e.1 ≡ q → (o : Object) → In o os
          → In e (edges_from (λ k. place (aimed part k)) (source_place place target o) (direct_calls x o)) → Back p q
      one part e first second o held i =
          let r = edge-from (λ k. place (aimed part k)) (source_place place target o) (direct_calls x o) e i in
          let at = placed-parts (target o.name) (place (Thread o.name)) e.0 r.0 in
          let k = r.1 in (
            Thread o.name,
            aimed part k.0,
            at.1 ∙ ap Some first,
            k.2 ∙ ap Some second,
            (at.0, (o, held, refl, (k.0, k.1, at-aim part k.0))),
          )

      by : (e : ℕ × ℕ) → e.0 ≡ p → e.1 ≡ q → (o : Object) → In o os
          → In e (edges_from (λ k. place (aimed Threads k)) (source_place place target o) (direct_calls x o))
          ⊎ In e (edges_from (λ k. place (aimed Operations k)) (source_place place target o) (direct_calls x o)) → Back p q
      by e first second o held (inl i) = one Threads e first second o held i
      by e first second o held (inr i) = one Operations e first second o held i

  pub edge-back : (p q : ℕ) → list_any (there p q) es ≡ true → Back p q
  edge-back p q edge =
      let bodies = held_edges place Threads (design_calls x) ++ held_edges place Operations (design_calls x) in
      by (or_cases (list_any (there p q) bodies) (list_any (there p q) (flat_map (thread_edges x place target) os))
      (sym (list_any-append (there p q) bodies (flat_map (thread_edges x place target) os)) ∙ edge))
    where
      two : (list_any (there p q) (held_edges place Threads (design_calls x)) ≡ true)
          ⊎ (list_any (there p q) (held_edges place Operations (design_calls x)) ≡ true) → Back p q
      two (inl i) = body-back Threads p q i
      two (inr i) = body-back Operations p q i

      by : (list_any (there p q) (held_edges place Threads (design_calls x) ++ held_edges place Operations (design_calls x)) ≡ true)
          ⊎ (list_any (there p q) (flat_map (thread_edges x place target) os) ≡ true) → Back p q
      by (inl i) =
          two (or_cases (list_any (there p q) (held_edges place Threads (design_calls x)))
          (list_any (there p q) (held_edges place Operations (design_calls x)))
          (sym (list_any-append (there p q) (held_edges place Threads (design_calls x)) (held_edges place Operations (design_calls x))) ∙ i))
      by (inr i) = thread-back p q i

  pub step-back : (p q : ℕ) → step-of p q ≡ true → Back p q
  step-back p q h = edge-back p q (and_parts (nat_lt q (length (spots_of x))) (list_any (there p q) es) h).1

  -- whatever leads on has a place
  pub source-placed : (a c : Spot) → Leads x target os a c → (p : ℕ) × (place a ≡ Some p)
  source-placed (Thread n) c (is, (o, held, named, call)) =
      let own : In (Thread o.name) (spots_of x) =
      in-left (Thread o.name) (map (λ (t : Object). Thread t.name) (thread_objects x)) (map (λ (h : Calls). Op h.name) (held_bodies x))
      (in-map (λ (t : Object). Thread t.name) o (thread_objects x) (inside o held)) in
      let r = in-placed (λ t. same_spot t (Thread n)) 0 (spots_of x) (Thread o.name) own
      (ap (λ m. same_name m n) named ∙ same-self n) in
      (r.0, placed (Thread n) ∙ r.1)
  source-placed (Op m) c (k, call, aim) =
      let b = inner-body x m k call in
      let own : In (Op b.0.name) (spots_of x) =
      in-right (Op b.0.name) (map (λ (t : Object). Thread t.name) (thread_objects x)) (map (λ (h : Calls). Op h.name) (held_bodies x))
      (in-map (λ (h : Calls). Op h.name) b.0 (held_bodies x) b.1) in
      let r = in-placed (λ t. same_spot t (Op m)) 0 (spots_of x) (Op b.0.name) own (ap (λ n. same_spot (Op n) (Op m)) b.2 ∙ spot-self (Op m)) in
      (r.0, placed (Op m) ∙ r.1)

-- threads stand first, in their order
thread-stands : (os : List Object) (more : List Spot) (i : ℕ) (o : Object) → slice_get os i ≡ Some o
    → slice_get (map (λ (t : Object). Thread t.name) os ++ more) i ≡ Some (Thread o.name)
thread-stands [] more i o e = cc
thread-stands (t ∷ os) more zero o e = let same : t ≡ o = cc in ap (λ (z : Object). Some (Thread z.name)) same
thread-stands (t ∷ os) more (suc i) o e = thread-stands os more i o e

module _ (x : Design) (passes : Passes x Fitting) where
  abbrev place : Spot → Option ℕ
  place = spot_from 0 (spots_of x)

  abbrev target : Name → Bool
  target = has_target (thread_objects x)

  abbrev pub ring-step : ℕ → ℕ → Bool
  ring-step = step-of x place (λ s. refl) target (thread_objects x) (λ o h. h)

  abbrev lead : Spot → Spot → Type 0
  lead = Leads x target (thread_objects x)

  ringed : (i : ℕ) (told : Broken) → RingedThread x i told → (p : ℕ) × (p ≤ i) × IsOnRing (Goes ring-step) p
  ringed i told r =
      let s = Thread r.thread.name in
      let f = first-none-later (λ t. same_spot t s) 0 (spots_of x) i s
      (thread-stands (thread_objects x) (map (λ (h : Calls). Op h.name) (held_bodies x)) i r.thread r.stands) (spot-self s) in
      let y = f.2 in (
        f.0,
        omega (arith, y),
        ring_of_places (spots_of x) place lead ring-step (stands-at x place (λ s. refl) target (thread_objects x) (λ o h. h))
            (step-forth x place (λ s. refl) target (thread_objects x) (λ o h. h)) (step-back x place (λ s. refl) target (thread_objects x) (λ o h. h))
            (source-placed x place (λ s. refl) target (thread_objects x) (λ o h. h)) s f.0 f.1
            (ring-leads x (leads-on x passes) r.thread.name r.ring),
      )

  -- no place on a ring, or one that is no thread's, or the first thread
  pub none-ringed : IsFirstOnRing ring-step None → (i : ℕ) (told : Broken) → RingedThread x i told → ⊥
  none-ringed none i told r = let f = ringed i told r in none f.0 f.2

  pub past-ringed : (first : ℕ) → IsFirstOnRing ring-step (Some first) → slice_get (thread_objects x) first ≡ None → (i : ℕ) (told : Broken)
      → RingedThread x i told → ⊥
  past-ringed first (ring, earlier) past i told r =
      let f = ringed i told r in
      let y = f.1 in
      let within = slice_get_within (thread_objects x) i r.thread r.stands in
      by (slice_get_cases (thread_objects x) first).1 f.0 y within f.2
    where
      by : ((o : Object) × (first < length (thread_objects x)) × (slice_get (thread_objects x) first ≡ Some o)
          × (get_or (thread_objects x) first o ≡ o)) ⊎ ((length (thread_objects x) ≤ first) × (slice_get (thread_objects x) first ≡ None)) → (p : ℕ) → p ≤ i → i < length (thread_objects x) → IsOnRing (Goes ring-step) p → ⊥
      by (inl (o, less, is, more)) p y within on = (let z : None ≡ Some o = sym past ∙ is in cc)
      by (inr (more, is)) p y within on = earlier p (omega (arith, y, within, more)) on

  pub first-ringed : (first : ℕ) (o : Object) → IsFirstOnRing ring-step (Some first) → slice_get (thread_objects x) first ≡ Some o
      → IsFirstOffender (RingedThread x) (V09Starts o.name)
  first-ringed first o (ring, earlier) stands =
      let r = ring_of_names (spots_of x) place lead ring-step (stands-at x place (λ s. refl) target (thread_objects x) (λ o h. h))
      (step-forth x place (λ s. refl) target (thread_objects x) (λ o h. h)) (step-back x place (λ s. refl) target (thread_objects x) (λ o h. h))
      (source-placed x place (λ s. refl) target (thread_objects x) (λ o h. h)) first ring in
      let same : Some r.0 ≡ Some (Thread o.name) =
      sym (stands-at x place (λ s. refl) target (thread_objects x) (λ o h. h) r.0 first r.1)
      ∙ thread-stands (thread_objects x) (map (λ (h : Calls). Op h.name) (held_bodies x)) first o stands in
      let one : r.0 ≡ Thread o.name = cc in
      let P : Spot → Type 0 = λ s. IsOnRing lead s in
      record {
        place = first;
        offends = record { thread = o; stands = stands; ring = leads-ring x (leads-on x passes) o.name (subst P one r.2); tells = refl };
        none_earlier = λ i other below bad. let f = ringed i other bad in let y = f.1 in earlier f.0 (omega (arith, y, below)) f.2;
      }

  -- an answer that tells the thread at the first place on a ring, and nothing where no thread stands there
  tells-none : (result : Result (Unit {0}) code.Broken) → Tells result None → ((i : ℕ) (told : Broken) → RingedThread x i told → ⊥)
      → Judges (RingedThread x) result
  tells-none (Ok done) told none = none
  tells-none (Err e) told none = by (is_memory e) (told_of e) told
    where
      by : (m : Bool) (t : Option Broken) → IsTold m t None → IsToldFirst m t (RingedThread x)
      by true t k = tt
      by false None k = absurd k
      by false (Some other) k = (let z : None ≡ Some other = k in cc)

  pub judged : (result : Result (Unit {0}) code.Broken) (first : ℕ) → IsFirstOnRing ring-step (Some first)
      → Tells result (option_map (λ (o : Object). V09Starts o.name) (slice_get (thread_objects x) first)) → Judges (RingedThread x) result
  judged result first ring tells = by (slice_get (thread_objects x) first) refl tells
    where
      by : (o : Option Object) → slice_get (thread_objects x) first ≡ o → Tells result (option_map (λ (t : Object). V09Starts t.name) o)
          → Judges (RingedThread x) result
      by None past t = tells-none result t (past-ringed first ring past)
      by (Some o) stands t = tells-first (RingedThread x) result (V09Starts o.name) t (first-ringed first o ring stands)

-- what is told of a thread, as the code keeps it
pub told-same : (ns : List (Bor Node)) (k : ℕ) → option_map (λ n. V09Starts (node_name n)) (slice_get ns k)
    ≡ option_map (λ (o : Object). V09Starts o.name) (slice_get (map node_object ns) k)
told-same [] k = refl
told-same (n ∷ ns) zero = refl
told-same (n ∷ ns) (suc k) = told-same ns k

-- the threads of a design, as the code finds them
pub whole-threads : (x : Design) (seen : List Standing) (all : List (Bor Node)) → seen ≡ objects x
    → map node_object all ≡ map (λ s. s.own) (filter (λ s. has_thread s.own.kind) (filter is_terminal seen)) → map node_object all ≡ thread_objects x
whole-threads x seen all walked threads = threads ∙ ap (λ ss. map (λ s. s.own) (filter (λ s. has_thread s.own.kind) (filter is_terminal ss))) walked
