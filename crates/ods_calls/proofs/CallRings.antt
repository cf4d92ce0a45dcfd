-- Rings of calls between operations are rings between their places.
use Rattle.std.proofs.Common.{Result, Ok, Err, ◌≡◌, ℕ, suc, ◌≤◌, Bool, true, false, not, List, [], ◌∷◌, map, filter, flat_map}
use Rattle.std.proofs.Common.{length, slice_get, nat_lt, Option, Some, None, refl, sym, ap, subst, ◌∙◌, arith, inl, inr, if◌then◌else◌}
use Rattle.std.specs.List.{list_any}
use Rattle.std.proofs.lemmas.Bool.{or_left, or_right, and_parts, and_from}
use Rattle.std.proofs.lemmas.Option.{slice_get_within}
use Rattle.seq_tree.proofs.Shared.SameNames.{same-self, same-is}
use Rattle.seq_tree.specs.Calls.{same_op}
use Rattle.seq_tree.specs.Names.{Name, same_name}
use Rattle.seq_tree.specs.declared.tree.OpName.{OpName}
use Rattle.seq_tree.proofs.Shared.Walks.{same_op-eq, same_op-refl}
use Rattle.ods_tree.specs.Designs.{Body, Provided, Design}
use Rattle.ods_tree.specs.Walk.{Standing, objects, terminals, is_terminal, only_if}
use Rattle.design_rules.specs.Broken.{Broken, V05, V09Calls}
use Rattle.design_rules.specs.Fittings.{bad_fittings, misfits, misfits_terminal, is_provided}
use Rattle.design_rules.specs.Lookups.{provided_named}
use Rattle.design_rules.specs.Rings.{CallsOp, calls_from, meant_calls, operation_calls, terminal_ops}
use Rattle.design_rules.specs.Rules.{Fitting, RingedOp}
use Rattle.ods_index.specs.Judging.{Passes, Tells, Judges, IsTold, IsToldFirst, IsFirstOffender}
use Rattle.ods_index.specs.Told.{told_of, is_memory}
use Rattle.ods_index.specs.declared.broken.Broken as code
use Rattle.ods_calls.specs.Graphed.{body_edges}
use Rattle.ods_calls.proofs.Items.{In, any-in, from-filter, from-flat, in-filter, in-flat, in-map, in-taken, some-in}
use Rattle.name_sets.proofs.Shared.PlaceLaws.{op-none-later, op-placed}
use Rattle.name_sets.specs.FirstPlaces.{op_place_from}
use Rattle.ods_index.specs.Calling.{Calls, design_calls}
use Rattle.ods_index.specs.OwnOps.{own_ops}
use Rattle.rings.proofs.Shared.NamedRings.{ring_of_names, ring_of_places}
use Rattle.rings.specs.Graphs.{is_step}
use Rattle.rings.specs.Reached.{Goes, IsFirstOnRing}
use Rattle.seq_tree.specs.Rings.{IsOnRing}
use Rattle.ods_calls.proofs.BodyEdges.{body-from, body-in, call-of, calls-in, edge-of}
use Rattle.ods_calls.proofs.NamePlaces.{op-in}
use Rattle.seq_cost.specs.Different.{call_of}
use Rattle.seq_cost.specs.declared.written.Call.{Call}

-- a call by the body that it stands in
pub record Called (x : Design) (a c : OpName) : Type 0 where
  pub standing : Standing
  pub stands : In standing (terminals x)
  pub body : Body
  pub held : In body standing.own.bodies
  pub named : (calls-in x standing.own body).name ≡ a
  pub call : In c (meant_calls x standing.own body.block)

called-by : (x : Design) (a c : OpName) → CallsOp x a c → Called x a c
called-by x a c h =
    let d = some-in (same_op c) (calls_from x a) h in
    let P : OpName → Type 0 = λ z. In z (calls_from x a) in
    let here : In c (calls_from x a) = subst P (sym (same_op-eq c d.0 d.2)) d.1 in
    let s = from-flat (λ s. operation_calls x s.own a.op) c (filter (λ s. same_name s.own.name a.object) (terminals x)) here in
    let f = from-filter (λ s. same_name s.own.name a.object) s.0 (terminals x) s.1 in
    let b = from-flat (λ b. meant_calls x s.0.own b.block) c (filter (λ b. same_name b.name a.op) s.0.own.bodies) s.2 in
    let g = from-filter (λ b. same_name b.name a.op) b.0 s.0.own.bodies b.1 in
    record {
      standing = s.0;
      stands = f.0;
      body = b.0;
      held = g.0;
      named = same_op-eq (calls-in x s.0.own b.0).name a (and_from (same_name s.0.own.name a.object) (same_name b.0.name a.op) f.1 g.1);
      call = b.2;
    }

calls-by : (x : Design) (s : Standing) (b : Body) (c : OpName) → In s (terminals x) → In b s.own.bodies → In c (meant_calls x s.own b.block)
    → CallsOp x (record { object = s.own.name; op = b.name }) c
calls-by x s b c h k j =
    any-in (same_op c) c (calls_from x (record { object = s.own.name; op = b.name }))
    (in-flat (λ t. operation_calls x t.own b.name) s c (filter (λ t. same_name t.own.name s.own.name) (terminals x))
    (in-filter (λ t. same_name t.own.name s.own.name) s (terminals x) h (same-self s.own.name))
    (in-flat (λ d. meant_calls x s.own d.block) b c (filter (λ d. same_name d.name b.name) s.own.bodies)
    (in-filter (λ d. same_name d.name b.name) b s.own.bodies k (same-self b.name)) j))
    (same_op-refl c)

pub in-place : {A : Type 0} (a : A) (xs : List A) → In a xs → (i : ℕ) × (slice_get xs i ≡ Some a)
in-place a [] h = absurd h
in-place a (x ∷ xs) (inl e) = (0, ap Some e)
in-place a (x ∷ xs) (inr h) = let r = in-place a xs h in (suc r.0, r.1)

-- where the parts of objects fit, each body is one of an operation that its object provides
pub bodies-fit : (x : Design) → Passes x Fitting → (s : Standing) → In s (terminals x) → (b : Body) → In b s.own.bodies
    → is_provided (provided_named b.name s.own.provides) ≡ true
bodies-fit x passes s h b k = by (is_provided (provided_named b.name s.own.provides)) refl
  where
    by : (t : Bool) → is_provided (provided_named b.name s.own.provides) ≡ t → is_provided (provided_named b.name s.own.provides) ≡ true
    by true e = e
    by false e =
        let any : list_any (λ d. not (is_provided (provided_named d.name s.own.provides))) s.own.bodies
        ≡ true = any-in (λ d. not (is_provided (provided_named d.name s.own.provides))) b s.own.bodies k (ap not e) in
        let f = from-filter is_terminal s (objects x) h in
        let mis : misfits_terminal s.own ≡ true = or_left _ _ (or_left _ _ (or_left _ _ (or_left _ _ (or_right _ _ any)))) in
        let test : misfits (is_terminal s) s ≡ true = ap (λ t. misfits t s) f.1 ∙ mis in
        let listed : In (V05 s.own.name) (bad_fittings x) =
        in-taken (λ t. only_if (misfits (is_terminal t) t) (V05 t.own.name)) s (V05 s.own.name) (objects x) f.0
        (ap (λ t. only_if t (V05 s.own.name)) test) in
        let at = in-place (V05 s.own.name) (bad_fittings x) listed in
        absurd (passes at.0 (V05 s.own.name) at.1)

-- operations and their places, where each body is one of an operation that its object provides
module _ (x : Design) (place : OpName → Option ℕ) (placed : (n : OpName) → place n ≡ op_place_from 0 (terminal_ops x) n)
    (passes : Passes x Fitting) where
  abbrev source-of : Calls → Option ℕ
  source-of b = place b.name

  abbrev pub step-of : ℕ → ℕ → Bool
  step-of = is_step (length (terminal_ops x)) (flat_map (body_edges source-of place) (design_calls x))

  stands-at : (n : OpName) (p : ℕ) → place n ≡ Some p → slice_get (terminal_ops x) p ≡ Some n
  stands-at n p e =
      let r = op-placed 0 (terminal_ops x) n p (sym (placed n) ∙ e) in
      let k = r.1 in
      let same : r.0 ≡ p = omega (arith, k) in
      let P : ℕ → Type 0 = λ z. slice_get (terminal_ops x) z ≡ Some n in subst P same r.2

  -- a call between operations with places is an edge
  step-forth : (a c : OpName) (p q : ℕ) → CallsOp x a c → place a ≡ Some p → place c ≡ Some q → step-of p q ≡ true
  step-forth a c p q h e f =
      let d = called-by x a c h in
      let inside = slice_get_within (terminal_ops x) q c (stands-at c q f) in
      and_from _ _ (grind (arith, inside))
      (edge-of source-of place (design_calls x) (calls-in x d.standing.own d.body) c p q
      (body-in x d.standing d.body d.stands d.held) (ap place d.named ∙ e) d.call f)

  -- an edge is a call between operations with these places
  step-back : (p q : ℕ) → step-of p q ≡ true → (a c : OpName) × (place a ≡ Some p) × (place c ≡ Some q) × CallsOp x a c
  step-back p q h =
      let e = call-of source-of place (design_calls x) p q (and_parts (nat_lt q (length (terminal_ops x))) _ h).1 in
      let s = body-from x e.0 e.1 in
      let P : Calls → Type 0 = λ b. In e.3.0 b.meant in (
        (calls-in x s.0.own s.2.0).name,
        e.3.0,
        ap source-of s.2.2 ∙ e.2,
        e.3.2,
        calls-by x s.0 s.2.0 e.3.0 s.1 s.2.1 (subst P (sym s.2.2) e.3.1),
      )

  found-in : (name : Name) (ps : List Provided) → is_provided (provided_named name ps) ≡ true → (p : Provided) × In p ps × (p.sig.name ≡ name)
  found-in name [] e = cc
  found-in name (p ∷ ps) e = by (found-in name ps) (same_name p.sig.name name) refl e
    where
      by : (is_provided (provided_named name ps) ≡ true → (q : Provided) × In q ps × (q.sig.name ≡ name)) → (t : Bool)
          → same_name p.sig.name name ≡ t
          → is_provided (if t then Some p else provided_named name ps) ≡ true → (q : Provided) × In q (p ∷ ps) × (q.sig.name ≡ name)
      by rest true s h = (p, inl refl, same-is p.sig.name name s)
      by rest false s h = let r = rest h in (r.0, inr r.1, r.2)

  -- every operation that calls has a place
  source-placed : (a c : OpName) → CallsOp x a c → (p : ℕ) × (place a ≡ Some p)
  source-placed a c h =
      let d = called-by x a c h in
      let f = found-in d.body.name d.standing.own.provides (bodies-fit x passes d.standing d.stands d.body d.held) in
      let n : Name → OpName = λ op. record { object = d.standing.own.name; op = op } in
      let own : In (n f.0.sig.name) (terminal_ops x) =
      in-flat own_ops d.standing (n f.0.sig.name) (terminals x) d.stands (in-map (λ p. n p.sig.name) f.0 d.standing.own.provides f.1) in
      let P : OpName → Type 0 = λ m. In m (terminal_ops x) in
      let r = op-in 0 (terminal_ops x) a (subst P (ap n f.2 ∙ d.named) own) in (r.0, placed a ∙ r.1)

  ringed : (i : ℕ) (told : Broken) → RingedOp x i told → (p : ℕ) × (p ≤ i) × IsOnRing (Goes step-of) p
  ringed i told r =
      let f = op-none-later 0 (terminal_ops x) r.op i r.stands in
      let y = f.2 in (
        f.0,
        omega (arith, y),
        ring_of_places (terminal_ops x) place (CallsOp x) step-of stands-at step-forth step-back source-placed r.op f.0 (placed r.op ∙ f.1) r.ring,
      )

  -- no place on a ring, or the first
  pub none-ringed : IsFirstOnRing step-of None → (i : ℕ) (told : Broken) → RingedOp x i told → ⊥
  none-ringed none i told r = let f = ringed i told r in none f.0 f.2

  pub first-ringed : (first : ℕ) → IsFirstOnRing step-of (Some first) → (op : OpName) × (slice_get (terminal_ops x) first ≡ Some op)
      × IsFirstOffender (RingedOp x) (V09Calls op)
  first-ringed first (ring, earlier) =
      let r = ring_of_names (terminal_ops x) place (CallsOp x) step-of stands-at step-forth step-back source-placed first ring in
      let at = stands-at r.0 first r.1 in (
        r.0,
        at,
        record {
          place = first;
          offends = record { op = r.0; stands = at; ring = r.2; tells = refl };
          none_earlier = λ i other below bad. let f = ringed i other bad in let y = f.1 in earlier f.0 (omega (arith, y, below)) f.2;
        },
      )

-- an answer that tells the first offender
pub tells-first : (Offender : ℕ → Broken → Type 0) (result : Result (Unit {0}) code.Broken) (told : Broken) → Tells result (Some told)
    → IsFirstOffender Offender told → Judges Offender result
tells-first Offender (Ok done) told h first = (let z : Some told ≡ None = h in cc)
tells-first Offender (Err e) told h first = by (is_memory e) (told_of e) h
  where
    by : (m : Bool) (t : Option Broken) → IsTold m t (Some told) → IsToldFirst m t Offender
    by true t k = tt
    by false None k = absurd k
    by false (Some other) k = (let z : told ≡ other = cc in let P : Broken → Type 0 = λ b. IsFirstOffender Offender b in subst P z first)

-- the parts of the graph as the code has them
pub ops-same : (x : Design) (views : List Call) (seen : List Standing) → map call_of views ≡ flat_map own_ops (filter is_terminal seen) → seen
    ≡ objects x → map call_of views ≡ terminal_ops x
ops-same x views seen made same = made ∙ ap (λ ss. flat_map own_ops (filter is_terminal ss)) same

pub told-by : (result : Result (Unit {0}) code.Broken) (wanted : Option Broken) (told : Broken) → Tells result wanted → wanted ≡ Some told
    → Tells result (Some told)
told-by result wanted told h same = let P : Option Broken → Type 0 = λ w. Tells result w in subst P same h
