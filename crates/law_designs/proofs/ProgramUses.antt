-- The passive units of a program call passive operations alone, and there are no rings of calls of operations and of protected units.
use Rattle.std.proofs.Common.{◌≡◌, ℕ, true, false, ◌&&◌, List, [], ◌∷◌, ◌++◌, map, filter, flat_map, zip, Option, Some, None, refl, sym, ap}
use Rattle.std.proofs.Common.{subst, ◌∙◌, inl, inr, ◌⊎◌}
use Rattle.std.specs.List.{list_any}
use Rattle.std.proofs.lemmas.Bool.{and_parts, and_from}
use Rattle.seq_tree.specs.Names.{Name, same_name}
use Rattle.seq_tree.specs.Operations.{Signature, Operation}
use Rattle.seq_tree.specs.Calls.{block_calls, same_op}
use Rattle.seq_tree.specs.declared.tree.OpName.{OpName}
use Rattle.ods_tree.specs.Designs.{Design}
use Rattle.ods_tree.specs.Flats.{Library, Guarded, Timing, Thread, Flat}
use Rattle.ods_tree.specs.Flats as timing
use Rattle.ods_tree.specs.Flattening.{libraries, flat}
use Rattle.ods_tree.specs.Services.{Plain, Protected, Request, Service, plain_services, protected_services, request_of, requested, requests}
use Rattle.ods_tree.specs.Services.{flat_services, is_service, request_service}
use Rattle.ada_tree.specs.Programs.{Unit, Program, Passive}
use Rattle.ada_tree.specs.Bodies.{Body, op_body}
use Rattle.ada_tree.specs.Naming.{calls_of}
use Rattle.ada_tree.specs.Uses.{passive_ops, shared_ops, passive_named, is_empty, is_confined, breaks_uses, Calls, ops_of_shared, is_shared_name}
use Rattle.ada_tree.specs.Uses.{called_units, CallsUnit, BreaksRings}
use Rattle.analysis.specs.Ceilings.{Ranks}
use Rattle.analysis.specs.Sound as sound
use Rattle.analysis.specs.Sound.{name_of}
use Rattle.guarantee.specs.Programs.{passive_unit, shared_unit, thread_unit, thread_form, program_for}
use Rattle.design_rules.specs.Rules.{AreMet}
use Rattle.law_designs.proofs.Shared.Lists.{in-cases, from-map, some-in, none-from}
use Rattle.law_designs.proofs.Shared.Flattened.{library-from, operation-from, terminal-object}
use Rattle.law_designs.proofs.WellFormed.{passive-plain-calls}
use Rattle.law_designs.proofs.Shared.Blocks.{body-needed}
use Rattle.law_designs.proofs.NoRings.{leads-map, leads-first, no-call-ring, no-object-ring}
use Rattle.law_designs.proofs.Shared.Units.{UnitFrom, OfLibrary, OfGuarded, OfThread, unit-from, from-zip}
use Rattle.law_lists.proofs.Shared.Facts.{same-is, is-same}
use Rattle.law_lists.proofs.Shared.Lists.{in-left, in-right, in-map, in-flat, filter-in, in-filter, any-in, IsIn, in-some, in-made, found-in}

-- a plain service is an operation of a passive object
pub plain-library : (f : Flat) (v : Service) → IsIn v (flat_services f) → v.sort ≡ Plain → (l : Library) × IsIn l f.passive × IsIn v.op l.ops
    × (v.object ≡ l.name)
plain-library f v h e = by (in-cases (flat_map plain_services f.passive) (flat_map protected_services f.shared ++ requests f.threads) v h)
  where
    not-protected : Protected ≡ Plain → ⊥
    not-protected q = cc

    not-request : Request ≡ Plain → ⊥
    not-request q = cc

    asks : (name : Name) (r : Option Signature) → requested name r ≡ Some v → v.sort ≡ Request
    asks name None q = (let z : None ≡ Some v = q in cc)
    asks name (Some sig) q = (let z : Some (request_service name sig) ≡ Some v = q in let s : request_service name sig ≡ v = cc
        in ap (λ (w : Service). w.sort) (sym s))

    later : IsIn v (flat_map protected_services f.shared) ⊎ IsIn v (requests f.threads) → (l : Library) × IsIn l f.passive × IsIn v.op l.ops
        × (v.object ≡ l.name)
    later (inl k) =
        let r = in-some protected_services f.shared v k in
        let s = from-map (λ o. record { object = r.0.name; sort = Protected; op = o }) r.0.ops v r.2 in
        absurd (not-protected (ap (λ (w : Service). w.sort) (sym s.2) ∙ e))
    later (inr k) =
        let r = in-made (λ (t : Thread). requested t.name (request_of t.timing)) f.threads v k in
        absurd (not-request (sym (asks r.0.name (request_of r.0.timing) r.2) ∙ e))

    by : IsIn v (flat_map plain_services f.passive) ⊎ IsIn v (flat_map protected_services f.shared ++ requests f.threads)
        → (l : Library) × IsIn l f.passive × IsIn v.op l.ops × (v.object ≡ l.name)
    by (inl k) =
        let r = in-some plain_services f.passive v k in
        let s = from-map (λ o. record { object = r.0.name; sort = Plain; op = o }) r.0.ops v r.2 in
        let P : Operation → Type 0 = λ o. IsIn o r.0.ops in
        (r.0, r.1, subst P (ap (λ (w : Service). w.op) (sym s.2)) s.1, ap (λ (w : Service). w.object) s.2)
    by (inr k) = later (in-cases (flat_map protected_services f.shared) (requests f.threads) v k)

-- a list with something in it isn't empty
not-empty : (os : List Operation) (o : Operation) → IsIn o os → is_empty os ≡ false
not-empty [] o h = absurd h
not-empty (p ∷ os) o h = refl

-- the operations of units by their entries
thread-silent : (n m : ℕ) (t : Thread) (u : Timing) → (passive_ops (thread_form n m u t) ≡ []) × (shared_ops (thread_form n m u t) ≡ [])
    × (is_confined (thread_form n m u t) ≡ false)
thread-silent n m t (timing.Cyclic period offset) = (refl, refl, refl)
thread-silent n m t (timing.Sporadic op separation jitter) = (refl, refl, refl)

module _ (f : Flat) (r : Ranks) where
  passive-from : (u : Unit) (o : Operation) → UnitFrom f r u → IsIn o (passive_ops u.form)
      → (l : Library) × IsIn l f.passive × IsIn o l.ops × (l.name ≡ u.name)
  passive-from u o (OfLibrary l j e) h = (let P : Unit → Type 0 = λ z. IsIn o (passive_ops z.form)
      in (l, j, subst P e h, ap (λ (z : Unit). z.name) (sym e)))
  passive-from u o (OfGuarded g ceiling j e) h = (let P : Unit → Type 0 = λ z. IsIn o (passive_ops z.form) in absurd (subst P e h))
  passive-from u o (OfThread t n j e) h =
      (let P : Unit → Type 0 = λ z. IsIn o (passive_ops z.form) in
      let Q : List Operation → Type 0 = λ z. IsIn o z in absurd (subst Q (thread-silent n.0 n.1 t t.timing).0 (subst P e h)))

  shared-from : (u : Unit) (o : Operation) → UnitFrom f r u → IsIn o (shared_ops u.form) → (g : Guarded) × IsIn g f.shared × IsIn o g.ops
      × (g.name ≡ u.name)
  shared-from u o (OfLibrary l j e) h = (let P : Unit → Type 0 = λ z. IsIn o (shared_ops z.form) in absurd (subst P e h))
  shared-from u o (OfGuarded g ceiling j e) h =
      (let P : Unit → Type 0 = λ z. IsIn o (shared_ops z.form)
      in (g, (from-zip f.shared r.shared (g, ceiling) j).0, subst P e h, ap (λ (z : Unit). z.name) (sym e)))
  shared-from u o (OfThread t n j e) h =
      (let P : Unit → Type 0 = λ z. IsIn o (shared_ops z.form) in
      let Q : List Operation → Type 0 = λ z. IsIn o z in absurd (subst Q (thread-silent n.0 n.1 t t.timing).1 (subst P e h)))

  -- a call of passive operations is one of the flat design
  pub calls-flat : (a b : OpName) → Calls (program_for f r) a b → sound.Calls (flat_services f) a b
  calls-flat a b h =
      let c = some-in (same_op b) (flat_map (λ (o : Operation). block_calls o.block) (passive_named (program_for f r) a)) h in
      let o = in-some (λ (o : Operation). block_calls o.block) (passive_named (program_for f r) a) c.0 c.1 in
      let k = in-filter (λ (o : Operation). same_name o.sig.name a.op) o.0
      (flat_map (λ (u : Unit). passive_ops u.form) (filter (λ (u : Unit). same_name u.name a.object) (program_for f r).units)) o.1 in
      let u = in-some (λ (u : Unit). passive_ops u.form) (filter (λ (u : Unit). same_name u.name a.object) (program_for f r).units) o.0 k.0 in
      let v = in-filter (λ (u : Unit). same_name u.name a.object) u.0 (program_for f r).units u.1 in
      let l = passive-from u.0 o.0 (unit-from f r u.0 v.0) u.2 in
      let s : Service = record { object = l.0.name; sort = Plain; op = o.0 } in
      let among : IsIn s (flat_services f) =
      in-left s (flat_map plain_services f.passive) (flat_map protected_services f.shared ++ requests f.threads)
      (in-flat plain_services l.0 s f.passive l.1 (in-map (λ (z : Operation). record { object = l.0.name; sort = Plain; op = z }) o.0 l.0.ops l.2)) in
      let object : l.0.name ≡ a.object = l.3 ∙ same-is u.0.name a.object v.1 in
      let P : OpName → Type 0 = λ z. IsIn z (block_calls o.0.block) in
      any-in (λ (w : Service). same_op (name_of w) a && list_any (same_op b) (block_calls w.op.block)) s (flat_services f) among
      (and_from _ _ (and_from _ _ (is-same l.0.name a.object object) k.1)
      (any-in (same_op b) c.0 (block_calls o.0.block) o.2 c.2))

  -- a call between protected units is one of the flat design
  pub unit-calls-flat : (a b : Name) → CallsUnit (program_for f r) a b
      → sound.CallsObject (flat_services f) a b × (list_any (λ (g : Guarded). same_name g.name a) f.shared ≡ true)
  unit-calls-flat a b h =
      let c = some-in (same_name b) (called_units (program_for f r) a) h in
      let d = in-filter (is_shared_name (program_for f r)) c.0
      (map (λ (z : OpName). z.object) (flat_map (λ (o : Operation). block_calls o.block) (ops_of_shared (program_for f r) a))) c.1 in
      let e = from-map (λ (z : OpName). z.object) (flat_map (λ (o : Operation). block_calls o.block) (ops_of_shared (program_for f r) a)) c.0 d.0 in
      let o = in-some (λ (o : Operation). block_calls o.block) (ops_of_shared (program_for f r) a) e.0 e.1 in
      let u = in-some (λ (u : Unit). shared_ops u.form) (filter (λ (u : Unit). same_name u.name a) (program_for f r).units) o.0 o.1 in
      let v = in-filter (λ (u : Unit). same_name u.name a) u.0 (program_for f r).units u.1 in
      let g = shared-from u.0 o.0 (unit-from f r u.0 v.0) u.2 in
      let s : Service = record { object = g.0.name; sort = Protected; op = o.0 } in
      let among : IsIn s (flat_services f) =
      in-right s (flat_map plain_services f.passive) (flat_map protected_services f.shared ++ requests f.threads)
      (in-left s (flat_map protected_services f.shared) (requests f.threads)
      (in-flat protected_services g.0 s f.shared g.1 (in-map (λ (z : Operation). record { object = g.0.name; sort = Protected; op = z }) o.0
      g.0.ops g.2))) in
      let name : g.0.name ≡ a = g.3 ∙ same-is u.0.name a v.1 in (
        any-in (λ (w : Service). same_name w.object a && list_any (λ (z : OpName). same_name z.object b) (block_calls w.op.block)) s
            (flat_services f) among
            (and_from _ _ (is-same g.0.name a name)
            (any-in (λ (z : OpName). same_name z.object b) e.0 (block_calls o.0.block) o.2
            (is-same e.0.object b (sym e.2 ∙ sym (same-is b c.0 c.2))))),
        any-in (λ (z : Guarded). same_name z.name a) g.0 f.shared g.1 (is-same g.0.name a name),
      )

  -- a passive operation that is there is found among those of its unit
  pub passive-there : (l : Library) (o : Operation) (c : OpName) → IsIn l f.passive → IsIn o l.ops → l.name ≡ c.object → o.sig.name ≡ c.op
      → is_empty (passive_named (program_for f r) c) ≡ false
  passive-there l o c h j e k =
      not-empty (passive_named (program_for f r) c) o
      (filter-in (λ (z : Operation). same_name z.sig.name c.op) o
      (flat_map (λ (u : Unit). passive_ops u.form) (filter (λ (u : Unit). same_name u.name c.object) (program_for f r).units))
      (in-flat (λ (u : Unit). passive_ops u.form) (passive_unit l) o (filter (λ (u : Unit). same_name u.name c.object) (program_for f r).units)
      (filter-in (λ (u : Unit). same_name u.name c.object) (passive_unit l) (program_for f r).units
      (in-left (passive_unit l) (map passive_unit f.passive) (map shared_unit (zip f.shared r.shared)
      ++ map thread_unit (zip f.threads (zip r.threads r.obcs))) (in-map passive_unit l f.passive h))
      (is-same l.name c.object e)) j)
      (is-same o.sig.name c.op k))

module _ (written x : Design) (met : AreMet written x) (r : Ranks) where
  abbrev p : Program
  p = program_for (flat x) r

  -- no rings
  pub rings-right : (u : Unit) → BreaksRings p u → ⊥
  rings-right u (inl (op, (path, leads))) =
      let a : OpName = record { object = u.name; op = op } in
      no-call-ring written x met a (path, leads-map (Calls p) (sound.Calls (flat_services (flat x))) (calls-flat (flat x) r) a path a leads)
  rings-right u (inr (path, leads)) =
      let first = leads-first (CallsUnit p) u.name path u.name leads in
      no-object-ring written x met u.name (unit-calls-flat (flat x) r u.name first.0 first.1).1 (
        path,
        leads-map (CallsUnit p) (sound.CallsObject (flat_services (flat x))) (λ a b h.
            (unit-calls-flat (flat x) r a b h).0) u.name path u.name leads,
      )

  library-uses : (l : Library) → IsIn l (libraries x) → list_any (λ c. is_empty (passive_named p c)) (calls_of (Passive l.ops)) ≡ false
  library-uses l h = none-from (λ c. is_empty (passive_named p c)) (calls_of (Passive l.ops))
      (λ c j. at c (in-some (λ (b : Body). block_calls b.block) (map op_body l.ops) c j))
    where
      at : (c : OpName) → (b : Body) × IsIn b (map op_body l.ops) × IsIn c (block_calls b.block) → is_empty (passive_named p c) ≡ false
      at c (b, i, k) =
          let e = from-map op_body l.ops b i in
          let s = library-from x l h in
          let P : List Operation → Type 0 = λ z. IsIn e.0 z in
          let o = operation-from x s.0.own e.0 (subst P (ap (λ (z : Library). z.ops) s.3) e.1) in
          let object = (terminal-object x s.0 s.1).0 in
          let needed = body-needed written x met s.0 o.body object
          (found-in (λ z. same_name z.name o.provided.sig.name) s.0.own.bodies o.body o.named).0 in
          let Q : Body → Type 0 = λ z. IsIn c (block_calls z.block) in
          let R : Operation → Type 0 = λ z. IsIn c (block_calls z.block) in
          let v = passive-plain-calls written x met s.0 o.body.block object s.2 needed c (subst R o.made (subst Q e.2 k)) in
          let w = found-in (is_service c.object c.op) (flat_services (flat x)) v.0 v.1 in
          let names = and_parts (same_name v.0.object c.object) (same_name v.0.op.sig.name c.op) w.1 in
          let m = plain-library (flat x) v.0 w.0 v.2 in
          passive-there (flat x) r m.0 v.0.op c m.1 m.2 (sym m.3 ∙ same-is v.0.object c.object names.0) (same-is v.0.op.sig.name c.op names.1)

  -- passive units are confined
  pub uses-right : (u : Unit) → IsIn u p.units → breaks_uses p u ≡ false
  uses-right u h = by (unit-from (flat x) r u h)
    where
      by : UnitFrom (flat x) r u → breaks_uses p u ≡ false
      by (OfLibrary l j e) = ap (breaks_uses p) e ∙ library-uses l j
      by (OfGuarded g ceiling j e) = ap (breaks_uses p) e
      by (OfThread t n j e) = ap (breaks_uses p) e ∙ ap (λ b. b && list_any (λ c. is_empty (passive_named p c))
          (calls_of (thread_form n.0 n.1 t.timing t))) (thread-silent n.0 n.1 t t.timing).2
