-- Each unit of the program is of one terminal object: its name, its operations, its data and its bodies are the object's.
use Rattle.std.proofs.Common.{◌≡◌, ℕ, true, ◌&&◌, List, [], ◌∷◌, map, Option, Some, None, option_map, zip, refl, sym, ap, subst, ◌∙◌, inl, inr, ◌⊎◌}
use Rattle.std.proofs.lemmas.Bool.{or_right, and_from}
use Rattle.std.proofs.lemmas.Simd.{map-map}
use Rattle.seq_tree.specs.Names.{are_distinct}
use Rattle.seq_tree.specs.Operations.{Signature, Operation}
use Rattle.ods_tree.specs.Designs.{Provided, Body, Design}
use Rattle.ods_tree.specs.Walk.{Standing, terminals}
use Rattle.ods_tree.specs.Links.{resolved}
use Rattle.ods_tree.specs.Flats.{Timing, Thread}
use Rattle.ods_tree.specs.Flats as timing
use Rattle.ods_tree.specs.Flattening.{operation_by, body_named, operations, request_op, thread_at, guarded, threads, flat}
use Rattle.ods_tree.specs.declared.design.Kind.{Kind}
use Rattle.ods_tree.specs.declared.design.Kind.TheVariants as kind
use Rattle.ods_tree.specs.declared.design.Constraint.{Constraint}
use Rattle.ods_tree.specs.declared.design.Constraint.TheVariants as constraint
use Rattle.design_rules.specs.Lookups.{is_sporadic}
use Rattle.design_rules.specs.Clashes.{is_aser, is_there, is_request, has_block, is_bodied}
use Rattle.design_rules.specs.Operations.{may_provide}
use Rattle.design_rules.specs.Rules.{AreMet}
use Rattle.ada_tree.specs.Programs.{Unit}
use Rattle.ada_tree.specs.Bodies.{op_body, bodies, data_of, heads}
use Rattle.ada_tree.specs.Bodies as ada
use Rattle.analysis.specs.Ceilings.{Ranks}
use Rattle.guarantee.specs.Programs.{passive_unit, shared_unit, thread_unit, program_for}
use Rattle.law_designs.proofs.Shared.Lists.{from-map, distinct-taken}
use Rattle.law_designs.proofs.Shared.Flattened.{library-from, guarded-from, ThreadFrom, thread-from, terminal-object, operation-from}
use Rattle.law_designs.proofs.Shared.ObjectRules.{no-clash}
use Rattle.law_designs.proofs.Shared.ObjectNames.{op-names}
use Rattle.law_designs.proofs.Shared.Started.{Asked}
use Rattle.law_designs.proofs.Shared.Offers.{Fitting}
use Rattle.law_designs.proofs.Externals.{asked-of}
use Rattle.law_designs.proofs.Shared.Units.{from-zip, UnitFrom, OfLibrary, OfGuarded, OfThread, unit-from}
use Rattle.law_designs.proofs.ObjectMentions.{BodyFrom}
use Rattle.law_designs.proofs.ObjectMentions as body
use Rattle.law_lists.proofs.Shared.Lists.{IsIn}
use Rattle.law_designs.proofs.Shared.Served.{may-provide}
use Rattle.law_designs.proofs.Shared.Blocks.{kept}

-- the object of a unit
pub record UnitObject (x : Design) (u : Unit) : Type 0 where
  pub standing : Standing
  pub stands : IsIn standing (terminals x)
  pub name : u.name ≡ standing.own.name
  pub op : (h : Signature) → IsIn h (heads u.form) → (p : Provided) × IsIn p standing.own.provides × (h ≡ p.sig)
  pub ops_differ : are_distinct (map (λ (h : Signature). h.name) (heads u.form)) ≡ true
  pub vars : (data_of u.form ≡ []) ⊎ (data_of u.form ≡ standing.own.vars)
  pub bodies : (b : ada.Body) → IsIn b (bodies u.form) → BodyFrom x standing b

-- the request of an object is an operation that it provides
first-request : (ps : List Provided) (sig : Signature) → request_op ps ≡ Some sig → (p : Provided) × IsIn p ps × (sig ≡ p.sig)
first-request [] sig e = (let z : None ≡ Some sig = e in cc)
first-request (p ∷ ps) sig e =
    let z : Some p.sig ≡ Some sig = e in
    let s : p.sig ≡ sig = cc in (p, inl refl, sym s)

request-only : (c : Option Constraint) → may_provide kind.Sporadic c ≡ true → is_aser c ≡ true
request-only (Some constraint.Aser) e = refl
request-only (Some constraint.Hser) e = cc
request-only (Some constraint.Pser) e = cc
request-only (Some constraint.Paer) e = cc
request-only None e = cc

module _ (written x : Design) (met : AreMet written x) (r : Ranks) (fit : Fitting (flat x) r) where
  -- the operations of an object with a body each
  ops-of : (s : Standing) (h : Signature) → IsIn h (map (λ (e : Operation). e.sig) (operations x s.own))
      → (p : Provided) × IsIn p s.own.provides × (h ≡ p.sig)
  ops-of s h j =
      let q = from-map (λ (e : Operation). e.sig) (operations x s.own) h j in
      let f = operation-from x s.own q.0 q.1 in (f.provided, f.provides, q.2 ∙ ap (λ (e : Operation). e.sig) f.made)

  made-name : (s : Standing) (p : Provided) (e : Operation) (b : Option Body) → option_map (operation_by x p.sig) b ≡ Some e → e.sig.name ≡ p.sig.name
  made-name s p e None k = (let z : None ≡ Some e = k in cc)
  made-name s p e (Some c) k =
      let z : Some (operation_by x p.sig c) ≡ Some e = k in
      let same : operation_by x p.sig c ≡ e = cc in ap (λ (o : Operation). o.sig.name) (sym same)

  names-differ : (s : Standing) → IsIn s (terminals x)
      → are_distinct (map (λ (h : Signature). h.name) (map (λ (e : Operation). e.sig) (operations x s.own))) ≡ true
  names-differ s h =
      ap are_distinct (map-map (λ (g : Signature). g.name) (λ (e : Operation). e.sig) (operations x s.own))
      ∙ distinct-taken (λ (p : Provided). p.sig.name) (λ (e : Operation). e.sig.name)
      (λ p. option_map (operation_by x p.sig) (body_named p.sig.name s.own.bodies)) s.own.provides
      (λ p e k. made-name s p e (body_named p.sig.name s.own.bodies) k) (op-names x s (no-clash written x met) (terminal-object x s h).0)

  bodies-of : (s : Standing) (b : ada.Body) → IsIn b (map op_body (operations x s.own)) → BodyFrom x s b
  bodies-of s b j =
      let q = from-map op_body (operations x s.own) b j in
      let f = operation-from x s.own q.0 q.1 in body.OfOperation f.provided f.body f.provides f.named (q.2 ∙ ap op_body f.made)

  thread-object : (t : Thread) (f : ThreadFrom x t) (n : ℕ × ℕ) (u : Timing) → f.timing ≡ u
      → UnitObject x (thread_unit (thread_at x f.standing.own u f.block, n))
  thread-object t f n (timing.Cyclic period offset) e = record {
    standing = f.standing;
    stands = f.stands;
    name = refl;
    op = λ h j. absurd j;
    ops_differ = refl;
    vars = inr refl;
    bodies = λ b j. only b j;
  }
    where
      only : (b : ada.Body) → IsIn b (record { params = []; locals = []; block = resolved x f.block } ∷ []) → BodyFrom x f.standing b
      only b (inl s) = body.OfThread f.block f.runs (sym s)
      only b (inr j) = absurd j
  thread-object t f n (timing.Sporadic op separation jitter) e = record {
    standing = f.standing;
    stands = f.stands;
    name = refl;
    op = λ h j. asked h j;
    ops_differ = refl;
    vars = inr refl;
    bodies = λ b j. only b j;
  }
    where
      k : Asked x f.standing.own op
      k = asked-of written x met r fit t f op separation jitter (ap (λ (v : Thread). v.timing) f.made ∙ e)

      first : (p : Provided) × IsIn p f.standing.own.provides × (op ≡ p.sig)
      first = first-request f.standing.own.provides op k.asks

      asked : (h : Signature) → IsIn h (op ∷ []) → (p : Provided) × IsIn p f.standing.own.provides × (h ≡ p.sig)
      asked h (inl s) = (first.0, first.1, sym s ∙ first.2)
      asked h (inr j) = absurd j

      request : is_request f.standing.own first.0 ≡ true
      request =
          let P : Kind → Type 0 = λ z. may_provide z first.0.constraint ≡ true in
          and_from _ _ (ap is_sporadic k.sporadic)
          (request-only first.0.constraint (subst P k.sporadic (may-provide x (kept written x met) f.standing first.0 f.stands first.1)))

      bodied : is_bodied f.standing.own first.0 ≡ true
      bodied =
          or_right (is_there (body_named first.0.sig.name f.standing.own.bodies)) (is_request f.standing.own first.0
          && has_block f.standing.own.thread)
          (ap (λ z. z && has_block f.standing.own.thread) request ∙ ap has_block f.runs)

      only : (b : ada.Body) → IsIn b (record { params = op.params; locals = []; block = resolved x f.block } ∷ []) → BodyFrom x f.standing b
      only b (inl s) =
          body.OfRequest first.0 f.block first.1 bodied request f.runs
          (sym s ∙ ap (λ (g : Signature). record { params = g.params; locals = []; block = resolved x f.block }) first.2)
      only b (inr j) = absurd j

  pub unit-object : (u : Unit) → IsIn u (program_for (flat x) r).units → UnitObject x u
  unit-object u h = by (unit-from (flat x) r u h)
    where
      P : Unit → Type 0
      P z = UnitObject x z

      by : UnitFrom (flat x) r u → UnitObject x u
      by (OfLibrary l j e) =
          let q = library-from x l j in
          subst P (sym (e ∙ ap passive_unit q.3)) (record {
            standing = q.0;
            stands = q.1;
            name = refl;
            op = ops-of q.0;
            ops_differ = names-differ q.0 q.1;
            vars = inl refl;
            bodies = bodies-of q.0;
          })
      by (OfGuarded g ceiling j e) =
          let q = guarded-from x g (from-zip (guarded x) r.shared (g, ceiling) j).0 in
          subst P (sym (e ∙ ap (λ z. shared_unit (z, ceiling)) q.3)) (record {
            standing = q.0;
            stands = q.1;
            name = refl;
            op = ops-of q.0;
            ops_differ = names-differ q.0 q.1;
            vars = inr refl;
            bodies = bodies-of q.0;
          })
      by (OfThread t n j e) =
          let f = thread-from x t (from-zip (threads x) (zip r.threads r.obcs) (t, n) j).0 in
          subst P (sym (e ∙ ap (λ z. thread_unit (z, n)) f.made)) (thread-object t f n f.timing refl)
