-- Rings of calls of the flat design are rings of calls of the design, and so are those of protected objects: there are none.
use Rattle.std.proofs.Common.{◌≡◌, true, ◌&&◌, List, [], ◌∷◌, map, filter, flat_map, Option, Some, None, refl, sym, ap, subst, ◌∙◌, inl, inr, ◌⊎◌}
use Rattle.std.specs.List.{list_any}
use Rattle.std.proofs.lemmas.Bool.{and_parts, and_from}
use Rattle.seq_tree.specs.Names.{Name, same_name}
use Rattle.seq_tree.specs.Statements.{Statements}
use Rattle.seq_tree.specs.Operations.{Signature, Operation}
use Rattle.seq_tree.specs.Calls.{block_calls, same_op}
use Rattle.seq_tree.specs.Rings.{LeadsTo, IsOnRing}
use Rattle.seq_tree.proofs.Shared.Walks.{same_op-eq, same_op-refl}
use Rattle.seq_tree.specs.declared.tree.OpName.{OpName}
use Rattle.ods_tree.specs.Designs.{Provided, Body, Object, Design}
use Rattle.ods_tree.specs.Walk.{Standing, terminals}
use Rattle.ods_tree.specs.Links.{resolve, resolved}
use Rattle.ods_tree.specs.Flats.{Guarded}
use Rattle.ods_tree.specs.Flattening.{operations, is_passive, is_protected, guarded, flat}
use Rattle.ods_tree.specs.Services.{Plain, Protected, Service, flat_services, is_service}
use Rattle.ods_tree.specs.declared.design.Kind.{Kind}
use Rattle.ods_tree.specs.declared.design.Kind.TheVariants as kind
use Rattle.analysis.specs.Sound.{name_of}
use Rattle.analysis.specs.Sound as sound
use Rattle.design_rules.specs.Broken.{V09Calls, V09Objects}
use Rattle.design_rules.specs.Lookups.{requires, required_calls}
use Rattle.design_rules.specs.Rings.{terminal_ops, meant_calls, operation_calls, calls_from, CallsOp, protected_objects, calls_object}
use Rattle.design_rules.specs.Rings.{CallsObject, IsOnObjectRing}
use Rattle.design_rules.specs.Rules.{AreMet, CallRing, ObjectRing}
use Rattle.law_designs.proofs.Shared.Lists.{from-map, some-in, key-eq}
use Rattle.law_designs.proofs.Renaming.{block_calls-renamed}
use Rattle.law_designs.proofs.Shared.Flattened.{guarded-from, operation-from, services_at, request_services, service-from, terminal-object}
use Rattle.law_designs.proofs.Shared.ObjectRules.{no-clash}
use Rattle.law_designs.proofs.Shared.ObjectNames.{terminal-names}
use Rattle.law_designs.proofs.Shared.Served.{service-object}
use Rattle.law_designs.proofs.Shared.Blocks.{Needed, AreNeeded, needed-call, body-needed}
use Rattle.law_designs.proofs.WellFormed.{passive-plain-calls}
use Rattle.law_lists.proofs.Shared.Facts.{same-is, is-same}
use Rattle.law_lists.proofs.Shared.Lists.{in-map, in-flat, filter-in, any-in, IsIn, place-of, found-in}

-- a ring of one relation is one of another that has its steps
pub leads-map : {A : Type 0} (R S : A → A → Type 0) → ((a b : A) → R a b → S a b) → (a : A) (path : List A) (b : A) → LeadsTo R a path b
    → LeadsTo S a path b
leads-map R S f a [] b h = f a b h
leads-map R S f a (via ∷ path) b h = (f a via h.0, leads-map R S f via path b h.1)

pub leads-first : {A : Type 0} (R : A → A → Type 0) (a : A) (path : List A) (b : A) → LeadsTo R a path b → (c : A) × R a c
leads-first R a [] b h = (b, h)
leads-first R a (via ∷ path) b h = (via, h.0)

any-op : (xs : List OpName) (c : OpName) → IsIn c xs → list_any (same_op c) xs ≡ true
any-op xs c h = any-in (same_op c) c xs h (same_op-refl c)

-- a call of a body of an operation that an object provides
pub record CalledFrom (x : Design) (o : Object) (v : Service) (c : OpName) : Type 0 where
  pub body : Body
  pub stands : IsIn body o.bodies
  pub name : body.name ≡ v.op.sig.name
  pub provided : Provided
  pub provides : IsIn provided o.provides
  pub head : provided.sig.name ≡ v.op.sig.name
  pub meant : IsIn c (meant_calls x o body.block)
  pub written : IsIn c (block_calls (resolved x body.block))

module _ (written x : Design) (met : AreMet written x) where
  -- what a block of an object calls is what it means to call
  pub meant-call : (o : Object) (b : Statements) → AreNeeded x o b → (c : OpName) → IsIn c (block_calls (resolved x b)) → IsIn c (meant_calls x o b)
  meant-call o b needed c h =
      let P : List OpName → Type 0 = λ z. IsIn c z in
      let r = from-map (resolve x) (block_calls b) c (subst P (block_calls-renamed (resolve x) b) h) in
      let n : Needed x o r.0 = needed-call x o b needed r.0 r.1 in
      let Q : OpName → Type 0 = λ z. IsIn z (meant_calls x o b) in
      subst Q (sym r.2) (in-map (resolve x) r.0 (required_calls o b) (filter-in (requires o) r.0 (block_calls b) r.1 (any-op o.needs r.0 n.needs)))

  operation-called : (s : Standing) (v : Service) (c : OpName) → IsIn s (terminals x) → IsIn v.op (operations x s.own)
      → IsIn c (block_calls v.op.block) → CalledFrom x s.own v c
  operation-called s v c h j i =
      let r = operation-from x s.own v.op j in
      let at = found-in (λ b. same_name b.name r.provided.sig.name) s.own.bodies r.body r.named in
      let P : Operation → Type 0 = λ z. IsIn c (block_calls z.block) in
      let w : IsIn c (block_calls (resolved x r.body.block)) = subst P r.made i in
      let head : r.provided.sig.name ≡ v.op.sig.name = ap (λ (o : Operation). o.sig.name) (sym r.made) in
      record {
        body = r.body;
        stands = at.0;
        name = same-is r.body.name r.provided.sig.name at.1 ∙ head;
        provided = r.provided;
        provides = r.provides;
        head = head;
        meant = meant-call s.own r.body.block (body-needed written x met s r.body (terminal-object x s h).0 at.0) c w;
        written = w;
      }

  request-silent : (name : Name) (r : Option Signature) (v : Service) (c : OpName) → IsIn v (request_services name r)
      → IsIn c (block_calls v.op.block) → ⊥
  request-silent name None v c h i = h
  request-silent name (Some sig) v c (inr h) i = h
  request-silent name (Some sig) v c (inl e) i = (let P : Service → Type 0 = λ z. IsIn c (block_calls z.op.block) in subst P (sym e) i)

  -- a service that calls comes from a body, and its object is passive or protected
  pub service-called : (s : Standing) (v : Service) (c : OpName) → IsIn s (terminals x) → (k : Kind) → IsIn v (services_at x s.own k)
      → IsIn c (block_calls v.op.block)
      → CalledFrom x s.own v c × ((is_passive k ≡ true) ⊎ (is_protected k ≡ true))
  service-called s v c h kind.Passive j i =
      let r = from-map (λ z. record { object = s.own.name; sort = Plain; op = z }) (operations x s.own) v j in
      let P : Operation → Type 0 = λ z. IsIn z (operations x s.own) in
      (operation-called s v c h (subst P (ap (λ (w : Service). w.op) (sym r.2)) r.1) i, inl refl)
  service-called s v c h kind.Protected j i =
      let r = from-map (λ z. record { object = s.own.name; sort = Protected; op = z }) (operations x s.own) v j in
      let P : Operation → Type 0 = λ z. IsIn z (operations x s.own) in
      (operation-called s v c h (subst P (ap (λ (w : Service). w.op) (sym r.2)) r.1) i, inr refl)
  service-called s v c h kind.Sporadic j i = absurd (request-silent s.own.name _ v c j i)
  service-called s v c h kind.Cyclic j i = absurd j
  service-called s v c h kind.Active j i = absurd j

  -- calls
  record Step (a b : OpName) : Type 0 where
    calls : CallsOp x a b
    stands : IsIn a (terminal_ops x)

  step-from : (a b : OpName) → sound.Calls (flat_services (flat x)) a b → Step a b
  step-from a b h =
      let r = some-in (λ s. same_op (name_of s) a && list_any (same_op b) (block_calls s.op.block)) (flat_services (flat x)) h in
      let both = and_parts (same_op (name_of r.0) a) (list_any (same_op b) (block_calls r.0.op.block)) r.2 in
      let name : name_of r.0 ≡ a = same_op-eq (name_of r.0) a both.0 in
      let c = some-in (same_op b) (block_calls r.0.op.block) both.1 in
      let P : OpName → Type 0 = λ z. IsIn z (block_calls r.0.op.block) in
      let call : IsIn b (block_calls r.0.op.block) = subst P (sym (same_op-eq b c.0 c.2)) c.1 in
      let s = service-from x r.0 r.1 in
      let f = (service-called s.0 r.0 b s.1 s.0.own.kind s.2 call).0 in
      let object : s.0.own.name ≡ a.object = sym (service-object x s.0.own s.0.own.kind r.0 s.2) ∙ ap (λ (n : OpName). n.object) name in
      let op : f.body.name ≡ a.op = f.name ∙ ap (λ (n : OpName). n.op) name in
      let own : IsIn b (operation_calls x s.0.own a.op) =
      in-flat (λ d. meant_calls x s.0.own d.block) f.body b (filter (λ d. same_name d.name a.op) s.0.own.bodies)
      (filter-in (λ d. same_name d.name a.op) f.body s.0.own.bodies f.stands (is-same f.body.name a.op op)) f.meant in
      let all : IsIn b (calls_from x a) =
      in-flat (λ t. operation_calls x t.own a.op) s.0 b (filter (λ t. same_name t.own.name a.object) (terminals x))
      (filter-in (λ t. same_name t.own.name a.object) s.0 (terminals x) s.1 (is-same s.0.own.name a.object object)) own in
      let there : record { object = s.0.own.name; op = f.provided.sig.name } ≡ a =
      ap (λ z. record { object = z; op = f.provided.sig.name }) object ∙ ap (λ z. record { object = a.object; op = z })
      (f.head ∙ ap (λ (n : OpName). n.op) name) in
      let Q : OpName → Type 0 = λ z. IsIn z (terminal_ops x) in
      record {
        calls = any-op (calls_from x a) b all;
        stands = subst Q there (in-flat (λ t. map (λ (p : Provided). record { object = t.own.name; op = p.sig.name }) t.own.provides) s.0 _
            (terminals x) s.1
            (in-map (λ (p : Provided). record { object = s.0.own.name; op = p.sig.name }) f.provided s.0.own.provides f.provides));
      }

  pub no-call-ring : (name : OpName) → IsOnRing (sound.Calls (flat_services (flat x))) name → ⊥
  no-call-ring name (path, leads) =
      let first = leads-first (sound.Calls (flat_services (flat x))) name path name leads in
      let place = place-of name (terminal_ops x) (step-from name first.0 first.1).stands in
      met CallRing place.0 (V09Calls name) (record {
        op = name;
        stands = place.1;
        tells = refl;
        ring = (path, leads-map (sound.Calls (flat_services (flat x))) (CallsOp x) (λ a b s. (step-from a b s).calls) name path name leads);
      })

  -- protected objects
  pub record IsProtected (name : Name) : Type 0 where
    pub standing : Standing
    pub stands : IsIn standing (terminals x)
    pub sort : is_protected standing.own.kind ≡ true
    pub named : standing.own.name ≡ name

  sort-of : (k : Kind) (o : Object) (v : Service) → is_protected k ≡ true → IsIn v (services_at x o k) → v.sort ≡ Protected
  sort-of kind.Protected o v e h = (let r = from-map (λ z. record { object = o.name; sort = Protected; op = z }) (operations x o) v h
      in ap (λ (w : Service). w.sort) r.2)
  sort-of kind.Passive o v e h = cc
  sort-of kind.Active o v e h = cc
  sort-of kind.Sporadic o v e h = cc
  sort-of kind.Cyclic o v e h = cc

  not-plain : Plain ≡ Protected → ⊥
  not-plain e = cc

  among-protected : {n : Name} (p : IsProtected n) → IsIn p.standing.own (protected_objects x)
  among-protected p = in-map (λ (s : Standing). s.own) p.standing (filter (λ s. is_protected s.own.kind) (terminals x))
      (filter-in (λ s. is_protected s.own.kind) p.standing (terminals x) p.stands p.sort)

  object-step : (a b : Name) → sound.CallsObject (flat_services (flat x)) a b → IsProtected b → IsProtected a × CallsObject x a b
  object-step a b h p =
      let r = some-in (λ s. same_name s.object a && list_any (λ c. same_name c.object b) (block_calls s.op.block)) (flat_services (flat x)) h in
      let both = and_parts (same_name r.0.object a) (list_any (λ c. same_name c.object b) (block_calls r.0.op.block)) r.2 in
      let c = some-in (λ d. same_name d.object b) (block_calls r.0.op.block) both.1 in
      let s = service-from x r.0 r.1 in
      let f = service-called s.0 r.0 c.0 s.1 s.0.own.kind s.2 c.1 in
      let name : s.0.own.name ≡ a = sym (service-object x s.0.own s.0.own.kind r.0 s.2) ∙ same-is r.0.object a both.0 in
      by s.0 s.1 name r.0 c.0 (same-is c.0.object b c.2) f.0 f.1
    where
      by : (s : Standing) → IsIn s (terminals x) → s.own.name ≡ a → (v : Service) (c : OpName) → c.object ≡ b → CalledFrom x s.own v c
          → (is_passive s.own.kind ≡ true) ⊎ (is_protected s.own.kind ≡ true)
          → IsProtected a × CallsObject x a b
      by s t name v c object f (inr sort) =
          let from : IsProtected a = record { standing = s; stands = t; sort = sort; named = name } in
          let call : calls_object x s.own p.standing.own ≡ true =
          any-in (λ d. same_name d.object p.standing.own.name) c (flat_map (λ d. meant_calls x s.own d.block) s.own.bodies)
          (in-flat (λ d. meant_calls x s.own d.block) f.body c s.own.bodies f.stands f.meant)
          (is-same c.object p.standing.own.name (object ∙ sym p.named)) in (
            from,
            any-in _ s.own (protected_objects x) (among-protected from)
                (and_from _ _ (is-same s.own.name a name) (any-in _ p.standing.own (protected_objects x) (among-protected p)
                (and_from _ _ (is-same p.standing.own.name b p.named) call))),
          )
      by s t name v c object f (inl passive) =
          let o = (terminal-object x s t).0 in
          let w = passive-plain-calls written x met s f.body.block o passive (body-needed written x met s f.body o f.stands) c f.written in
          let at = found-in (is_service c.object c.op) (flat_services (flat x)) w.0 w.1 in
          let u = service-from x w.0 at.0 in
          let names : u.0.own.name ≡ p.standing.own.name =
          sym (service-object x u.0.own u.0.own.kind w.0 u.2) ∙ same-is w.0.object c.object
          (and_parts (same_name w.0.object c.object) (same_name w.0.op.sig.name c.op) at.1).0 ∙ object ∙ sym p.named in
          let same : u.0 ≡ p.standing = key-eq (λ (z : Standing). z.own.name) (terminals x) (terminal-names x (no-clash written x met)) u.0 p.standing
          u.1 p.stands names in
          absurd (not-plain (sym w.2 ∙ sort-of u.0.own.kind u.0.own w.0 (ap (λ (z : Standing). is_protected z.own.kind) same ∙ p.sort) u.2))

  object-leads : (a : Name) (path : List Name) (b : Name) → LeadsTo (sound.CallsObject (flat_services (flat x))) a path b → IsProtected b
      → IsProtected a × LeadsTo (CallsObject x) a path b
  object-leads a [] b h p = object-step a b h p
  object-leads a (via ∷ path) b h p =
      let r = object-leads via path b h.1 p in
      let s = object-step a via h.0 r.0 in (s.0, (s.1, r.1))

  pub no-object-ring : (name : Name) → list_any (λ (g : Guarded). same_name g.name name) (guarded x) ≡ true
      → IsOnRing (sound.CallsObject (flat_services (flat x))) name → ⊥
  no-object-ring name h (path, leads) =
      let g = some-in (λ (g : Guarded). same_name g.name name) (guarded x) h in
      let s = guarded-from x g.0 g.1 in
      let named : s.0.own.name ≡ name = sym (ap (λ (z : Guarded). z.name) s.3) ∙ same-is g.0.name name g.2 in
      let p : IsProtected name = record { standing = s.0; stands = s.1; sort = s.2; named = named } in
      let place = place-of s.0.own (protected_objects x) (among-protected p) in
      let P : Name → Type 0 = λ z. IsOnObjectRing x z in
      met ObjectRing place.0 (V09Objects s.0.own.name) (record {
        object = s.0.own;
        stands = place.1;
        tells = refl;
        ring = subst P (sym named) (path, (object-leads name path name leads p).1);
      })
