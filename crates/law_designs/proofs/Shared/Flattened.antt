-- The entries of a flat design: each comes from one terminal object, and each terminal object of a sort that runs gives one.
use Rattle.std.proofs.Common.{◌≡◌, Bool, true, false, List, [], ◌∷◌, ◌++◌, flat_map, Option, Some, None, option_map, option_and_then, refl, sym}
use Rattle.std.proofs.Common.{ap, subst, ◌∙◌, inl, inr, ◌⊎◌, if◌then◌else◌}
use Rattle.seq_tree.specs.Names.{Name}
use Rattle.seq_tree.specs.Statements.{Statements}
use Rattle.seq_tree.specs.Operations.{Signature, Operation}
use Rattle.ods_tree.specs.Designs.{Provided, Body, Object, Design}
use Rattle.ods_tree.specs.Walk.{Standing, objects, is_terminal, terminals}
use Rattle.ods_tree.specs.Attributes.{attribute, attribute_or}
use Rattle.ods_tree.specs.declared.design.AttrKey.TheVariants.{Period, Offset, Separation, ArrivalJitter}
use Rattle.ods_tree.specs.Flats.{Library, Guarded, Timing, Cyclic, Sporadic, Thread}
use Rattle.ods_tree.specs.Flattening.{body_named, operation_by, operations, request_op, timing_by, thread_at, thread_by, is_passive}
use Rattle.ods_tree.specs.Flattening.{is_protected, libraries, guarded, threads, flat}
use Rattle.ods_tree.specs.Services.{Service, plain_services, protected_services, request_service, request_of, requested, requests, flat_services}
use Rattle.ods_tree.specs.declared.design.Kind.{Kind}
use Rattle.ods_tree.specs.declared.design.Kind.TheVariants as kind
use Rattle.law_designs.proofs.Shared.Lists.{in-cases, in-filter_map}
use Rattle.law_lists.proofs.Shared.Lists.{in-filter, IsIn, in-some, in-made}

-- the entries that objects give
abbrev pub library_by : Design → Object → Library
library_by x o = record { name = o.name; ops = operations x o }

abbrev pub guarded_by : Design → Object → Guarded
guarded_by x o = record { name = o.name; vars = o.vars; ops = operations x o }

some-if : {A : Type 0} (b : Bool) (a c : A) → (if b then Some a else None) ≡ Some c → (b ≡ true) × (c ≡ a)
some-if true a c e = (refl, (let k : Some a ≡ Some c = e in cc))
some-if false a c e = absurd (let k : None ≡ Some c = e in cc)

pub terminal-object : (x : Design) (s : Standing) → IsIn s (terminals x) → IsIn s (objects x) × (is_terminal s ≡ true)
terminal-object x s h = in-filter is_terminal s (objects x) h

-- from entries to objects
pub library-from : (x : Design) (l : Library) → IsIn l (libraries x) → (s : Standing) × IsIn s (terminals x) × (is_passive s.own.kind ≡ true)
    × (l ≡ library_by x s.own)
library-from x l h =
    let r = in-made (λ s. if is_passive s.own.kind then Some (library_by x s.own) else None) (terminals x) l h in
    let k = some-if (is_passive r.0.own.kind) (library_by x r.0.own) l r.2 in (r.0, r.1, k.0, k.1)

pub guarded-from : (x : Design) (g : Guarded) → IsIn g (guarded x) → (s : Standing) × IsIn s (terminals x) × (is_protected s.own.kind ≡ true)
    × (g ≡ guarded_by x s.own)
guarded-from x g h =
    let r = in-made (λ s. if is_protected s.own.kind then Some (guarded_by x s.own) else None) (terminals x) g h in
    let k = some-if (is_protected r.0.own.kind) (guarded_by x r.0.own) g r.2 in (r.0, r.1, k.0, k.1)

-- a thread by its object, its timing and its block
pub record ThreadFrom (x : Design) (t : Thread) : Type 0 where
  pub standing : Standing
  pub stands : IsIn standing (terminals x)
  pub timing : Timing
  pub block : Statements
  pub timed : timing_by standing.own.kind standing.own ≡ Some timing
  pub runs : standing.own.thread ≡ Some block
  pub made : t ≡ thread_at x standing.own timing block

made-of : (x : Design) (o : Object) (t : Thread) (timing : Option Timing) (block : Option Statements)
    → option_and_then (λ u. option_map (thread_at x o u) block) timing ≡ Some t → (u : Timing) × (b : Statements) × (timing ≡ Some u)
    × (block ≡ Some b) × (t ≡ thread_at x o u b)
made-of x o t None block e = absurd (let k : None ≡ Some t = e in cc)
made-of x o t (Some u) None e = absurd (let k : None ≡ Some t = e in cc)
made-of x o t (Some u) (Some b) e = (u, b, refl, refl, (let k : Some (thread_at x o u b) ≡ Some t = e in cc))

pub thread-from : (x : Design) (t : Thread) → IsIn t (threads x) → ThreadFrom x t
thread-from x t h =
    let r = in-made (λ s. thread_by x s.own) (terminals x) t h in
    let m = made-of x r.0.own t (timing_by r.0.own.kind r.0.own) r.0.own.thread r.2 in
    record { standing = r.0; stands = r.1; timing = m.0; block = m.1; timed = m.2; runs = m.3; made = m.4 }

-- the timing of an object's thread, by its kind
pub data TimingOf (o : Object) (t : Timing) : Type 0 where
  OfCyclic : o.kind ≡ kind.Cyclic → t ≡ Cyclic (attribute_or 0 Period o) (attribute_or 0 Offset o) → TimingOf o t
  OfSporadic : (sig : Signature) → o.kind ≡ kind.Sporadic → request_op o.provides ≡ Some sig
      → t ≡ Sporadic sig (attribute_or 0 Separation o) (attribute ArrivalJitter o) → TimingOf o t

pub timing-of : (o : Object) (t : Timing) → timing_by o.kind o ≡ Some t → TimingOf o t
timing-of o t e = by o.kind refl e
  where
    asks : (r : Option Signature) → o.kind ≡ kind.Sporadic → request_op o.provides ≡ r
        → option_map (λ op. Sporadic op (attribute_or 0 Separation o) (attribute ArrivalJitter o)) r ≡ Some t → TimingOf o t
    asks None g q h = (let z : None ≡ Some t = h in cc)
    asks (Some sig) g q h = (let z : Some (Sporadic sig (attribute_or 0 Separation o) (attribute ArrivalJitter o)) ≡ Some t = h
        in OfSporadic sig g q cc)

    by : (k : Kind) → o.kind ≡ k → timing_by k o ≡ Some t → TimingOf o t
    by kind.Cyclic g h = (let z : Some (Cyclic (attribute_or 0 Period o) (attribute_or 0 Offset o)) ≡ Some t = h in OfCyclic g cc)
    by kind.Sporadic g h = asks (request_op o.provides) g refl h
    by kind.Passive g h = (let z : None ≡ Some t = h in cc)
    by kind.Active g h = (let z : None ≡ Some t = h in cc)
    by kind.Protected g h = (let z : None ≡ Some t = h in cc)

-- what holds of cyclic and sporadic objects holds of each with a timing
pub timed-kind : (test : Kind → Bool) (b : Bool) (o : Object) (t : Timing) → test kind.Cyclic ≡ b → test kind.Sporadic ≡ b
    → timing_by o.kind o ≡ Some t → test o.kind ≡ b
timed-kind test b o t c s e = by (timing-of o t e)
  where
    by : TimingOf o t → test o.kind ≡ b
    by (OfCyclic g q) = ap test g ∙ c
    by (OfSporadic sig g r q) = ap test g ∙ s

-- and back
pub library-of : (x : Design) (s : Standing) → IsIn s (terminals x) → is_passive s.own.kind ≡ true → IsIn (library_by x s.own) (libraries x)
library-of x s h e =
    in-filter_map (λ t. if is_passive t.own.kind then Some (library_by x t.own) else None) (terminals x) s (library_by x s.own) h
    (ap (λ b. if b then Some (library_by x s.own) else None) e)

pub guarded-of : (x : Design) (s : Standing) → IsIn s (terminals x) → is_protected s.own.kind ≡ true → IsIn (guarded_by x s.own) (guarded x)
guarded-of x s h e =
    in-filter_map (λ t. if is_protected t.own.kind then Some (guarded_by x t.own) else None) (terminals x) s (guarded_by x s.own) h
    (ap (λ b. if b then Some (guarded_by x s.own) else None) e)

pub thread-of : (x : Design) (s : Standing) (timing : Timing) (b : Statements) → IsIn s (terminals x) → timing_by s.own.kind s.own ≡ Some timing
    → s.own.thread ≡ Some b
    → IsIn (thread_at x s.own timing b) (threads x)
thread-of x s timing b h e k =
    in-filter_map (λ t. thread_by x t.own) (terminals x) s (thread_at x s.own timing b) h
    (ap (option_and_then (λ u. option_map (thread_at x s.own u) s.own.thread)) e ∙ ap (option_map (thread_at x s.own timing)) k)

-- an operation by what is provided and its body
pub record OperationFrom (x : Design) (o : Object) (e : Operation) : Type 0 where
  pub provided : Provided
  pub body : Body
  pub provides : IsIn provided o.provides
  pub named : body_named provided.sig.name o.bodies ≡ Some body
  pub made : e ≡ operation_by x provided.sig body

bodied : (x : Design) (p : Provided) (e : Operation) (b : Option Body) → option_map (operation_by x p.sig) b ≡ Some e
    → (c : Body) × (b ≡ Some c) × (e ≡ operation_by x p.sig c)
bodied x p e None k = absurd (let z : None ≡ Some e = k in cc)
bodied x p e (Some c) k = (c, refl, (let z : Some (operation_by x p.sig c) ≡ Some e = k in cc))

pub operation-from : (x : Design) (o : Object) (e : Operation) → IsIn e (operations x o) → OperationFrom x o e
operation-from x o e h =
    let r = in-made (λ p. option_map (operation_by x p.sig) (body_named p.sig.name o.bodies)) o.provides e h in
    let k = bodied x r.0 e (body_named r.0.sig.name o.bodies) r.2 in
    record { provided = r.0; body = k.0; provides = r.1; named = k.1; made = k.2 }

pub operation-of : (x : Design) (o : Object) (p : Provided) (b : Body) → IsIn p o.provides → body_named p.sig.name o.bodies ≡ Some b
    → IsIn (operation_by x p.sig b) (operations x o)
operation-of x o p b h e =
    in-filter_map (λ q. option_map (operation_by x q.sig) (body_named q.sig.name o.bodies)) o.provides p (operation_by x p.sig b) h
    (ap (option_map (operation_by x p.sig)) e)

-- the services that an object gives, by its kind
abbrev pub request_services : Name → Option Signature → List Service
request_services name None = []
request_services name (Some sig) = request_service name sig ∷ []

abbrev pub services_at : Design → Object → Kind → List Service
services_at x o kind.Passive = plain_services (library_by x o)
services_at x o kind.Protected = protected_services (guarded_by x o)
services_at x o kind.Sporadic = request_services o.name (request_op o.provides)
services_at x o kind.Cyclic = []
services_at x o kind.Active = []

passive-kind : (k : Kind) → is_passive k ≡ true → k ≡ kind.Passive
passive-kind kind.Passive e = refl
passive-kind kind.Active e = cc
passive-kind kind.Protected e = cc
passive-kind kind.Cyclic e = cc
passive-kind kind.Sporadic e = cc

protected-kind : (k : Kind) → is_protected k ≡ true → k ≡ kind.Protected
protected-kind kind.Protected e = refl
protected-kind kind.Active e = cc
protected-kind kind.Passive e = cc
protected-kind kind.Cyclic e = cc
protected-kind kind.Sporadic e = cc

-- a request comes from a sporadic object
asked : (x : Design) (o : Object) (timing : Timing) (v : Service) → timing_by o.kind o ≡ Some timing → requested o.name (request_of timing) ≡ Some v
    → IsIn v (services_at x o o.kind)
asked x o timing v e h = by (timing-of o timing e)
  where
    by : TimingOf o timing → IsIn v (services_at x o o.kind)
    by (OfCyclic g s) = (let z : None ≡ Some v = ap (λ t. requested o.name (request_of t)) (sym s) ∙ h in cc)
    by (OfSporadic sig g r s) =
        let z : Some (request_service o.name sig) ≡ Some v = ap (λ t. requested o.name (request_of t)) (sym s) ∙ h in
        let same : request_service o.name sig ≡ v = cc in
        let P : Kind → Type 0 = λ k. IsIn v (services_at x o k) in
        let Q : Option Signature → Type 0 = λ q. IsIn v (request_services o.name q) in
        subst P (sym g) (subst Q (sym r) (inl same))

pub service-from : (x : Design) (v : Service) → IsIn v (flat_services (flat x)) → (s : Standing) × IsIn s (terminals x)
    × IsIn v (services_at x s.own s.own.kind)
service-from x v h = by (in-cases (flat_map plain_services (libraries x)) (flat_map protected_services (guarded x) ++ requests (threads x)) v h)
  where
    later : IsIn v (flat_map protected_services (guarded x)) ⊎ IsIn v (requests (threads x))
        → (s : Standing) × IsIn s (terminals x) × IsIn v (services_at x s.own s.own.kind)
    later (inl k) =
        let r = in-some protected_services (guarded x) v k in
        let s = guarded-from x r.0 r.1 in
        let P : Guarded → Type 0 = λ g. IsIn v (protected_services g) in
        let Q : Kind → Type 0 = λ z. IsIn v (services_at x s.0.own z) in
        (s.0, s.1, subst Q (sym (protected-kind s.0.own.kind s.2)) (subst P s.3 r.2))
    later (inr k) =
        let r = in-made (λ t. requested t.name (request_of t.timing)) (threads x) v k in
        let s = thread-from x r.0 r.1 in
        let e : requested s.standing.own.name (request_of s.timing) ≡ Some v = sym (ap (λ t. requested t.name (request_of t.timing)) s.made) ∙ r.2 in
        (s.standing, s.stands, asked x s.standing.own s.timing v s.timed e)

    by : IsIn v (flat_map plain_services (libraries x)) ⊎ IsIn v (flat_map protected_services (guarded x) ++ requests (threads x))
        → (s : Standing) × IsIn s (terminals x) × IsIn v (services_at x s.own s.own.kind)
    by (inl k) =
        let r = in-some plain_services (libraries x) v k in
        let s = library-from x r.0 r.1 in
        let P : Library → Type 0 = λ l. IsIn v (plain_services l) in
        let Q : Kind → Type 0 = λ z. IsIn v (services_at x s.0.own z) in
        (s.0, s.1, subst Q (sym (passive-kind s.0.own.kind s.2)) (subst P s.3 r.2))
    by (inr k) = later (in-cases (flat_map protected_services (guarded x)) (requests (threads x)) v k)
