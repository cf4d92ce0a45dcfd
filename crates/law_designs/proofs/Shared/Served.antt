-- What a required operation leads to: its call, read by what it means, names an operation of the flat design whose parameters agree.
-- It is a plain procedure where the required operation has no constraint.
use Rattle.std.proofs.Common.{◌≡◌, Bool, true, false, not, ◌&&◌, ◌||◌, ◌==◌, List, [], ◌∷◌, ◌++◌, map, flat_map, length, Option, Some, None}
use Rattle.std.proofs.Common.{option_map, refl, sym, ap, subst, ◌∙◌, arith, inl, inr}
use Rattle.ods_tree.specs.declared.design.Constraint.TheVariants.{Aser, Hser, Paer, Pser}
use Rattle.std.specs.List.{list_any}
use Rattle.std.proofs.lemmas.Bool.{or_parts, and_parts, and_from, not-false, eqb-true}
use Rattle.seq_tree.specs.Names.{Name, same_name, are_distinct}
use Rattle.seq_tree.specs.Statements.{Statements}
use Rattle.seq_tree.specs.Operations.{Signature, Operation}
use Rattle.seq_tree.specs.declared.tree.OpName.{OpName}
use Rattle.ods_tree.specs.Attributes.{attribute, attribute_or}
use Rattle.ods_tree.specs.declared.design.AttrKey.TheVariants.{Separation, ArrivalJitter}
use Rattle.ods_tree.specs.Designs.{Provided, Body, Object, Design}
use Rattle.ods_tree.specs.Walk.{Standing, objects, is_empty, is_terminal, terminals}
use Rattle.ods_tree.specs.Links.{resolve}
use Rattle.ods_tree.specs.Flats.{Timing, Sporadic}
use Rattle.ods_tree.specs.Flattening.{body_named, operation_by, operations, request_op, timing_by, thread_at, is_passive, is_protected}
use Rattle.ods_tree.specs.Flattening.{libraries, guarded, threads, flat}
use Rattle.ods_tree.specs.Services.{Plain, Protected, Service, plain_services, protected_services, request_service, request_of, requested}
use Rattle.ods_tree.specs.Services.{requests, is_service, service_named, flat_services}
use Rattle.ods_tree.specs.declared.design.Kind.{Kind}
use Rattle.ods_tree.specs.declared.design.Kind.TheVariants as kind
use Rattle.ods_tree.specs.declared.design.Constraint.{Constraint}
use Rattle.design_rules.specs.Lookups.{provided_named, operation_named, has_thread, is_sporadic}
use Rattle.design_rules.specs.Clashes.{clashes, has_block}
use Rattle.design_rules.specs.Operations.{may_provide, has_request, breaks_table, breaks_operations, hands_out}
use Rattle.design_rules.specs.Fittings.{wanted_bodies, body_count, is_provided, misfits_terminal, same_params, constraint_place, misfits}
use Rattle.design_rules.specs.Bodies.{is_active}
use Rattle.law_designs.proofs.Shared.Lists.{from-map, in-filter_map, found-only, key-eq}
use Rattle.law_designs.proofs.Shared.Flattened.{library_by, guarded_by, library-of, guarded-of, thread-of, terminal-object, operation-from}
use Rattle.law_designs.proofs.Shared.Flattened.{operation-of, request_services, services_at, service-from}
use Rattle.law_designs.proofs.Shared.ObjectNames.{terminal-names, op-names}
use Rattle.law_designs.proofs.Shared.Resolving.{Fit, Ends, resolve-ends, one-found}
use Rattle.law_lists.proofs.Shared.Facts.{same-is, is-same}
use Rattle.law_lists.proofs.Shared.Lists.{in-left, in-right, in-map, in-flat, filter-in, none-in, IsIn, found-in}

-- what a terminal object whose parts fit has
abbrev misfit-bodies : Object → Bool
misfit-bodies o = list_any (λ p. not (body_count o p.sig.name == wanted_bodies o p)) o.provides

abbrev misfit-strays : Object → Bool
misfit-strays o = list_any (λ b. not (is_provided (provided_named b.name o.provides))) o.bodies

pub record Fitted (o : Object) : Type 0 where
  pub bodies : misfit-bodies o ≡ false
  pub strays : misfit-strays o ≡ false
  pub thread : (has_thread o.kind && not (has_block o.thread)) ≡ false
  pub no-thread : (not (has_thread o.kind) && has_block o.thread) ≡ false
  pub no-data : (is_passive o.kind && not (is_empty o.vars)) ≡ false

pub fitted : (x : Design) (s : Standing) → Fit (objects x) → IsIn s (terminals x) → Fitted s.own
fitted x s fit h =
    let t = terminal-object x s h in
    let P : Bool → Type 0 = λ b. misfits b s ≡ false in
    let k : misfits_terminal s.own ≡ false = subst P t.1 (fit s t.0) in
    let o : Object = s.own in
    let a = or_parts (misfit-bodies o || misfit-strays o || (has_thread o.kind && not (has_block o.thread))
    || (not (has_thread o.kind) && has_block o.thread) || (is_passive o.kind && not (is_empty o.vars))) (not (is_empty o.links)) k in
    let b = or_parts (misfit-bodies o || misfit-strays o || (has_thread o.kind && not (has_block o.thread))
    || (not (has_thread o.kind) && has_block o.thread)) (is_passive o.kind && not (is_empty o.vars)) a.0 in
    let c = or_parts (misfit-bodies o || misfit-strays o || (has_thread o.kind && not (has_block o.thread)))
    (not (has_thread o.kind) && has_block o.thread) b.0 in
    let d = or_parts (misfit-bodies o || misfit-strays o) (has_thread o.kind && not (has_block o.thread)) c.0 in
    let e = or_parts (misfit-bodies o) (misfit-strays o) d.0 in
    record { bodies = e.0; strays = e.1; thread = d.1; no-thread = c.1; no-data = b.1 }

-- a body for each operation but a request
pub body-of : (o : Object) (p : Provided) → Fitted o → is_sporadic o.kind ≡ false → IsIn p o.provides
    → (b : Body) × (body_named p.sig.name o.bodies ≡ Some b)
body-of o p f plain h =
    let count : body_count o p.sig.name ≡ wanted_bodies o p
    = eqb-true _ _ (not-false _ (none-in (λ q. not (body_count o q.sig.name == wanted_bodies o q)) p o.provides f.bodies h)) in
    let one : wanted_bodies o p ≡ 1 = rw plain refl in
    one-found (λ b. same_name b.name p.sig.name) o.bodies (count ∙ one)

pub block-of : (k : Kind) (t : Option Statements) → has_thread k ≡ true → (has_thread k && not (has_block t)) ≡ false
    → (b : Statements) × (t ≡ Some b)
block-of k None h e = (let z : true ≡ false = sym (ap (λ c. c && true) h) ∙ e in cc)
block-of k (Some b) h e = (b, refl)

-- a service of an object is one of the flat design
pub service-of : (x : Design) (s : Standing) (v : Service) → Fit (objects x) → IsIn s (terminals x) → IsIn v (services_at x s.own s.own.kind)
    → IsIn v (flat_services (flat x))
service-of x s v fit h k = by s.own.kind refl k
  where
    f : Fitted s.own
    f = fitted x s fit h

    asks : (r : Option Signature) → request_op s.own.provides ≡ r → s.own.kind ≡ kind.Sporadic → IsIn v (request_services s.own.name r)
        → IsIn v (requests (threads x))
    asks None e q j = absurd j
    asks (Some sig) e q (inr j) = absurd j
    asks (Some sig) e q (inl same) =
        let timing : Timing = Sporadic sig (attribute_or 0 Separation s.own) (attribute ArrivalJitter s.own) in
        let P : Kind → Type 0 = λ z. timing_by z s.own ≡ Some timing in
        let timed : timing_by s.own.kind s.own ≡ Some timing
        = subst P (sym q) (ap (option_map (λ op. Sporadic op (attribute_or 0 Separation s.own) (attribute ArrivalJitter s.own))) e) in
        let b = block-of s.own.kind s.own.thread (ap has_thread q) f.thread in
        in-filter_map (λ t. requested t.name (request_of t.timing)) (threads x) (thread_at x s.own timing b.0) v
        (thread-of x s timing b.0 h timed b.1) (ap Some same)

    by : (z : Kind) → s.own.kind ≡ z → IsIn v (services_at x s.own z) → IsIn v (flat_services (flat x))
    by kind.Passive e j =
        in-left v (flat_map plain_services (libraries x)) (flat_map protected_services (guarded x) ++ requests (threads x))
        (in-flat plain_services (library_by x s.own) v (libraries x) (library-of x s h (ap is_passive e)) j)
    by kind.Protected e j =
        in-right v (flat_map plain_services (libraries x)) (flat_map protected_services (guarded x) ++ requests (threads x))
        (in-left v (flat_map protected_services (guarded x)) (requests (threads x))
        (in-flat protected_services (guarded_by x s.own) v (guarded x) (guarded-of x s h (ap is_protected e)) j))
    by kind.Sporadic e j =
        in-right v (flat_map plain_services (libraries x)) (flat_map protected_services (guarded x) ++ requests (threads x))
        (in-right v (flat_map protected_services (guarded x)) (requests (threads x)) (asks (request_op s.own.provides) refl e j))
    by kind.Cyclic e j = absurd j
    by kind.Active e j = absurd j

-- the names of a service
requests-object : (name : Name) (r : Option Signature) (v : Service) → IsIn v (request_services name r) → v.object ≡ name
requests-object name None v h = absurd h
requests-object name (Some sig) v (inl e) = ap (λ (w : Service). w.object) (sym e)
requests-object name (Some sig) v (inr h) = absurd h

pub service-object : (x : Design) (o : Object) (k : Kind) (v : Service) → IsIn v (services_at x o k) → v.object ≡ o.name
service-object x o kind.Passive v h = (let r = from-map _ (operations x o) v h in ap (λ (w : Service). w.object) r.2)
service-object x o kind.Protected v h = (let r = from-map _ (operations x o) v h in ap (λ (w : Service). w.object) r.2)
service-object x o kind.Sporadic v h = requests-object o.name (request_op o.provides) v h
service-object x o kind.Cyclic v h = absurd h
service-object x o kind.Active v h = absurd h

-- operations of one name are one
operation-one : (x : Design) (o : Object) (a b : Operation) → are_distinct (map (λ p. p.sig.name) o.provides) ≡ true → IsIn a (operations x o)
    → IsIn b (operations x o) → a.sig.name ≡ b.sig.name → a ≡ b
operation-one x o a b d h k e =
    let r = operation-from x o a h in
    let s = operation-from x o b k in
    let names : r.provided.sig.name ≡ s.provided.sig.name
    = sym (ap (λ (c : Operation). c.sig.name) r.made) ∙ e ∙ ap (λ (c : Operation). c.sig.name) s.made in
    let same : r.provided ≡ s.provided = key-eq (λ p. p.sig.name) o.provides d r.provided s.provided r.provides s.provides names in
    let bodies : Some r.body ≡ Some s.body = sym r.named ∙ ap (λ n. body_named n o.bodies) names ∙ s.named in
    let body : r.body ≡ s.body = cc in
    r.made ∙ ap (λ p. operation_by x p.sig r.body) same ∙ ap (operation_by x s.provided.sig) body ∙ sym s.made

requests-one : (name : Name) (r : Option Signature) (v w : Service) → IsIn v (request_services name r) → IsIn w (request_services name r) → v ≡ w
requests-one name None v w h k = absurd h
requests-one name (Some sig) v w (inl e) (inl g) = sym e ∙ g
requests-one name (Some sig) v w (inr h) k = absurd h
requests-one name (Some sig) v w (inl e) (inr k) = absurd k

-- services of one object and one name are one
pub service-one : (x : Design) (o : Object) (k : Kind) (v w : Service) → are_distinct (map (λ p. p.sig.name) o.provides) ≡ true
    → IsIn v (services_at x o k) → IsIn w (services_at x o k)
    → v.op.sig.name ≡ w.op.sig.name → v ≡ w
service-one x o kind.Passive v w d h j e =
    let r = from-map (λ z. record { object = o.name; sort = Plain; op = z }) (operations x o) v h in
    let s = from-map (λ z. record { object = o.name; sort = Plain; op = z }) (operations x o) w j in
    let same : r.0 ≡ s.0 = operation-one x o r.0 s.0 d r.1 s.1 (sym (ap (λ (u : Service). u.op.sig.name) r.2) ∙ e ∙ ap
    (λ (u : Service). u.op.sig.name) s.2) in
    r.2 ∙ ap (λ z. record { object = o.name; sort = Plain; op = z }) same ∙ sym s.2
service-one x o kind.Protected v w d h j e =
    let r = from-map (λ z. record { object = o.name; sort = Protected; op = z }) (operations x o) v h in
    let s = from-map (λ z. record { object = o.name; sort = Protected; op = z }) (operations x o) w j in
    let same : r.0 ≡ s.0 = operation-one x o r.0 s.0 d r.1 s.1 (sym (ap (λ (u : Service). u.op.sig.name) r.2) ∙ e ∙ ap
    (λ (u : Service). u.op.sig.name) s.2) in
    r.2 ∙ ap (λ z. record { object = o.name; sort = Protected; op = z }) same ∙ sym s.2
service-one x o kind.Sporadic v w d h j e = requests-one o.name (request_op o.provides) v w h j
service-one x o kind.Cyclic v w d h j e = absurd h
service-one x o kind.Active v w d h j e = absurd h

-- an operation of a terminal object as a service
pub record Offered (x : Design) (o : Object) (q : Provided) : Type 0 where
  pub service : Service
  pub among : IsIn service (services_at x o o.kind)
  pub sig : service.op.sig ≡ q.sig

pub only-one : (ps : List Provided) (q : Provided) → length ps ≡ 1 → IsIn q ps → request_op ps ≡ Some q.sig
only-one [] q e h = absurd h
only-one (p ∷ []) q e (inl s) = ap (λ (z : Provided). Some z.sig) s
only-one (p ∷ []) q e (inr h) = absurd h
only-one (p ∷ r ∷ ps) q e h = absurd (omega (arith, e))

pub no-provided : (c : Option Constraint) → may_provide kind.Cyclic c ≡ true → ⊥
no-provided None e = cc
no-provided (Some c) e = cc

pub offered : (x : Design) (s : Standing) (q : Provided) → Fit (objects x) → IsIn s (terminals x) → breaks_operations s ≡ false
    → is_active s.own.kind ≡ false → IsIn q s.own.provides → Offered x s.own q
offered x s q fit h right idle j = by s.own.kind refl
  where
    o : Object
    o = s.own

    f : Fitted s.own
    f = fitted x s fit h

    table : breaks_table true s.own ≡ false
    table =
        let P : Bool → Type 0 = λ b. (breaks_table b s.own || list_any hands_out s.own.provides) ≡ false in
        (or_parts (breaks_table true s.own) (list_any hands_out s.own.provides) (subst P (terminal-object x s h).1 right)).0

    provided : may_provide s.own.kind q.constraint ≡ true
    provided = not-false _ (none-in (λ p. not (may_provide s.own.kind p.constraint)) q s.own.provides
        (or_parts (list_any (λ p. not (may_provide s.own.kind p.constraint)) s.own.provides) (not (has_request s.own.kind s.own.provides)) table).0 j)

    request : has_request s.own.kind s.own.provides ≡ true
    request = not-false _ (or_parts (list_any (λ p. not (may_provide s.own.kind p.constraint)) s.own.provides)
        (not (has_request s.own.kind s.own.provides)) table).1

    plain : (z : Kind) → s.own.kind ≡ z → is_sporadic z ≡ false → (b : Body) × (body_named q.sig.name s.own.bodies ≡ Some b)
    plain z e g = body-of s.own q f (ap is_sporadic e ∙ g) j

    by : (z : Kind) → s.own.kind ≡ z → Offered x s.own q
    by kind.Passive e =
        let b = plain kind.Passive e refl in
        let P : Kind → Type 0 = λ z. IsIn (record { object = s.own.name; sort = Plain; op = operation_by x q.sig b.0 }) (services_at x s.own z) in
        record {
          service = record { object = s.own.name; sort = Plain; op = operation_by x q.sig b.0 };
          sig = refl;
          among = subst P (sym e) (in-map (λ z. record { object = s.own.name; sort = Plain; op = z }) (operation_by x q.sig b.0) (operations x s.own)
              (operation-of x s.own q b.0 j b.1));
        }
    by kind.Protected e =
        let b = plain kind.Protected e refl in
        let P : Kind → Type 0 = λ z. IsIn (record { object = s.own.name; sort = Protected; op = operation_by x q.sig b.0 }) (services_at x s.own z) in
        record {
          service = record { object = s.own.name; sort = Protected; op = operation_by x q.sig b.0 };
          sig = refl;
          among = subst P (sym e) (in-map (λ z. record { object = s.own.name; sort = Protected; op = z }) (operation_by x q.sig b.0)
              (operations x s.own) (operation-of x s.own q b.0 j b.1));
        }
    by kind.Sporadic e =
        let P : Kind → Type 0 = λ z. has_request z s.own.provides ≡ true in
        let one : length s.own.provides ≡ 1 = eqb-true _ _ (and_parts _ _ (subst P e request)).0 in
        let Q : Option Signature → Type 0 = λ r. IsIn (request_service s.own.name q.sig) (request_services s.own.name r) in
        let R : Kind → Type 0 = λ z. IsIn (request_service s.own.name q.sig) (services_at x s.own z) in
        record {
          service = request_service s.own.name q.sig;
          sig = refl;
          among = subst R (sym e) (subst Q (sym (only-one s.own.provides q one j)) (inl refl));
        }
    by kind.Cyclic e =
        let P : Kind → Type 0 = λ z. may_provide z q.constraint ≡ true in absurd (no-provided q.constraint (subst P e provided))
    by kind.Active e = (let z : true ≡ false = sym (ap is_active e) ∙ idle in cc)

-- without a constraint it is a plain procedure
plain-at : (k : Kind) (c : Option Constraint) → is_active k ≡ false → may_provide k c ≡ true → c ≡ None → k ≡ kind.Passive
plain-at kind.Passive c i m e = refl
plain-at kind.Active c i m e = cc
plain-at kind.Protected c i m e = (let z : false ≡ true = ap (may_provide kind.Protected) (sym e) ∙ m in cc)
plain-at kind.Sporadic c i m e = (let z : false ≡ true = ap (may_provide kind.Sporadic) (sym e) ∙ m in cc)
plain-at kind.Cyclic c i m e = (let z : false ≡ true = ap (may_provide kind.Cyclic) (sym e) ∙ m in cc)

pub passive-plain : (x : Design) (o : Object) (k : Kind) (v : Service) → k ≡ kind.Passive → IsIn v (services_at x o k) → v.sort ≡ Plain
passive-plain x o kind.Passive v e h = (let r = from-map (λ z. record { object = o.name; sort = Plain; op = z }) (operations x o) v h
    in ap (λ (w : Service). w.sort) r.2)
passive-plain x o kind.Active v e h = absurd h
passive-plain x o kind.Cyclic v e h = absurd h
passive-plain x o kind.Protected v e h = (let z : true ≡ false = ap is_protected e in cc)
passive-plain x o kind.Sporadic v e h = (let z : true ≡ false = ap is_sporadic e in cc)

-- what the rules say that is used here
pub record Kept (x : Design) : Type 0 where
  pub apart : clashes x ≡ []
  pub fit : Fit (objects x)
  pub right : (s : Standing) → IsIn s (objects x) → breaks_operations s ≡ false
  pub idle : (s : Standing) → IsIn s (terminals x) → is_active s.own.kind ≡ false

-- the service of an operation of a terminal object is found by its names
pub record Served (x : Design) (o : Object) (op : Name) (q : Provided) : Type 0 where
  pub service : Service
  pub found : service_named (flat_services (flat x)) o.name op ≡ Some service
  pub among : IsIn service (services_at x o o.kind)
  pub sig : service.op.sig ≡ q.sig

pub served : (x : Design) → Kept x → (s : Standing) (op : Name) (q : Provided) → IsIn s (terminals x) → provided_named op s.own.provides ≡ Some q
    → Served x s.own op q
served x k s op q h e =
    let at = found-in (λ p. same_name p.sig.name op) s.own.provides q e in
    let o = offered x s q k.fit h (k.right s (terminal-object x s h).0) (k.idle s h) at.0 in
    let name : o.service.op.sig.name ≡ op = ap (λ (g : Signature). g.name) o.sig ∙ same-is q.sig.name op at.1 in
    let object : o.service.object ≡ s.own.name = service-object x s.own s.own.kind o.service o.among in
    record {
      service = o.service;
      found = found-only (is_service s.own.name op) (flat_services (flat x)) o.service (service-of x s o.service k.fit h o.among)
          (and_from _ _ (is-same o.service.object s.own.name object) (is-same o.service.op.sig.name op name)) (λ w a t. one o w a t name);
      among = o.among;
      sig = o.sig;
    }
  where
    one : (o : Offered x s.own q) (w : Service) → IsIn w (flat_services (flat x)) → is_service s.own.name op w ≡ true → o.service.op.sig.name ≡ op
        → w ≡ o.service
    one o w a t name =
        let both = and_parts (same_name w.object s.own.name) (same_name w.op.sig.name op) t in
        let r = service-from x w a in
        let names : r.0.own.name ≡ s.own.name = sym (service-object x r.0.own r.0.own.kind w r.2) ∙ same-is w.object s.own.name both.0 in
        let same : r.0 ≡ s = key-eq (λ z. z.own.name) (terminals x) (terminal-names x k.apart) r.0 s r.1 h names in
        let P : Standing → Type 0 = λ z. IsIn w (services_at x z.own z.own.kind) in
        service-one x s.own s.own.kind w o.service (op-names x s k.apart (terminal-object x s h).0) (subst P same r.2) o.among
        (same-is w.op.sig.name op both.1 ∙ sym name)

-- what an operation that is there leads to, read by what it means
pub record Meant (x : Design) (name : OpName) (p : Provided) : Type 0 where
  pub standing : Standing
  pub stands : IsIn standing (terminals x)
  pub object : (resolve x name).object ≡ standing.own.name
  pub provided : Provided
  pub provides : provided_named (resolve x name).op standing.own.provides ≡ Some provided
  pub service : Service
  pub found : service_named (flat_services (flat x)) (resolve x name).object (resolve x name).op ≡ Some service
  pub among : IsIn service (services_at x standing.own standing.own.kind)
  pub params : same_params p.sig.params service.op.sig.params ≡ true
  pub plain : p.constraint ≡ None → service.sort ≡ Plain

none-place : (c d : Option Constraint) → (constraint_place c == constraint_place d) ≡ true → c ≡ None → d ≡ None
none-place c d h e = by d (ap (λ z. constraint_place z == constraint_place d) (sym e) ∙ h)
  where
    by : (z : Option Constraint) → (0 == constraint_place z) ≡ true → z ≡ None
    by None k = refl
    by (Some Aser) k = cc
    by (Some Hser) k = cc
    by (Some Pser) k = cc
    by (Some Paer) k = cc

-- the operations of a terminal object are such as its kind may provide
pub table-right : (x : Design) → Kept x → (s : Standing) → IsIn s (terminals x) → breaks_table true s.own ≡ false
table-right x k s h =
    let t = terminal-object x s h in
    let P : Bool → Type 0 = λ b. (breaks_table b s.own || list_any hands_out s.own.provides) ≡ false in
    (or_parts (breaks_table true s.own) (list_any hands_out s.own.provides) (subst P t.1 (k.right s t.0))).0

pub may-provide : (x : Design) → Kept x → (s : Standing) (q : Provided) → IsIn s (terminals x) → IsIn q s.own.provides
    → may_provide s.own.kind q.constraint ≡ true
may-provide x k s q h j =
    not-false _ (none-in (λ p. not (may_provide s.own.kind p.constraint)) q s.own.provides
    (or_parts (list_any (λ p. not (may_provide s.own.kind p.constraint)) s.own.provides) (not (has_request s.own.kind s.own.provides))
    (table-right x k s h)).0 j)

pub meant : (x : Design) → Kept x → (name : OpName) (p : Provided) → operation_named x name ≡ Some p → Meant x name p
meant x k name p h =
    let e : Ends (objects x) (resolve x name) p = resolve-ends x k.fit name p h in
    let stands : IsIn e.standing (terminals x) = filter-in is_terminal e.standing (objects x) e.stands e.terminal in
    let s = served x k e.standing (resolve x name).op e.op stands e.provides in
    let both = and_parts (constraint_place p.constraint == constraint_place e.op.constraint) (same_params p.sig.params e.op.sig.params) e.agree in
    let at = found-in (λ q. same_name q.sig.name (resolve x name).op) e.standing.own.provides e.op e.provides in
    record {
      standing = e.standing;
      stands = stands;
      object = e.object;
      provided = e.op;
      provides = e.provides;
      service = s.service;
      found = ap (λ n. service_named (flat_services (flat x)) n (resolve x name).op) e.object ∙ s.found;
      among = s.among;
      params = ap (λ (g : Signature). same_params p.sig.params g.params) s.sig ∙ both.1;
      plain = λ none. passive-plain x e.standing.own e.standing.own.kind s.service
          (plain-at e.standing.own.kind e.op.constraint (k.idle e.standing stands) (may-provide x k e.standing e.op stands at.0)
          (none-place p.constraint e.op.constraint both.0 none)) s.among;
    }
