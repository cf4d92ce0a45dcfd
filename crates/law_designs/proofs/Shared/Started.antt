-- Each sporadic thread of the flat design is requested as its jitter says.
use Rattle.std.proofs.Common.{◌≡◌, ℕ, zero, suc, ◌+◌, ◌≤◌, Bool, true, false, not, ◌&&◌, ◌==◌, List, [], ◌∷◌, ◌++◌, map, filter, filter_map}
use Rattle.std.proofs.Common.{flat_map, fold, length, max, min, nat_le, Option, Some, None, option_map, option_and_then, option_to_list, refl}
use Rattle.std.proofs.Common.{sym, ap, subst, ◌∙◌, arith, inl, inr, ◌⊎◌, if◌then◌else◌}
use Rattle.std.specs.List.{list_any, list_all, cons_option}
use Rattle.std.proofs.lemmas.Bool.{or_parts, and_parts, and_from, not-false, eq-eqb, eqb-true}
use Rattle.std.proofs.lemmas.List.{length-append, length-map}
use Rattle.seq_tree.specs.Names.{Name, same_name}
use Rattle.seq_tree.specs.Statements.{Statements}
use Rattle.seq_tree.specs.Operations.{Signature}
use Rattle.seq_tree.specs.Calls.{block_calls, same_op}
use Rattle.seq_tree.specs.Dearest.{counted, is_call_of, starts_through}
use Rattle.seq_tree.proofs.Shared.Walks.{same_op-refl}
use Rattle.seq_tree.specs.declared.tree.OpName.{OpName}
use Rattle.ods_tree.specs.Attributes.{attribute, attribute_or}
use Rattle.ods_tree.specs.declared.design.AttrKey.TheVariants.{Period, Offset, Separation, ArrivalJitter}
use Rattle.ods_tree.specs.Designs.{Provided, Body, Object, Design}
use Rattle.ods_tree.specs.Walk.{Standing, terminals}
use Rattle.ods_tree.specs.Links.{resolve, resolved}
use Rattle.ods_tree.specs.Flats.{Library, Guarded, Timing, Cyclic, Sporadic, Thread}
use Rattle.ods_tree.specs.Flattening.{body_named, operation_by, operations, request_op, timing_by, thread_at, thread_by, is_passive}
use Rattle.ods_tree.specs.Flattening.{is_protected, libraries, guarded, threads, flat}
use Rattle.ods_tree.specs.Services.{Plain, Protected, Request, Service, plain_services, protected_services, request_of, requested, requests}
use Rattle.ods_tree.specs.Services.{flat_services, is_service}
use Rattle.ods_tree.specs.declared.design.Kind.{Kind}
use Rattle.ods_tree.specs.declared.design.Kind.TheVariants as kind
use Rattle.analysis.specs.Starts.{starts_by, service_starts, starters, can_request}
use Rattle.analysis.specs.Starts as flatly
use Rattle.analysis.specs.Sound.{is_started_by, is_started}
use Rattle.design_rules.specs.Lookups.{requires, has_thread, is_sporadic}
use Rattle.design_rules.specs.Bodies.{is_active}
use Rattle.design_rules.specs.Operations.{may_provide, has_request}
use Rattle.design_rules.specs.Rings.{terminal_ops, protected_objects, thread_objects, can_start}
use Rattle.design_rules.specs.Sources.{start_weight, body_starts, starts_within, requests_by, source_count, start_count, breaks_sources}
use Rattle.design_rules.specs.Rules.{AreMet}
use Rattle.law_designs.proofs.Shared.Lists.{all-from, key-eq, differ-if, differ-not}
use Rattle.law_designs.proofs.Shared.Flattened.{library_by, guarded_by, ThreadFrom, thread-from, TimingOf, OfCyclic, OfSporadic, timing-of}
use Rattle.law_designs.proofs.Shared.Flattened.{timed-kind, request_services, services_at, terminal-object}
use Rattle.law_designs.proofs.Shared.ObjectRules.{no-clash, not-active, sources-right}
use Rattle.law_designs.proofs.Shared.ObjectNames.{terminal-names}
use Rattle.law_designs.proofs.Shared.Served.{fitted, body-of, block-of, no-provided, table-right, may-provide}
use Rattle.law_designs.proofs.Shared.Blocks.{AreNeeded, needed-call, body-needed, thread-needed, kept}
use Rattle.law_designs.proofs.Shared.Starting.{block-counted, MeantName, Inside, Silent, inside, needed-meant, can-same}
use Rattle.law_lists.proofs.Shared.Facts.{same-is, is-same}
use Rattle.law_lists.proofs.Shared.Greatest.{at-most}
use Rattle.law_lists.proofs.Shared.Lists.{in-map, filter-in, in-filter, any-in, IsIn, found-in}

max-zero : (n : ℕ) → max 0 n ≡ n
max-zero n = omega arith

same-sym : (a b : Name) (t : Bool) → same_name a b ≡ t → same_name b a ≡ t
same-sym a b true e = is-same b a (sym (same-is a b e))
same-sym a b false e = differ-if b a (λ q. differ-not a b e (sym q))

-- what stands in the terminal object of a sporadic thread
pub record Asked (x : Design) (to : Object) (sig : Signature) : Type 0 where
  pub standing : Standing
  pub stands : IsIn standing (terminals x)
  pub own : standing.own ≡ to
  pub sporadic : to.kind ≡ kind.Sporadic
  pub asks : request_op to.provides ≡ Some sig

-- lists of which all is taken
all-taken : {A B : Type 0} (f : A → Option B) (xs : List A) → ((a : A) → IsIn a xs → (b : B) × (f a ≡ Some b)) → length (filter_map f xs) ≡ length xs
all-taken f [] h = refl
all-taken f (x ∷ xs) h =
    let r = h x (inl refl) in
    ap (λ o. length (cons_option o (filter_map f xs))) r.1 ∙ ap suc (all-taken f xs (λ a k. h a (inr k)))

-- the services that an entry gives
abbrev plain-size : Option Library → ℕ
plain-size None = 0
plain-size (Some l) = length (plain_services l)

abbrev protected-size : Option Guarded → ℕ
protected-size None = 0
protected-size (Some g) = length (protected_services g)

abbrev one : {A : Type 0} → Option A → ℕ
one None = 0
one (Some a) = 1

abbrev request-size : Option Thread → ℕ
request-size None = 0
request-size (Some t) = one (requested t.name (request_of t.timing))

plain-more : (o : Option Library) (ls : List Library) → length (flat_map plain_services (cons_option o ls))
    ≡ plain-size o + length (flat_map plain_services ls)
plain-more None ls = omega arith
plain-more (Some l) ls = length-append (plain_services l) (flat_map plain_services ls)

protected-more : (o : Option Guarded) (gs : List Guarded) → length (flat_map protected_services (cons_option o gs))
    ≡ protected-size o + length (flat_map protected_services gs)
protected-more None gs = omega arith
protected-more (Some g) gs = length-append (protected_services g) (flat_map protected_services gs)

request-more : (o : Option Thread) (ts : List Thread) → length (requests (cons_option o ts)) ≡ request-size o + length (requests ts)
request-more None ts = omega arith
request-more (Some t) ts = by (requested t.name (request_of t.timing))
  where
    by : (r : Option Service) → length (cons_option r (requests ts)) ≡ one r + length (requests ts)
    by None = omega arith
    by (Some v) = omega arith

module _ (x : Design) where
  abbrev lib : Standing → Option Library
  lib s = if is_passive s.own.kind then Some (library_by x s.own) else None

  abbrev gua : Standing → Option Guarded
  gua s = if is_protected s.own.kind then Some (guarded_by x s.own) else None

  abbrev thr : Standing → Option Thread
  thr s = thread_by x s.own

  abbrev ops-by : Standing → List OpName
  ops-by s = map (λ (p : Provided). record { object = s.own.name; op = p.sig.name }) s.own.provides

  sizes : (ys : List Standing) → ((s : Standing) → IsIn s ys → plain-size (lib s) + (protected-size (gua s) + request-size (thr s))
      ≡ length s.own.provides)
      → length (flat_map plain_services (filter_map lib ys)) + (length (flat_map protected_services (filter_map gua ys))
      + length (requests (filter_map thr ys))) ≡ length (flat_map ops-by ys)
  sizes [] h = refl
  sizes (y ∷ ys) h =
      let rest = sizes ys (λ s k. h s (inr k)) in
      let here = h y (inl refl) in
      let a = plain-more (lib y) (filter_map lib ys) in
      let b = protected-more (gua y) (filter_map gua ys) in
      let c = request-more (thr y) (filter_map thr ys) in
      let d = length-append (ops-by y) (flat_map ops-by ys) in
      let e : length (ops-by y) ≡ length y.own.provides
      = length-map {B = OpName} y.own.provides (λ (p : Provided). record { object = y.own.name; op = p.sig.name }) in
      omega (arith, rest, here, a, b, c, d, e)

module _ (written x : Design) (met : AreMet written x) where
  -- a sporadic object has one operation
  pub one-provided : (s : Standing) → IsIn s (terminals x) → s.own.kind ≡ kind.Sporadic → length s.own.provides ≡ 1
  one-provided s h e =
      let request : has_request s.own.kind s.own.provides ≡ true =
      not-false _ (or_parts (list_any (λ p. not (may_provide s.own.kind p.constraint)) s.own.provides) (not (has_request s.own.kind s.own.provides))
      (table-right x (kept written x met) s h)).1 in
      let P : Kind → Type 0 = λ z. has_request z s.own.provides ≡ true in
      eqb-true _ _ (and_parts _ _ (subst P e request)).0

  pub first-asked : (ps : List Provided) → length ps ≡ 1 → (sig : Signature) × (request_op ps ≡ Some sig)
  first-asked [] e = absurd (let z : 0 ≡ 1 = e in cc)
  first-asked (p ∷ ps) e = (p.sig, refl)

  none-provided : (k : Kind) (ps : List Provided) → k ≡ kind.Cyclic → ((q : Provided) → IsIn q ps → may_provide k q.constraint ≡ true) → ps ≡ []
  none-provided k [] e h = refl
  none-provided k (p ∷ ps) e h =
      let P : Kind → Type 0 = λ z. may_provide z p.constraint ≡ true in absurd (no-provided p.constraint (subst P e (h p (inl refl))))

  -- a thread of an object
  pub threaded : (s : Standing) → IsIn s (terminals x) → has_thread s.own.kind ≡ true
      → (timing : Timing) × (b : Statements) × (timing_by s.own.kind s.own ≡ Some timing) × (s.own.thread ≡ Some b)
      × (thread_by x s.own ≡ Some (thread_at x s.own timing b))
  threaded s h k = by s.own.kind refl
    where
      b : (b : Statements) × (s.own.thread ≡ Some b)
      b = block-of s.own.kind s.own.thread k (fitted x s (kept written x met).fit h).thread

      whole : (timing : Timing) (c : Statements) → s.own.thread ≡ Some c → timing_by s.own.kind s.own ≡ Some timing
          → thread_by x s.own ≡ Some (thread_at x s.own timing c)
      whole timing c g e = ap (option_and_then (λ u. option_map (thread_at x s.own u) s.own.thread)) e ∙ ap (option_map (thread_at x s.own timing)) g

      by : (z : Kind) → s.own.kind ≡ z
          → (timing : Timing) × (b : Statements) × (timing_by s.own.kind s.own ≡ Some timing) × (s.own.thread ≡ Some b)
          × (thread_by x s.own ≡ Some (thread_at x s.own timing b))
      by kind.Cyclic e =
          let timing : Timing = Cyclic (attribute_or 0 Period s.own) (attribute_or 0 Offset s.own) in
          let P : Kind → Type 0 = λ z. timing_by z s.own ≡ Some timing in
          let t : timing_by s.own.kind s.own ≡ Some timing = subst P (sym e) refl in
          (timing, b.0, t, b.1, whole timing b.0 b.1 t)
      by kind.Sporadic e =
          let r = first-asked s.own.provides (one-provided s h e) in
          let timing : Timing = Sporadic r.0 (attribute_or 0 Separation s.own) (attribute ArrivalJitter s.own) in
          let P : Kind → Type 0 = λ z. timing_by z s.own ≡ Some timing in
          let t : timing_by s.own.kind s.own ≡ Some timing =
          subst P (sym e) (ap (option_map (λ op. Sporadic op (attribute_or 0 Separation s.own) (attribute ArrivalJitter s.own))) r.1) in
          (timing, b.0, t, b.1, whole timing b.0 b.1 t)
      by kind.Passive e = (let z : true ≡ false = sym k ∙ ap has_thread e in cc)
      by kind.Active e = (let z : true ≡ false = sym k ∙ ap has_thread e in cc)
      by kind.Protected e = (let z : true ≡ false = sym k ∙ ap has_thread e in cc)

  -- as many services as operations of terminal objects
  sized : (s : Standing) → IsIn s (terminals x) → plain-size (lib x s) + (protected-size (gua x s) + request-size (thr x s)) ≡ length s.own.provides
  sized s h = by s.own.kind refl
    where
      bodied : is_sporadic s.own.kind ≡ false → length (operations x s.own) ≡ length s.own.provides
      bodied e = all-taken (λ p. option_map (operation_by x p.sig) (body_named p.sig.name s.own.bodies)) s.own.provides (λ p k.
          let b = body-of s.own p (fitted x s (kept written x met).fit h) e k
          in (operation_by x p.sig b.0, ap (option_map (operation_by x p.sig)) b.1))

      no-thread : (k : Kind) → s.own.kind ≡ k → has_thread k ≡ false → timing_by k s.own ≡ None → thread_by x s.own ≡ None
      no-thread k e g t =
          let P : Kind → Type 0 = λ z. timing_by z s.own ≡ None
          in ap (option_and_then (λ u. option_map (thread_at x s.own u) s.own.thread)) (subst P (sym e) t)

      by : (k : Kind) → s.own.kind ≡ k → plain-size (lib x s) + (protected-size (gua x s) + request-size (thr x s)) ≡ length s.own.provides
      by kind.Passive e =
          let a : plain-size (lib x s) ≡ length (plain_services (library_by x s.own))
          = ap (λ z. plain-size (if is_passive z then Some (library_by x s.own) else None)) e in
          let b : protected-size (gua x s) ≡ 0 = ap (λ z. protected-size (if is_protected z then Some (guarded_by x s.own) else None)) e in
          let c : request-size (thr x s) ≡ 0 = ap request-size (no-thread kind.Passive e refl refl) in
          let d : length (plain_services (library_by x s.own)) ≡ length (operations x s.own)
          = length-map (operations x s.own) (λ z. record { object = s.own.name; sort = Plain; op = z }) in
          let f = bodied (ap is_sporadic e) in
          omega (arith, a, b, c, d, f)
      by kind.Protected e =
          let a : plain-size (lib x s) ≡ 0 = ap (λ z. plain-size (if is_passive z then Some (library_by x s.own) else None)) e in
          let b : protected-size (gua x s) ≡ length (protected_services (guarded_by x s.own))
          = ap (λ z. protected-size (if is_protected z then Some (guarded_by x s.own) else None)) e in
          let c : request-size (thr x s) ≡ 0 = ap request-size (no-thread kind.Protected e refl refl) in
          let d : length (protected_services (guarded_by x s.own)) ≡ length (operations x s.own)
          = length-map (operations x s.own) (λ z. record { object = s.own.name; sort = Protected; op = z }) in
          let f = bodied (ap is_sporadic e) in
          omega (arith, a, b, c, d, f)
      by kind.Cyclic e =
          let t = threaded s h (ap has_thread e) in
          let a : plain-size (lib x s) ≡ 0 = ap (λ z. plain-size (if is_passive z then Some (library_by x s.own) else None)) e in
          let b : protected-size (gua x s) ≡ 0 = ap (λ z. protected-size (if is_protected z then Some (guarded_by x s.own) else None)) e in
          let P : Kind → Type 0 = λ z. timing_by z s.own ≡ Some t.0 in
          let timing : Cyclic (attribute_or 0 Period s.own) (attribute_or 0 Offset s.own) ≡ t.0 =
          (let z : Some (Cyclic (attribute_or 0 Period s.own) (attribute_or 0 Offset s.own)) ≡ Some t.0 = subst P e t.2 in cc) in
          let c : request-size (thr x s) ≡ 0 = ap request-size t.4 ∙ ap (λ u. one (requested s.own.name (request_of u))) (sym timing) in
          let d : length s.own.provides ≡ 0
          = ap length (none-provided s.own.kind s.own.provides e (λ q j. may-provide x (kept written x met) s q h j)) in
          omega (arith, a, b, c, d)
      by kind.Sporadic e =
          let t = threaded s h (ap has_thread e) in
          let a : plain-size (lib x s) ≡ 0 = ap (λ z. plain-size (if is_passive z then Some (library_by x s.own) else None)) e in
          let b : protected-size (gua x s) ≡ 0 = ap (λ z. protected-size (if is_protected z then Some (guarded_by x s.own) else None)) e in
          let d = one-provided s h e in
          let r = first-asked s.own.provides d in
          let P : Kind → Type 0 = λ z. timing_by z s.own ≡ Some t.0 in
          let timing : Sporadic r.0 (attribute_or 0 Separation s.own) (attribute ArrivalJitter s.own) ≡ t.0 =
          (let z : Some (Sporadic r.0 (attribute_or 0 Separation s.own) (attribute ArrivalJitter s.own)) ≡ Some t.0 =
          sym (ap (option_map (λ op. Sporadic op (attribute_or 0 Separation s.own) (attribute ArrivalJitter s.own))) r.1) ∙ subst P e t.2 in cc) in
          let c : request-size (thr x s) ≡ 1 = ap request-size t.4 ∙ ap (λ u. one (requested s.own.name (request_of u))) (sym timing) in
          omega (arith, a, b, c, d)
      by kind.Active e = (let z : true ≡ false = sym (ap is_active e) ∙ not-active written x met s h in cc)

  pub service-count : length (flat_services (flat x)) ≡ length (terminal_ops x)
  service-count =
      let a = length-append (flat_map plain_services (libraries x)) (flat_map protected_services (guarded x) ++ requests (threads x)) in
      let b = length-append (flat_map protected_services (guarded x)) (requests (threads x)) in
      let c = sizes x (terminals x) sized in
      omega (arith, a, b, c)

  -- an operation of a sporadic object is its request
  pub asked-op : (to : Object) (sig : Signature) → Asked x to sig → (n : OpName) → MeantName x n → same_name n.object to.name ≡ true → n.op ≡ sig.name
  asked-op to sig k n m e =
      let same : m.standing ≡ k.standing = key-eq (λ (z : Standing). z.own.name) (terminals x) (terminal-names x (no-clash written x met)) m.standing
      k.standing m.stands k.stands
      (sym m.object ∙ same-is n.object to.name e ∙ ap (λ (o : Object). o.name) (sym k.own)) in
      let o : m.standing.own ≡ to = ap (λ (z : Standing). z.own) same ∙ k.own in
      let P : Object → Type 0 = λ z. IsIn m.service (services_at x z z.kind) in
      let Q : Kind → Type 0 = λ z. IsIn m.service (services_at x to z) in
      let R : Option Signature → Type 0 = λ r. IsIn m.service (request_services to.name r) in
      let j : IsIn m.service (request_services to.name (Some sig)) = subst R k.asks (subst Q k.sporadic (subst P o m.among)) in
      let at = and_parts (same_name m.service.object n.object) (same_name m.service.op.sig.name n.op)
      (found-in (is_service n.object n.op) (flat_services (flat x)) m.service m.found).1 in
      sym (same-is m.service.op.sig.name n.op at.1) ∙ first j
    where
      first : {v : Service} → IsIn v (request_services to.name (Some sig)) → v.op.sig.name ≡ sig.name
      first (inl s) = ap (λ (w : Service). w.op.sig.name) (sym s)
      first (inr s) = absurd s

  -- how often a call requests a thread
  weight-same : (d : ℕ) (to : Object) (sig : Signature) → Asked x to sig
      → ((c : OpName) → MeantName x c → flatly.starts_within d (flat_services (flat x)) (record { object = to.name; op = sig.name }) c.object c.op
      ≡ starts_within d x to.name c)
      → (o : Object) (b : Statements) → AreNeeded x o b → (n : OpName) → IsIn n (block_calls b)
      → (if is_call_of (record { object = to.name; op = sig.name }) (resolve x n).object (resolve x n).op then 1 else flatly.starts_within d
      (flat_services (flat x)) (record { object = to.name; op = sig.name }) (resolve x n).object (resolve x n).op)
      ≡ start_weight x to.name (starts_within d x to.name) o n.object n.op
  weight-same d to sig k rest o b needed n h =
      let m : MeantName x (resolve x n) = needed-meant written x met o b needed n h in
      let r : requires o n ≡ true = any-in (same_op n) n o.needs (needed-call x o b needed n h).needs (same_op-refl n) in
      by m (same_name (resolve x n).object to.name) refl
      ∙ sym (ap (λ t. if t then (if same_name (resolve x n).object to.name then 1 else starts_within d x to.name (resolve x n)) else 0) r)
    where
      by : MeantName x (resolve x n) → (t : Bool) → same_name (resolve x n).object to.name ≡ t
          → (if is_call_of (record { object = to.name; op = sig.name }) (resolve x n).object (resolve x n).op then 1 else flatly.starts_within d
          (flat_services (flat x)) (record { object = to.name; op = sig.name }) (resolve x n).object (resolve x n).op)
          ≡ (if same_name (resolve x n).object to.name then 1 else starts_within d x to.name (resolve x n))
      by m true e =
          let call : is_call_of (record { object = to.name; op = sig.name }) (resolve x n).object (resolve x n).op ≡ true =
          and_from _ _ (same-sym (resolve x n).object to.name true e)
          (is-same sig.name (resolve x n).op (sym (asked-op to sig k (resolve x n) m e))) in
          ap (λ t. if t then 1 else flatly.starts_within d (flat_services (flat x)) (record { object = to.name; op = sig.name }) (resolve x n).object
          (resolve x n).op) call
          ∙ sym (ap (λ t. if t then 1 else starts_within d x to.name (resolve x n)) e)
      by m false e =
          let call : is_call_of (record { object = to.name; op = sig.name }) (resolve x n).object (resolve x n).op ≡ false =
          ap (λ t. t && same_name sig.name (resolve x n).op) (same-sym (resolve x n).object to.name false e) in
          ap (λ t. if t then 1 else flatly.starts_within d (flat_services (flat x)) (record { object = to.name; op = sig.name }) (resolve x n).object
          (resolve x n).op) call
          ∙ rest (resolve x n) m
          ∙ sym (ap (λ t. if t then 1 else starts_within d x to.name (resolve x n)) e)

  pub starts-same : (d : ℕ) (to : Object) (sig : Signature) → Asked x to sig → (c : OpName) → MeantName x c
      → flatly.starts_within d (flat_services (flat x)) (record { object = to.name; op = sig.name }) c.object c.op ≡ starts_within d x to.name c
  starts-same zero to sig k c m = refl
  starts-same (suc d) to sig k c m =
      ap (service_starts (starts_through (record { object = to.name; op = sig.name })
      (flatly.starts_within d (flat_services (flat x)) (record { object = to.name; op = sig.name })))) m.found
      ∙ by (starts-same d to sig k) (inside written x met c m)
    where
      by : ((e : OpName) → MeantName x e → flatly.starts_within d (flat_services (flat x)) (record { object = to.name; op = sig.name }) e.object e.op
          ≡ starts_within d x to.name e)
          → Inside x c m.standing.own m.service ⊎ Silent x c m.service
          → starts_by (λ b. starts_through (record { object = to.name; op = sig.name })
          (flatly.starts_within d (flat_services (flat x)) (record { object = to.name; op = sig.name })) b) m.service.sort m.service.op
          ≡ fold max 0 (map (body_starts x to.name (starts_within d x to.name) c.op) (filter (λ o. same_name o.name c.object) (protected_objects x)))
      by rest (inr s) = silent s.sort ∙ ap (λ z. fold max 0 (map (body_starts x to.name (starts_within d x to.name) c.op) z)) (sym s.object)
        where
          silent : (m.service.sort ≡ Plain) ⊎ (m.service.sort ≡ Request)
              → starts_by (λ b. starts_through (record { object = to.name; op = sig.name })
              (flatly.starts_within d (flat_services (flat x)) (record { object = to.name; op = sig.name })) b) m.service.sort m.service.op ≡ 0
          silent (inl e) = ap (λ z. starts_by (λ b. starts_through (record { object = to.name; op = sig.name })
              (flatly.starts_within d (flat_services (flat x)) (record { object = to.name; op = sig.name })) b) z m.service.op) e
          silent (inr e) = ap (λ z. starts_by (λ b. starts_through (record { object = to.name; op = sig.name })
              (flatly.starts_within d (flat_services (flat x)) (record { object = to.name; op = sig.name })) b) z m.service.op) e
      by rest (inl i) =
          let needed : AreNeeded x m.standing.own i.body.block
          = body-needed written x met m.standing i.body (terminal-object x m.standing m.stands).0 i.stands in
          let count : ℕ = counted (start_weight x to.name (starts_within d x to.name) m.standing.own) i.body.block in
          let bodies : body_starts x to.name (starts_within d x to.name) c.op m.standing.own ≡ count =
          ap (λ z. fold max 0 (map (λ (b : Body). counted (start_weight x to.name (starts_within d x to.name) m.standing.own) b.block) z)) i.bodies ∙
          max-zero count in
          ap (λ z. starts_by (λ b. starts_through (record { object = to.name; op = sig.name })
          (flatly.starts_within d (flat_services (flat x)) (record { object = to.name; op = sig.name })) b) z m.service.op) i.sort
          ∙ ap (λ z. starts_through (record { object = to.name; op = sig.name })
          (flatly.starts_within d (flat_services (flat x)) (record { object = to.name; op = sig.name })) z) i.block
          ∙ block-counted (resolve x) (λ object op. if is_call_of (record { object = to.name; op = sig.name }) object op then 1
          else flatly.starts_within d (flat_services (flat x)) (record { object = to.name; op = sig.name }) object op)
          (start_weight x to.name (starts_within d x to.name) m.standing.own) i.body.block
          (weight-same d to sig k rest m.standing.own i.body.block needed)
          ∙ sym (ap (λ z. fold max 0 (map (body_starts x to.name (starts_within d x to.name) c.op) z)) i.object ∙ max-zero
          (body_starts x to.name (starts_within d x to.name) c.op m.standing.own) ∙ bodies)

  -- what can request and what can start are as many
  same-count : {A B C : Type 0} (f : A → Option B) (g : A → C) (h : A → Bool) (p : B → Bool) (q : C → Bool) (ys : List A)
      → ((a : A) → IsIn a ys → ((h a ≡ false) × (f a ≡ None)) ⊎ ((b : B) × (h a ≡ true) × (f a ≡ Some b) × (p b ≡ q (g a))))
      → length (filter p (filter_map f ys)) ≡ length (filter q (map g (filter h ys)))
  same-count f g h p q [] k = refl
  same-count {A} {B} {C} f g h p q (y ∷ ys) k = by (same-count f g h p q ys (λ a j. k a (inr j))) (k y (inl refl))
    where
      by : length (filter p (filter_map f ys)) ≡ length (filter q (map g (filter h ys)))
          → ((h y ≡ false) × (f y ≡ None)) ⊎ ((b : B) × (h y ≡ true) × (f y ≡ Some b) × (p b ≡ q (g y)))
          → length (filter p (cons_option (f y) (filter_map f ys))) ≡ length (filter q (map g (if h y then y ∷ filter h ys else filter h ys)))
      by rest (inl (e, n)) =
          ap (λ o. length (filter p (cons_option o (filter_map f ys)))) n ∙ rest ∙ sym
          (ap (λ t. length (filter q (map g (if t then y ∷ filter h ys else filter h ys)))) e)
      by rest (inr (b, e, n, same)) =
          ap (λ o. length (filter p (cons_option o (filter_map f ys)))) n
          ∙ ap (λ t. length (if t then b ∷ filter p (filter_map f ys) else filter p (filter_map f ys))) same
          ∙ either (q (g y))
          ∙ sym (ap (λ t. length (filter q (map g (if t then y ∷ filter h ys else filter h ys)))) e)
        where
          either : (t : Bool) → length (if t then b ∷ filter p (filter_map f ys) else filter p (filter_map f ys))
              ≡ length (if t then g y ∷ filter q (map g (filter h ys)) else filter q (map g (filter h ys)))
          either true = ap suc rest
          either false = rest

  no-timing : (k : Kind) (o : Object) → has_thread k ≡ false → timing_by k o ≡ None
  no-timing kind.Passive o e = refl
  no-timing kind.Active o e = refl
  no-timing kind.Protected o e = refl
  no-timing kind.Cyclic o e = cc
  no-timing kind.Sporadic o e = cc

  pub starter-count : (to : Object) → to.kind ≡ kind.Sporadic → length (starters (flat_services (flat x)) to.name (threads x))
      ≡ length (filter (λ f. can_start x f to) (thread_objects x))
  starter-count to sort =
      same-count (λ (s : Standing). thread_by x s.own) (λ (s : Standing). s.own) (λ (s : Standing). has_thread s.own.kind)
      (λ (t : Thread). can_request (flat_services (flat x)) to.name t.block) (λ f. can_start x f to) (terminals x)
      (λ s h. by s h (has_thread s.own.kind) refl)
    where
      by : (s : Standing) → IsIn s (terminals x) → (t : Bool) → has_thread s.own.kind ≡ t
          → ((has_thread s.own.kind ≡ false) × (thread_by x s.own ≡ None))
          ⊎ ((b : Thread) × (has_thread s.own.kind ≡ true) × (thread_by x s.own ≡ Some b)
          × (can_request (flat_services (flat x)) to.name b.block ≡ can_start x s.own to))
      by s h false e = inl (e, ap (option_and_then (λ u. option_map (thread_at x s.own u) s.own.thread)) (no-timing s.own.kind s.own e))
      by s h true e =
          let t = threaded s h e in
          let o = (terminal-object x s h).0 in
          inr (
            thread_at x s.own t.0 t.1,
            e,
            t.4,
            can-same written x met s t.1 to service-count o t.3 (thread-needed written x met s t.1 o t.3) (ap
                is_sporadic sort),
          )

  -- a thread requests another at most once on a path
  once : (to : Object) (sig : Signature) → Asked x to sig → nat_le (start_count x to) 1 ≡ true → (t : Thread) → IsIn t (threads x)
      → nat_le (flatly.start_count (flat_services (flat x)) to.name sig t) 1 ≡ true
  once to sig k few t h =
      let r : ThreadFrom x t = thread-from x t h in
      let o = (terminal-object x r.standing r.stands).0 in
      let needed : AreNeeded x r.standing.own r.block = thread-needed written x met r.standing r.block o r.runs in
      let depth : ℕ = length (terminal_ops x) in
      let target : OpName = record { object = to.name; op = sig.name } in
      let count : ℕ = counted (start_weight x to.name (starts_within depth x to.name) r.standing.own) r.block in
      let flatted : flatly.start_count (flat_services (flat x)) to.name sig t ≡ count =
      ap (λ (u : Thread). starts_through target (flatly.starts_within (length (flat_services (flat x))) (flat_services (flat x)) target)
      u.block) r.made
      ∙ ap (λ d. starts_through target (flatly.starts_within d (flat_services (flat x)) target) (resolved x r.block)) service-count
      ∙ block-counted (resolve x) (λ object op. if is_call_of target object op then 1 else flatly.starts_within depth
      (flat_services (flat x)) target object op)
      (start_weight x to.name (starts_within depth x to.name) r.standing.own) r.block
      (weight-same depth to sig k (λ c m. starts-same depth to sig k c m) r.standing.own r.block needed) in
      let own : requests_by x to.name r.standing.own ≡ count =
      ap (λ b. fold max 0 (map (counted (start_weight x to.name (starts_within depth x to.name) r.standing.own)) (option_to_list b))) r.runs ∙
      max-zero count in
      let stands : IsIn r.standing.own (thread_objects x) =
      in-map (λ (s : Standing). s.own) r.standing (filter (λ s. has_thread s.own.kind) (terminals x))
      (filter-in (λ s. has_thread s.own.kind) r.standing (terminals x) r.stands
      (timed-kind has_thread true r.standing.own r.timing refl refl r.timed)) in
      let most : requests_by x to.name r.standing.own ≤ fold max 0 (map (requests_by x to.name) (thread_objects x)) =
      at-most 0 (map (requests_by x to.name) (thread_objects x)) (requests_by x to.name r.standing.own)
      (in-map (requests_by x to.name) r.standing.own (thread_objects x) stands) in
      ap (λ n. nat_le n 1) flatted ∙ low count (fold max 0 (map (requests_by x to.name) (thread_objects x))) (omega (arith, most, own)) few
    where
      low : (n m : ℕ) → n ≤ m → nat_le (min 2 m) 1 ≡ true → nat_le n 1 ≡ true
      low n m h k = grind arith

  started-by : (to : Object) (sig : Signature) (j : Option ℕ) → Asked x to sig → attribute ArrivalJitter to ≡ j → breaks_sources x to ≡ false
      → is_started_by (flat_services (flat x)) j to.name sig (starters (flat_services (flat x)) to.name (threads x)) ≡ true
  started-by to sig j k e h = by j e
    where
      both : (not (source_count x to == 1) ≡ false) × (not (nat_le (start_count x to) 1) ≡ false)
      both = or_parts (not (source_count x to == 1)) (not (nat_le (start_count x to) 1)) h

      sources : source_count x to ≡ 1
      sources = eqb-true _ _ (not-false _ both.0)

      by : (i : Option ℕ) → attribute ArrivalJitter to ≡ i
          → is_started_by (flat_services (flat x)) i to.name sig (starters (flat_services (flat x)) to.name (threads x)) ≡ true
      by None q =
          let a = starter-count to k.sporadic in
          let b : length (option_to_list (attribute ArrivalJitter to)) ≡ 0 = ap (λ z. length (option_to_list z)) q in
          let c = sources in
          let one-starter : length (starters (flat_services (flat x)) to.name (threads x)) ≡ 1 = omega (arith, a, b, c) in
          and_from _ _ (eq-eqb _ _ one-starter)
          (all-from (λ t. nat_le (flatly.start_count (flat_services (flat x)) to.name sig t) 1)
          (starters (flat_services (flat x)) to.name (threads x))
          (λ t i. once to sig k (not-false _ both.1) t (in-filter (λ (u : Thread). can_request (flat_services (flat x)) to.name u.block) t
          (threads x) i).0))
      by (Some jitter) q =
          let a = starter-count to k.sporadic in
          let b : length (option_to_list (attribute ArrivalJitter to)) ≡ 1 = ap (λ z. length (option_to_list z)) q in
          let c = sources in
          let none : length (starters (flat_services (flat x)) to.name (threads x)) ≡ 0 = omega (arith, a, b, c) in
          eq-eqb _ _ none

  thread-started : (t : Thread) → ThreadFrom x t → is_started (flat x) t.name t.timing ≡ true
  thread-started t r = ap (λ (u : Thread). is_started (flat x) u.name u.timing) r.made ∙ by (timing-of own r.timing r.timed)
    where
      own : Object
      own = r.standing.own

      by : TimingOf own r.timing → is_started (flat x) own.name r.timing ≡ true
      by (OfCyclic e s) = ap (is_started (flat x) own.name) s
      by (OfSporadic sig e q s) =
          let stands : IsIn own (thread_objects x) =
          in-map (λ (s : Standing). s.own) r.standing (filter (λ s. has_thread s.own.kind) (terminals x))
          (filter-in (λ s. has_thread s.own.kind) r.standing (terminals x) r.stands (ap has_thread e)) in
          ap (is_started (flat x) own.name) s
          ∙ started-by own sig (attribute ArrivalJitter own) (record {
            standing = r.standing;
            stands = r.stands;
            own = refl;
            sporadic = e;
            asks = q;
          }) refl
          (sources-right written x met own stands (ap is_sporadic e))

  pub all-started : list_all (λ t. is_started (flat x) t.name t.timing) (threads x) ≡ true
  all-started = all-from (λ t. is_started (flat x) t.name t.timing) (threads x) (λ t h. thread-started t (thread-from x t h))
