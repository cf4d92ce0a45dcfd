-- A request of the program is said to come from outside just where no task can make it.
use Rattle.std.proofs.Common.{◌≡◌, ℕ, zero, suc, Bool, true, false, ◌&&◌, ◌==◌, List, [], ◌∷◌, ◌++◌, map, filter, flat_map, zip, length, Option}
use Rattle.std.proofs.Common.{Some, None, option_map, refl, sym, ap, subst, ◌∙◌, arith, append-nil, inl, inr, ◌⊎◌, if◌then◌else◌}
use Rattle.law_designs.proofs.Shared.Served.{service-one}
use Rattle.analysis.specs.Sound.{is_started}
use Rattle.std.proofs.lemmas.List.{length-map}
use Rattle.std.specs.List.{list_any}
use Rattle.std.proofs.lemmas.Bool.{and_parts, and_from, false_from_ne_true, eqb-true}
use Rattle.seq_tree.specs.Names.{Name, same_name, are_distinct}
use Rattle.seq_tree.specs.Statements.{Statements}
use Rattle.seq_tree.specs.Operations.{Signature, Operation}
use Rattle.seq_tree.specs.Calls.{block_calls, same_op}
use Rattle.seq_tree.proofs.Shared.Walks.{same_op-eq}
use Rattle.seq_tree.specs.declared.tree.OpName.{OpName}
use Rattle.ods_tree.specs.Designs.{Provided, Body, Object, Design}
use Rattle.ods_tree.specs.Walk.{Standing, terminals}
use Rattle.ods_tree.specs.Attributes.{attribute, attribute_or}
use Rattle.ods_tree.specs.declared.design.AttrKey.TheVariants.{Period, Offset, Separation, ArrivalJitter}
use Rattle.ods_tree.specs.Flats.{Guarded, Timing, Thread}
use Rattle.ods_tree.specs.Flats as timing
use Rattle.ods_tree.specs.Flattening.{body_named, operation_by, operations, request_op, is_protected, guarded, threads, flat}
use Rattle.ods_tree.specs.Services.{Sort, Plain, Protected, Request, Service, flat_services, is_service}
use Rattle.ods_tree.specs.declared.design.Kind.{Kind}
use Rattle.ods_tree.specs.declared.design.Kind.TheVariants as kind
use Rattle.ada_tree.specs.Programs.{Unit, Program, is_task}
use Rattle.ada_tree.specs.Bodies.{offers}
use Rattle.ada_tree.specs.Naming.{calls_of}
use Rattle.ada_tree.specs.Uses.{shared_ops, ops_of_shared, shared_named, calls_within, task_calls, is_requested, breaks_external}
use Rattle.analysis.specs.Ceilings.{Ranks}
use Rattle.analysis.specs.Starts.{all_calls, can_request, service_calls, calls_by, starters}
use Rattle.analysis.specs.Starts as flatly
use Rattle.guarantee.specs.Programs.{passive_unit, shared_unit, thread_unit, thread_form, program_for}
use Rattle.design_rules.specs.Rules.{AreMet}
use Rattle.law_designs.proofs.Shared.Lists.{from-map, some-in, all-in, distinct-taken, key-eq}
use Rattle.law_designs.proofs.Shared.Flattened.{guarded_by, guarded-from, guarded-of, ThreadFrom, thread-from, services_at, request_services}
use Rattle.law_designs.proofs.Shared.Flattened.{terminal-object, TimingOf, OfCyclic, OfSporadic, timing-of}
use Rattle.law_designs.proofs.Shared.ObjectRules.{no-clash}
use Rattle.law_designs.proofs.Shared.ObjectNames.{op-names, terminal-names}
use Rattle.law_designs.proofs.Shared.Blocks.{body-needed, thread-needed}
use Rattle.law_designs.proofs.Shared.Starting.{MeantName, Inside, Silent, inside, meant-of}
use Rattle.law_designs.proofs.Shared.Started.{Asked, asked-op, all-started}
use Rattle.law_designs.proofs.Shared.Offers.{Fitting, offer_by, offers-are}
use Rattle.law_designs.proofs.Shared.Units.{UnitFrom, OfLibrary, OfGuarded, OfThread, unit-from, from-zip}
use Rattle.law_lists.proofs.Shared.Facts.{same-is, is-same}
use Rattle.law_lists.proofs.Shared.Lists.{in-left, in-right, in-map, in-flat, filter-in, in-filter, any-in, IsIn, in-some, found-in}
use Rattle.std.proofs.lemmas.Slice.Zip.{length-zip}

-- a thing of a list stands in its pairs with one as long
zip-has : {A B : Type 0} (xs : List A) (ys : List B) (a : A) → length ys ≡ length xs → IsIn a xs → (b : B) × IsIn (a, b) (zip xs ys)
zip-has [] ys a e h = absurd h
zip-has (x ∷ xs) [] a e h = absurd (omega (arith, e))
zip-has (x ∷ xs) (y ∷ ys) a e (inl s) = (y, inl (ap (λ z. (z, y)) s))
zip-has (x ∷ xs) (y ∷ ys) a e (inr h) = (let r = zip-has xs ys a (let q : length ys ≡ length xs = omega (arith, e) in q) h in (r.0, inr r.1))

zip-long : {A B : Type 0} (xs : List A) (ys : List B) → length xs ≡ length ys → length (zip xs ys) ≡ length xs
zip-long xs ys same = let least = length-zip xs ys in omega (arith, least, same)

-- the calls of a thread's unit
thread-calls : (n m : ℕ) (t : Thread) (u : Timing) → calls_of (thread_form n m u t) ≡ block_calls t.block
thread-calls n m t (timing.Cyclic period offset) = append-nil (block_calls t.block)
thread-calls n m t (timing.Sporadic op separation jitter) = append-nil (block_calls t.block)

thread-task : (n m : ℕ) (t : Thread) (u : Timing) → is_task (thread_form n m u t) ≡ true
thread-task n m t (timing.Cyclic period offset) = refl
thread-task n m t (timing.Sporadic op separation jitter) = refl

thread-shared : (n m : ℕ) (t : Thread) (u : Timing) → shared_ops (thread_form n m u t) ≡ []
thread-shared n m t (timing.Cyclic period offset) = refl
thread-shared n m t (timing.Sporadic op separation jitter) = refl

-- a protected service comes from an operation
protected-op : (x : Design) (o : Object) (k : Kind) (v : Service) → v.sort ≡ Protected → IsIn v (services_at x o k)
    → IsIn v.op (operations x o) × (is_protected k ≡ true)
protected-op x o kind.Passive v e h =
    let r = from-map (λ z. record { object = o.name; sort = Plain; op = z }) (operations x o) v h in
    let q : Plain ≡ Protected = ap (λ (w : Service). w.sort) (sym r.2) ∙ e in cc
protected-op x o kind.Protected v e h =
    (let r = from-map (λ z. record { object = o.name; sort = Protected; op = z }) (operations x o) v h in
    let P : Operation → Type 0 = λ z. IsIn z (operations x o) in (subst P (ap (λ (w : Service). w.op) (sym r.2)) r.1, refl))
protected-op x o kind.Sporadic v e h = by (request_op o.provides) h
  where
    by : (r : Option Signature) → IsIn v (request_services o.name r) → IsIn v.op (operations x o) × (is_protected kind.Sporadic ≡ true)
    by None j = absurd j
    by (Some sig) (inl s) = let q : Request ≡ Protected = ap (λ (w : Service). w.sort) s ∙ e in cc
    by (Some sig) (inr j) = absurd j
protected-op x o kind.Cyclic v e h = absurd h
protected-op x o kind.Active v e h = absurd h

module _ (written x : Design) (met : AreMet written x) (r : Ranks) (fit : Fitting (flat x) r) where
  abbrev p : Program
  p = program_for (flat x) r

  abbrev ss : List Service
  ss = flat_services (flat x)

  guarded-names : are_distinct (map (λ (g : Guarded). g.name) (guarded x)) ≡ true
  guarded-names = distinct-taken (λ (s : Standing). s.own.name) (λ (g : Guarded). g.name)
      (λ s. if is_protected s.own.kind then Some (guarded_by x s.own) else None) (terminals x) (λ s g h.
      by s g (is_protected s.own.kind) h) (terminal-names x (no-clash written x met))
    where
      by : (s : Standing) (g : Guarded) (b : Bool) → (if b then Some (guarded_by x s.own) else None) ≡ Some g → g.name ≡ s.own.name
      by s g true h = let z : Some (guarded_by x s.own) ≡ Some g = h in let k : guarded_by x s.own ≡ g = cc in ap (λ (w : Guarded). w.name) (sym k)
      by s g false h = let z : None ≡ Some g = h in cc

  operation-names : (s : Standing) → IsIn s (terminals x) → are_distinct (map (λ (o : Operation). o.sig.name) (operations x s.own)) ≡ true
  operation-names s h = distinct-taken (λ (q : Provided). q.sig.name) (λ (o : Operation). o.sig.name)
      (λ q. option_map (operation_by x q.sig) (body_named q.sig.name s.own.bodies)) s.own.provides
      (λ q e k. by q e (body_named q.sig.name s.own.bodies) k) (op-names x s (no-clash written x met) (terminal-object x s h).0)
    where
      by : (q : Provided) (e : Operation) (b : Option Body) → option_map (operation_by x q.sig) b ≡ Some e → e.sig.name ≡ q.sig.name
      by q e None k = let z : None ≡ Some e = k in cc
      by q e (Some b) k = let z : Some (operation_by x q.sig b) ≡ Some e = k in let same : operation_by x q.sig b ≡ e = cc
          in ap (λ (o : Operation). o.sig.name) (sym same)

  -- the operations of protected units of a name
  from-shared : (name : Name) (o : Operation) → IsIn o (ops_of_shared p name) → (g : Guarded) × IsIn g (guarded x) × IsIn o g.ops × (g.name ≡ name)
  from-shared name o h =
      let u = in-some (λ (u : Unit). shared_ops u.form) (filter (λ (u : Unit). same_name u.name name) p.units) o h in
      let v = in-filter (λ (u : Unit). same_name u.name name) u.0 p.units u.1 in
      by u.0 (same-is u.0.name name v.1) u.2 (unit-from (flat x) r u.0 v.0)
    where
      by : (u : Unit) → u.name ≡ name → IsIn o (shared_ops u.form) → UnitFrom (flat x) r u
          → (g : Guarded) × IsIn g (guarded x) × IsIn o g.ops × (g.name ≡ name)
      by u n k (OfLibrary l j e) = let P : Unit → Type 0 = λ z. IsIn o (shared_ops z.form) in absurd (subst P e k)
      by u n k (OfGuarded g ceiling j e) =
          let P : Unit → Type 0 = λ z. IsIn o (shared_ops z.form)
          in (g, (from-zip (guarded x) r.shared (g, ceiling) j).0, subst P e k, ap (λ (z : Unit). z.name) (sym e) ∙ n)
      by u n k (OfThread t m j e) =
          let P : Unit → Type 0 = λ z. IsIn o (shared_ops z.form) in
          let Q : List Operation → Type 0 = λ z. IsIn o z in absurd (subst Q (thread-shared m.0 m.1 t t.timing) (subst P e k))

  shared-has : (g : Guarded) (o : Operation) (name : Name) → IsIn g (guarded x) → IsIn o g.ops → g.name ≡ name → IsIn o (ops_of_shared p name)
  shared-has g o name h j e =
      let z = zip-has (guarded x) r.shared g fit.shared h in
      in-flat (λ (u : Unit). shared_ops u.form) (shared_unit (g, z.0)) o (filter (λ (u : Unit). same_name u.name name) p.units)
      (filter-in (λ (u : Unit). same_name u.name name) (shared_unit (g, z.0)) p.units
      (in-right (shared_unit (g, z.0)) (map passive_unit (flat x).passive) (map shared_unit (zip (guarded x) r.shared)
      ++ map thread_unit (zip (threads x) (zip r.threads r.obcs)))
      (in-left (shared_unit (g, z.0)) (map shared_unit (zip (guarded x) r.shared)) (map thread_unit (zip (threads x) (zip r.threads r.obcs)))
      (in-map shared_unit (g, z.0) (zip (guarded x) r.shared) z.1)))
      (is-same g.name name e)) j

  -- a call that a call of the program leads to in one step is one of the flat design
  step-down : (c e : OpName) (m : MeantName x c) → IsIn e (flat_map (λ (o : Operation). block_calls o.block) (shared_named p c))
      → (m.service.sort ≡ Protected) × IsIn e (block_calls m.service.op.block)
  step-down c e m h =
      let o = in-some (λ (o : Operation). block_calls o.block) (shared_named p c) e h in
      let k = in-filter (λ (o : Operation). same_name o.sig.name c.op) o.0 (ops_of_shared p c.object) o.1 in
      let g = from-shared c.object o.0 k.0 in
      let s = guarded-from x g.0 g.1 in
      let same : s.0 ≡ m.standing = key-eq (λ (z : Standing). z.own.name) (terminals x) (terminal-names x (no-clash written x met)) s.0 m.standing
      s.1 m.stands
      (ap (λ (z : Guarded). z.name) (sym s.3) ∙ g.3 ∙ m.object) in
      let P : List Operation → Type 0 = λ z. IsIn o.0 z in
      let ops : IsIn o.0 (operations x m.standing.own)
      = subst P (ap (λ (z : Guarded). z.ops) s.3 ∙ ap (λ (z : Standing). operations x z.own) same) g.2 in
      let w : Service = record { object = m.standing.own.name; sort = Protected; op = o.0 } in
      let protected : is_protected m.standing.own.kind ≡ true = ap (λ (z : Standing). is_protected z.own.kind) (sym same) ∙ s.2 in
      let name : o.0.sig.name ≡ m.service.op.sig.name
      = same-is o.0.sig.name c.op k.1 ∙ sym (same-is m.service.op.sig.name c.op
      (and_parts (same_name m.service.object c.object) (same_name m.service.op.sig.name c.op)
      (found-in (is_service c.object c.op) ss m.service m.found).1).1) in
      let v : w ≡ m.service = service-one x m.standing.own m.standing.own.kind w m.service
      (op-names x m.standing (no-clash written x met) (terminal-object x m.standing m.stands).0)
      (own m.standing.own o.0 m.standing.own.kind protected ops) m.among name in
      let Q : Service → Type 0 = λ z. IsIn e (block_calls z.op.block) in
      (ap (λ (z : Service). z.sort) (sym v), subst Q v o.2)
    where
      own : (o : Object) (e : Operation) (k : Kind) → is_protected k ≡ true → IsIn e (operations x o)
          → IsIn (record { object = o.name; sort = Protected; op = e }) (services_at x o k)
      own o e kind.Protected h j = in-map (λ z. record { object = o.name; sort = Protected; op = z }) e (operations x o) j
      own o e kind.Passive h j = cc
      own o e kind.Active h j = cc
      own o e kind.Cyclic h j = cc
      own o e kind.Sporadic h j = cc

  -- and back
  step-up : (c e : OpName) (m : MeantName x c) → m.service.sort ≡ Protected → IsIn e (block_calls m.service.op.block)
      → IsIn e (flat_map (λ (o : Operation). block_calls o.block) (shared_named p c))
  step-up c e m sort h =
      let q = protected-op x m.standing.own m.standing.own.kind m.service sort m.among in
      let name = same-is m.service.op.sig.name c.op (and_parts (same_name m.service.object c.object) (same_name m.service.op.sig.name c.op)
      (found-in (is_service c.object c.op) ss m.service m.found).1).1 in
      in-flat (λ (o : Operation). block_calls o.block) m.service.op e (shared_named p c)
      (filter-in (λ (o : Operation). same_name o.sig.name c.op) m.service.op (ops_of_shared p c.object)
      (shared-has (guarded_by x m.standing.own) m.service.op c.object (guarded-of x m.standing m.stands q.1) q.0 (sym m.object))
      (is-same m.service.op.sig.name c.op name)) h

  -- what a meant call leads to is meant
  next-meant : (c e : OpName) (m : MeantName x c) → m.service.sort ≡ Protected → IsIn e (block_calls m.service.op.block) → MeantName x e
  next-meant c e m sort h = by (inside written x met c m)
    where
      not-plain : Plain ≡ Protected → ⊥
      not-plain q = cc

      not-request : Request ≡ Protected → ⊥
      not-request q = cc

      by : Inside x c m.standing.own m.service ⊎ Silent x c m.service → MeantName x e
      by (inl i) =
          let P : Statements → Type 0 = λ z. IsIn e (block_calls z) in
          meant-of written x met m.standing.own i.body.block (body-needed written x met m.standing i.body
          (terminal-object x m.standing m.stands).0 i.stands) e (subst P i.block h)
      by (inr s) = no s.sort
        where
          no : (m.service.sort ≡ Plain) ⊎ (m.service.sort ≡ Request) → MeantName x e
          no (inl q) = absurd (not-plain (sym q ∙ sort))
          no (inr q) = absurd (not-request (sym q ∙ sort))

  -- what is within a depth, in the program and in the flat design
  within-down : (d : ℕ) (c e : OpName) → MeantName x c → IsIn e (calls_within d p c) → IsIn e (flatly.calls_within d ss c) × MeantName x e
  within-down zero c e m (inl s) = (let P : OpName → Type 0 = λ z. MeantName x z in (inl s, subst P s m))
  within-down zero c e m (inr h) = absurd h
  within-down (suc d) c e m (inl s) = (let P : OpName → Type 0 = λ z. MeantName x z in (inl s, subst P s m))
  within-down (suc d) c e m (inr h) =
      let b = in-some (calls_within d p) (flat_map (λ (o : Operation). block_calls o.block) (shared_named p c)) e h in
      let k = step-down c b.0 m b.1 in
      let q = within-down d b.0 e (next-meant c b.0 m k.0 k.1) b.2 in
      let P : List OpName → Type 0 = λ z. IsIn e z in (
        inr (subst P (sym (ap (service_calls (flatly.calls_within d ss)) m.found ∙ ap (λ z. calls_by (flatly.calls_within d ss) z m.service.op) k.0))
            (in-flat (flatly.calls_within d ss) b.0 e (block_calls m.service.op.block) k.1 q.0)),
        q.1,
      )

  within-up : (d : ℕ) (c e : OpName) → MeantName x c → IsIn e (flatly.calls_within d ss c) → IsIn e (calls_within d p c) × MeantName x e
  within-up zero c e m (inl s) = (let P : OpName → Type 0 = λ z. MeantName x z in (inl s, subst P s m))
  within-up zero c e m (inr h) = absurd h
  within-up (suc d) c e m (inl s) = (let P : OpName → Type 0 = λ z. MeantName x z in (inl s, subst P s m))
  within-up (suc d) c e m (inr h) =
      let P : List OpName → Type 0 = λ z. IsIn e z in
      by (λ b j k. within-up d b e j k) m.service.sort refl (subst P (ap (service_calls (flatly.calls_within d ss)) m.found) h)
    where
      by : ((b : OpName) → MeantName x b → IsIn e (flatly.calls_within d ss b) → IsIn e (calls_within d p b) × MeantName x e)
          → (s : Sort) → m.service.sort ≡ s → IsIn e (calls_by (flatly.calls_within d ss) m.service.sort m.service.op)
          → IsIn e (calls_within (suc d) p c) × MeantName x e
      by rest Plain q j = let P : Sort → Type 0 = λ z. IsIn e (calls_by (flatly.calls_within d ss) z m.service.op) in absurd (subst P q j)
      by rest Request q j = let P : Sort → Type 0 = λ z. IsIn e (calls_by (flatly.calls_within d ss) z m.service.op) in absurd (subst P q j)
      by rest Protected q j =
          let P : Sort → Type 0 = λ z. IsIn e (calls_by (flatly.calls_within d ss) z m.service.op) in
          let b = in-some (flatly.calls_within d ss) (block_calls m.service.op.block) e (subst P q j) in
          let k = rest b.0 (next-meant c b.0 m q b.1) b.2 in (
            inr (in-flat (calls_within d p) b.0 e (flat_map (λ (o : Operation). block_calls o.block) (shared_named p c))
                (step-up c b.0 m q b.1) k.0),
            k.1,
          )

  offer-count : length (offers p) ≡ length ss
  offer-count = ap length (offers-are (flat x) r fit) ∙ length-map ss offer_by

  thread-needs : (t : Thread) (f : ThreadFrom x t) → (c : OpName) → IsIn c (block_calls t.block) → MeantName x c
  thread-needs t f c h =
      let P : Thread → Type 0 = λ u. IsIn c (block_calls u.block) in
      meant-of written x met f.standing.own f.block (thread-needed written x met f.standing f.block (terminal-object x f.standing f.stands).0 f.runs)
      c (subst P f.made h)

  -- a task calls what the thread does
  task-down : (t : Thread) (n : ℕ × ℕ) → IsIn t (threads x) → (e : OpName) → IsIn e (task_calls p (thread_form n.0 n.1 t.timing t))
      → IsIn e (all_calls ss t.block) × MeantName x e
  task-down t n h e j =
      let b = in-some (calls_within (length (offers p)) p) (calls_of (thread_form n.0 n.1 t.timing t)) e j in
      let P : List OpName → Type 0 = λ z. IsIn b.0 z in
      let c : IsIn b.0 (block_calls t.block) = subst P (thread-calls n.0 n.1 t t.timing) b.1 in
      let Q : ℕ → Type 0 = λ d. IsIn e (calls_within d p b.0) in
      let q = within-down (length ss) b.0 e (thread-needs t (thread-from x t h) b.0 c) (subst Q offer-count b.2) in
      (in-flat (flatly.calls_within (length ss) ss) b.0 e (block_calls t.block) c q.0, q.1)

  task-up : (t : Thread) (n : ℕ × ℕ) → IsIn t (threads x) → (e : OpName) → IsIn e (all_calls ss t.block)
      → IsIn e (task_calls p (thread_form n.0 n.1 t.timing t)) × MeantName x e
  task-up t n h e j =
      let b = in-some (flatly.calls_within (length ss) ss) (block_calls t.block) e j in
      let P : List OpName → Type 0 = λ z. IsIn b.0 z in
      let q = within-up (length ss) b.0 e (thread-needs t (thread-from x t h) b.0 b.1) b.2 in
      let Q : ℕ → Type 0 = λ d. IsIn e (calls_within d p b.0) in (
        in-flat (calls_within (length (offers p)) p) b.0 e (calls_of (thread_form n.0 n.1 t.timing t)) (subst P
            (sym (thread-calls n.0 n.1 t t.timing)) b.1) (subst Q (sym offer-count) q.0),
        q.1,
      )

  -- a requested operation has a starter
  requested-starter : (op : OpName) → is_requested p op ≡ true → (t : Thread) × IsIn t (threads x) × (can_request ss op.object t.block ≡ true)
  requested-starter op h =
      let u = some-in (λ (u : Unit). is_task u.form && list_any (same_op op) (task_calls p u.form)) p.units h in
      by u.0 (and_parts (is_task u.0.form) (list_any (same_op op) (task_calls p u.0.form)) u.2) (unit-from (flat x) r u.0 u.1)
    where
      by : (u : Unit) → (is_task u.form ≡ true) × (list_any (same_op op) (task_calls p u.form) ≡ true) → UnitFrom (flat x) r u
          → (t : Thread) × IsIn t (threads x) × (can_request ss op.object t.block ≡ true)
      by u k (OfLibrary l j e) = let z : false ≡ true = ap (λ (w : Unit). is_task w.form) (sym e) ∙ k.0 in cc
      by u k (OfGuarded g ceiling j e) = let z : false ≡ true = ap (λ (w : Unit). is_task w.form) (sym e) ∙ k.0 in cc
      by u k (OfThread t n j e) =
          let i = (from-zip (threads x) (zip r.threads r.obcs) (t, n) j).0 in
          let P : Unit → Type 0 = λ w. list_any (same_op op) (task_calls p w.form) ≡ true in
          let c = some-in (same_op op) (task_calls p (thread_form n.0 n.1 t.timing t)) (subst P e k.1) in
          let d = task-down t n i c.0 c.1 in (
            t,
            i,
            any-in (λ z. same_name z.object op.object) c.0 (all_calls ss t.block) d.0 (is-same c.0.object op.object
                (ap (λ (z : OpName). z.object) (sym (same_op-eq op c.0 c.2)))),
          )

  -- a starter requests
  starter-requests : (to : Object) (sig : Signature) → Asked x to sig → (t : Thread) → IsIn t (threads x) → can_request ss to.name t.block ≡ true
      → is_requested p (record { object = to.name; op = sig.name }) ≡ true
  starter-requests to sig k t h s =
      let c = some-in (λ z. same_name z.object to.name) (all_calls ss t.block) s in
      let long : length (zip r.threads r.obcs) ≡ length (threads x) = zip-long r.threads r.obcs (fit.threads ∙ sym fit.obcs) ∙ fit.threads in
      let n = zip-has (threads x) (zip r.threads r.obcs) t long h in
      let q = task-up t n.0 h c.0 c.1 in
      let op : c.0.op ≡ sig.name = asked-op written x met to sig k c.0 q.1 c.2 in
      any-in (λ (u : Unit). is_task u.form && list_any (same_op (record { object = to.name; op = sig.name })) (task_calls p u.form))
      (thread_unit (t, n.0)) p.units
      (in-right (thread_unit (t, n.0)) (map passive_unit (flat x).passive) (map shared_unit (zip (guarded x) r.shared)
      ++ map thread_unit (zip (threads x) (zip r.threads r.obcs)))
      (in-right (thread_unit (t, n.0)) (map shared_unit (zip (guarded x) r.shared)) (map thread_unit (zip (threads x) (zip r.threads r.obcs)))
      (in-map thread_unit (t, n.0) (zip (threads x) (zip r.threads r.obcs)) n.1)))
      (and_from _ _ (thread-task n.0.0 n.0.1 t t.timing)
      (any-in (same_op (record { object = to.name; op = sig.name })) c.0 (task_calls p (thread_form n.0.0 n.0.1 t.timing t)) q.0
      (and_from _ _ (is-same to.name c.0.object (sym (same-is c.0.object to.name c.2))) (is-same sig.name c.0.op (sym op)))))

  -- the object of a sporadic thread
  pub asked-of : (t : Thread) (f : ThreadFrom x t) (op : Signature) (separation : ℕ) (jitter : Option ℕ)
      → t.timing ≡ timing.Sporadic op separation jitter → Asked x f.standing.own op
  asked-of t f op separation jitter e = by (timing-of f.standing.own f.timing f.timed)
    where
      is : f.timing ≡ timing.Sporadic op separation jitter
      is = ap (λ (u : Thread). u.timing) (sym f.made) ∙ e

      by : TimingOf f.standing.own f.timing → Asked x f.standing.own op
      by (OfCyclic g s) =
          let z : timing.Cyclic (attribute_or 0 Period f.standing.own) (attribute_or 0 Offset f.standing.own) ≡ timing.Sporadic op separation jitter
          = sym s ∙ is in cc
      by (OfSporadic sig g q s) =
          let z : timing.Sporadic sig (attribute_or 0 Separation f.standing.own) (attribute ArrivalJitter f.standing.own)
          ≡ timing.Sporadic op separation jitter = sym s ∙ is in
          let same : sig ≡ op = cc in
          record { standing = f.standing; stands = f.stands; own = refl; sporadic = g; asks = q ∙ ap Some same }

  one-there : (ts : List Thread) → length ts ≡ 1 → (t : Thread) × IsIn t ts
  one-there [] e = absurd (let z : 0 ≡ 1 = e in cc)
  one-there (t ∷ ts) e = (t, inl refl)

  none-there : (ts : List Thread) (t : Thread) → length ts ≡ 0 → IsIn t ts → ⊥
  none-there [] t e h = h
  none-there (u ∷ ts) t e h = (let z : suc (length ts) ≡ 0 = e in absurd (omega (arith, z)))

  thread-external : (t : Thread) (n : ℕ × ℕ) → IsIn t (threads x) → (u : Timing) → t.timing ≡ u → is_started (flat x) t.name u ≡ true
      → breaks_external p t.name (thread_form n.0 n.1 u t) ≡ false
  thread-external t n h (timing.Cyclic period offset) e s = refl
  thread-external t n h (timing.Sporadic op separation None) e s =
      let f = thread-from x t h in
      let k = asked-of t f op separation None e in
      let name : t.name ≡ f.standing.own.name = ap (λ (v : Thread). v.name) f.made in
      let one = eqb-true (length (starters ss t.name (threads x))) 1 (and_parts (length (starters ss t.name (threads x)) == 1) _ s).0 in
      let v = one-there (starters ss t.name (threads x)) one in
      let w = in-filter (λ (z : Thread). can_request ss t.name z.block) v.0 (threads x) v.1 in
      let asked : is_requested p (record { object = t.name; op = op.name }) ≡ true =
      ap (λ z. is_requested p (record { object = z; op = op.name })) name ∙ starter-requests f.standing.own op k v.0 w.0
      (ap (λ z. can_request ss z v.0.block) (sym name) ∙ w.1) in
      ap (λ b. if b then false else true) asked
  thread-external t n h (timing.Sporadic op separation (Some jitter)) e s =
      let none = eqb-true (length (starters ss t.name (threads x))) 0 s in
      let unasked : is_requested p (record { object = t.name; op = op.name }) ≡ false =
      false_from_ne_true (is_requested p (record { object = t.name; op = op.name })) (λ q.
      let v = requested-starter (record { object = t.name; op = op.name }) q in
      none-there (starters ss t.name (threads x)) v.0 none (filter-in (λ (z : Thread). can_request ss t.name z.block) v.0 (threads x) v.1 v.2)) in
      ap (λ b. if b then true else false) unasked

  -- external just where no thread requests
  pub externals-right : (u : Unit) → IsIn u p.units → breaks_external p u.name u.form ≡ false
  externals-right u h = by (unit-from (flat x) r u h)
    where
      by : UnitFrom (flat x) r u → breaks_external p u.name u.form ≡ false
      by (OfLibrary l j e) = ap (λ (w : Unit). breaks_external p w.name w.form) e
      by (OfGuarded g ceiling j e) = ap (λ (w : Unit). breaks_external p w.name w.form) e
      by (OfThread t n j e) =
          let i = (from-zip (threads x) (zip r.threads r.obcs) (t, n) j).0 in
          ap (λ (w : Unit). breaks_external p w.name w.form) e
          ∙ thread-external t n i t.timing refl (all-in (λ (v : Thread). is_started (flat x) v.name v.timing) (threads x) t
          (all-started written x met) i)
