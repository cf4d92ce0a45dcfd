-- What a call of the flat design leads to through protected operations is what the design says of it, and so is how often it requests.
use Rattle.std.proofs.Common.{◌≡◌, ℕ, zero, suc, ◌+◌, ◌*◌, Bool, true, false, not, ◌&&◌, ◌==◌, List, [], ◌∷◌, map, filter, flat_map, length, max}
use Rattle.std.proofs.Common.{Option, Some, None, option_to_list, refl, sym, ap, subst, ◌∙◌, arith, append-nil, inl, inr, ◌⊎◌, if◌then◌else◌}
use Rattle.std.proofs.lemmas.Simd.{map-map}
use Rattle.std.specs.List.{list_any}
use Rattle.std.proofs.lemmas.Bool.{and_parts, not-false, not-true, eqb-true}
use Rattle.seq_tree.specs.Names.{Name, same_name, is_named, are_distinct}
use Rattle.seq_tree.specs.Statements.{Statement, Statements, Branches, Null, Assign, If, For, ExitWhen, Call, Work, Put, End, Then, Nothing}
use Rattle.seq_tree.specs.Statements.{Else, When}
use Rattle.seq_tree.specs.Operations.{Signature, Operation}
use Rattle.seq_tree.specs.Calls.{statement_calls, block_calls, branch_calls, same_op}
use Rattle.seq_tree.specs.Dearest.{Weights, free, turn_count, dearest_statement, dearest, dearest_branch}
use Rattle.seq_tree.proofs.Shared.Walks.{same_op-refl}
use Rattle.seq_tree.specs.declared.tree.OpName.{OpName}
use Rattle.ods_tree.specs.Designs.{Body, Object, Design}
use Rattle.ods_tree.specs.Walk.{Standing, objects, terminals}
use Rattle.ods_tree.specs.Links.{resolve, renamed_statement, renamed, renamed_branches, resolved}
use Rattle.ods_tree.specs.Flattening.{operations, is_protected, flat}
use Rattle.ods_tree.specs.Services.{Plain, Protected, Request, Service, flat_services, is_service, service_named}
use Rattle.ods_tree.specs.declared.design.Kind.{Kind}
use Rattle.ods_tree.specs.declared.design.Kind.TheVariants as kind
use Rattle.analysis.specs.Starts.{calls_by, service_calls, can_request}
use Rattle.analysis.specs.Starts as flatly
use Rattle.design_rules.specs.Lookups.{requires, is_sporadic}
use Rattle.design_rules.specs.Fittings.{wanted_bodies, body_count}
use Rattle.design_rules.specs.Rings.{terminal_ops, meant_calls, operation_calls, protected_objects, inner_calls, calls_within, can_start}
use Rattle.design_rules.specs.Rings.{thread_calls}
use Rattle.design_rules.specs.Rules.{AreMet}
use Rattle.law_designs.proofs.Shared.Lists.{from-map, key-eq, differ-if, unnamed-at}
use Rattle.law_designs.proofs.Renaming.{block_calls-renamed}
use Rattle.law_designs.proofs.Shared.Flattened.{operation-from, services_at, request_services, terminal-object}
use Rattle.law_designs.proofs.Shared.ObjectRules.{no-clash}
use Rattle.law_designs.proofs.Shared.ObjectNames.{distinct-filter, terminal-names}
use Rattle.law_designs.proofs.Shared.Served.{Meant, meant, Fitted, fitted}
use Rattle.law_designs.proofs.Shared.Blocks.{Needed, AreNeeded, needed-call, body-needed, kept}
use Rattle.law_lists.proofs.Shared.Facts.{same-is, is-same}
use Rattle.law_lists.proofs.Shared.Lists.{in-left, in-right, in-map, filter-in, in-filter, any-in, none-in, IsIn, found-in, flat-same}

-- lists with one thing
pub one-only : {A : Type 0} (xs : List A) (a : A) → length xs ≡ 1 → IsIn a xs → xs ≡ a ∷ []
one-only [] a e h = absurd h
one-only (x ∷ []) a e (inl s) = ap (λ z. z ∷ []) s
one-only (x ∷ []) a e (inr h) = absurd h
one-only (x ∷ y ∷ xs) a e h = absurd (omega (arith, e))

pub filter-none : {A : Type 0} (p : A → Bool) (xs : List A) → ((a : A) → IsIn a xs → p a ≡ false) → filter p xs ≡ []
filter-none p [] h = refl
filter-none p (x ∷ xs) h = ap (λ b. if b then x ∷ filter p xs else filter p xs) (h x (inl refl)) ∙ filter-none p xs (λ a k. h a (inr k))

pub filter-all : {A : Type 0} (p : A → Bool) (xs : List A) → ((a : A) → IsIn a xs → p a ≡ true) → filter p xs ≡ xs
filter-all p [] h = refl
filter-all p (x ∷ xs) h = ap (λ b. if b then x ∷ filter p xs else filter p xs) (h x (inl refl)) ∙ ap (λ z. x ∷ z)
    (filter-all p xs (λ a k. h a (inr k)))

pub filter-key : {A : Type 0} (key : A → Name) (n : Name) (xs : List A) (a : A) → are_distinct (map key xs) ≡ true → IsIn a xs → key a ≡ n
    → filter (λ z. same_name (key z) n) xs ≡ a ∷ []
filter-key key n [] a d h e = absurd h
filter-key {A} key n (x ∷ xs) a d h e
    = by (λ k. filter-key key n xs a (and_parts (not (is_named (map key xs) (key x))) (are_distinct (map key xs)) d).1 k e) h
  where
    apart : (b : A) → IsIn b xs → key x ≡ key b → ⊥
    apart b h' k =
        let P : Name → Type 0 = λ z. IsIn z (map key xs) in
        unnamed-at (map key xs) (key x) (not-true _ (and_parts (not (is_named (map key xs) (key x))) (are_distinct (map key xs)) d).0)
        (subst P (sym k) (in-map key b xs h'))

    by : (IsIn a xs → filter (λ z. same_name (key z) n) xs ≡ a ∷ []) → IsIn a (x ∷ xs) → filter (λ z. same_name (key z) n) (x ∷ xs) ≡ a ∷ []
    by rest (inl s) =
        ap (λ b. if b then x ∷ filter (λ z. same_name (key z) n) xs else filter (λ z. same_name (key z) n) xs) (is-same (key x) n (ap key s ∙ e))
        ∙ ap (λ z. x ∷ z) (filter-none (λ z. same_name (key z) n) xs (λ b k. differ-if (key b) n (λ q. apart b k (ap key s ∙ e ∙ sym q)))) ∙ ap
        (λ z. z ∷ []) s
    by rest (inr h') =
        ap (λ b. if b then x ∷ filter (λ z. same_name (key z) n) xs else filter (λ z. same_name (key z) n) xs)
        (differ-if (key x) n (λ q. apart a h' (q ∙ sym e))) ∙ rest h'

-- counting along paths, calls read by what they mean
module _ (means : OpName → OpName) (v w : Name → Name → ℕ) where
  abbrev Alike : List OpName → Type 0
  Alike cs = (n : OpName) → IsIn n cs → v (means n).object (means n).op ≡ w n.object n.op

  abbrev by-v : Weights
  by-v = record { costs = free; work = λ ticks. 0; called = v }

  abbrev by-w : Weights
  by-w = record { costs = free; work = λ ticks. 0; called = w }

  mutual
    statement-counted : (s : Statement) → Alike (statement_calls s) → dearest_statement by-v (renamed_statement means s) ≡ dearest_statement by-w s
    statement-counted Null h = refl
    statement-counted (Assign target value) h = refl
    statement-counted (If branches) h = branches-counted branches h
    statement-counted (For name low high body) h = ap (λ z. turn_count low high * (0 + z)) (block-counted body h)
    statement-counted (ExitWhen e) h = refl
    statement-counted (Call object op actuals) h = ap (λ z. 0 + z) (h (record { object = object; op = op }) (inl refl))
    statement-counted (Work n) h = refl
    statement-counted (Put e) h = refl

    pub block-counted : (b : Statements) → Alike (block_calls b) → dearest by-v (renamed means b) ≡ dearest by-w b
    block-counted End h = refl
    block-counted (Then first rest) h =
        ap (λ z. z + dearest by-v (renamed means rest))
        (statement-counted first (λ n k. h n (in-left n (statement_calls first) (block_calls rest) k)))
        ∙ ap (λ z. dearest_statement by-w first + z) (block-counted rest (λ n k. h n (in-right n (statement_calls first) (block_calls rest) k)))

    branches-counted : (bs : Branches) → Alike (branch_calls bs) → dearest_branch by-v (renamed_branches means bs) ≡ dearest_branch by-w bs
    branches-counted Nothing h = refl
    branches-counted (Else b) h = block-counted b h
    branches-counted (When e b others) h =
        ap (λ z. 0 + max z (dearest_branch by-v (renamed_branches means others)))
        (block-counted b (λ n k. h n (in-left n (block_calls b) (branch_calls others) k)))
        ∙ ap (λ z. 0 + max (dearest by-w b) z) (branches-counted others (λ n k. h n (in-right n (block_calls b) (branch_calls others) k)))

-- an operation that a call means
pub record MeantName (x : Design) (c : OpName) : Type 0 where
  pub standing : Standing
  pub stands : IsIn standing (terminals x)
  pub object : c.object ≡ standing.own.name
  pub service : Service
  pub found : service_named (flat_services (flat x)) c.object c.op ≡ Some service
  pub among : IsIn service (services_at x standing.own standing.own.kind)

-- what is inside it: a body of a protected object, or nothing
pub record Inside (x : Design) (c : OpName) (o : Object) (v : Service) : Type 0 where
  pub sort : v.sort ≡ Protected
  pub body : Body
  pub stands : IsIn body o.bodies
  pub block : v.op.block ≡ resolved x body.block
  pub object : filter (λ p. same_name p.name c.object) (protected_objects x) ≡ o ∷ []
  pub bodies : filter (λ b. same_name b.name c.op) o.bodies ≡ body ∷ []

pub record Silent (x : Design) (c : OpName) (v : Service) : Type 0 where
  pub sort : (v.sort ≡ Plain) ⊎ (v.sort ≡ Request)
  pub object : filter (λ p. same_name p.name c.object) (protected_objects x) ≡ []

module _ (written x : Design) (met : AreMet written x) where
  pub needed-meant : (o : Object) (b : Statements) → AreNeeded x o b → (n : OpName) → IsIn n (block_calls b) → MeantName x (resolve x n)
  needed-meant o b needed n h =
      let k : Needed x o n = needed-call x o b needed n h in
      let m : Meant x n k.provided = meant x (kept written x met) n k.provided k.there in
      record { standing = m.standing; stands = m.stands; object = m.object; service = m.service; found = m.found; among = m.among }

  protected-names : are_distinct (map (λ (o : Object). o.name) (protected_objects x)) ≡ true
  protected-names =
      ap are_distinct (map-map (λ (o : Object). o.name) (λ (s : Standing). s.own) (filter (λ s. is_protected s.own.kind) (terminals x)))
      ∙ distinct-filter (λ (s : Standing). s.own.name) (λ s. is_protected s.own.kind) (terminals x) (terminal-names x (no-clash written x met))

  -- no protected object has the name of another terminal object
  other-name : (s : Standing) (n : Name) → IsIn s (terminals x) → is_protected s.own.kind ≡ false → n ≡ s.own.name
      → filter (λ (p : Object). same_name p.name n) (protected_objects x) ≡ []
  other-name s n h k e = filter-none (λ (p : Object). same_name p.name n) (protected_objects x) (λ o j. differ-if o.name n (λ q. apart o j q))
    where
      apart : (o : Object) → IsIn o (protected_objects x) → o.name ≡ n → ⊥
      apart o j q =
          let r = from-map (λ (z : Standing). z.own) (filter (λ z. is_protected z.own.kind) (terminals x)) o j in
          let t = in-filter (λ (z : Standing). is_protected z.own.kind) r.0 (terminals x) r.1 in
          let same : r.0 ≡ s = key-eq (λ (z : Standing). z.own.name) (terminals x) (terminal-names x (no-clash written x met)) r.0 s t.0 h
          (ap (λ (z : Object). z.name) (sym r.2) ∙ q ∙ e) in
          let z : true ≡ false = sym t.1 ∙ ap (λ (y : Standing). is_protected y.own.kind) same ∙ k in cc

  request-sort : (name : Name) (r : Option Signature) (v : Service) → IsIn v (request_services name r) → v.sort ≡ Request
  request-sort name None v h = absurd h
  request-sort name (Some sig) v (inl e) = ap (λ (w : Service). w.sort) (sym e)
  request-sort name (Some sig) v (inr h) = absurd h

  pub inside : (c : OpName) (m : MeantName x c) → Inside x c m.standing.own m.service ⊎ Silent x c m.service
  inside c m = by m.standing.own.kind refl m.among
    where
      name : m.service.op.sig.name ≡ c.op
      name = same-is m.service.op.sig.name c.op (and_parts (same_name m.service.object c.object) _
          (found-in (is_service c.object c.op) (flat_services (flat x)) m.service m.found).1).1

      f : Fitted m.standing.own
      f = fitted x m.standing (kept written x met).fit m.stands

      by : (k : Kind) → m.standing.own.kind ≡ k → IsIn m.service (services_at x m.standing.own k)
          → Inside x c m.standing.own m.service ⊎ Silent x c m.service
      by kind.Passive e j =
          let r = from-map (λ z. record { object = m.standing.own.name; sort = Plain; op = z }) (operations x m.standing.own) m.service j in
          inr (record {
            sort = inl (ap (λ (w : Service). w.sort) r.2);
            object = other-name m.standing c.object m.stands (ap is_protected e) m.object;
          })
      by kind.Sporadic e j =
          inr (record {
            sort = inr (request-sort m.standing.own.name _ m.service j);
            object = other-name m.standing c.object m.stands (ap is_protected e) m.object;
          })
      by kind.Cyclic e j = absurd j
      by kind.Active e j = absurd j
      by kind.Protected e j =
          let r = from-map (λ z. record { object = m.standing.own.name; sort = Protected; op = z }) (operations x m.standing.own) m.service j in
          let o = operation-from x m.standing.own r.0 r.1 in
          let at = found-in (λ b. same_name b.name o.provided.sig.name) m.standing.own.bodies o.body o.named in
          let head : o.provided.sig.name ≡ c.op
          = ap (λ (z : Operation). z.sig.name) (sym o.made) ∙ ap (λ (w : Service). w.op.sig.name) (sym r.2) ∙ name in
          let count : body_count m.standing.own o.provided.sig.name ≡ wanted_bodies m.standing.own o.provided =
          eqb-true _ _ (not-false _ (none-in (λ q. not (body_count m.standing.own q.sig.name == wanted_bodies m.standing.own q)) o.provided
          m.standing.own.provides f.bodies o.provides)) in
          let plain : is_sporadic m.standing.own.kind ≡ false = ap is_sporadic e in
          let one : wanted_bodies m.standing.own o.provided ≡ 1 = rw plain refl in
          let many : length (filter (λ b. same_name b.name c.op) m.standing.own.bodies) ≡ 1
          = ap (body_count m.standing.own) (sym head) ∙ count ∙ one in
          inl (record {
            sort = ap (λ (w : Service). w.sort) r.2;
            body = o.body;
            stands = at.0;
            block = ap (λ (w : Service). w.op.block) r.2 ∙ ap (λ (z : Operation). z.block) o.made;
            object = filter-key (λ (z : Object). z.name) c.object (protected_objects x) m.standing.own protected-names
                (in-map (λ (z : Standing). z.own) m.standing (filter (λ z. is_protected z.own.kind) (terminals x))
                (filter-in (λ z. is_protected z.own.kind) m.standing (terminals x) m.stands (ap is_protected e))) (sym m.object);
            bodies = one-only (filter (λ b. same_name b.name c.op) m.standing.own.bodies) o.body many
                (filter-in (λ b. same_name b.name c.op) o.body m.standing.own.bodies at.0
                (is-same o.body.name c.op (same-is o.body.name o.provided.sig.name at.1 ∙ head)));
          })

  -- each call of a needed block is required, so what is meant is what is called
  pub meant-all : (o : Object) (b : Statements) → AreNeeded x o b → meant_calls x o b ≡ block_calls (resolved x b)
  meant-all o b needed =
      ap (map (resolve x)) (filter-all (requires o) (block_calls b)
      (λ n h. any-in (same_op n) n o.needs (needed-call x o b needed n h).needs (same_op-refl n)))
      ∙ sym (block_calls-renamed (resolve x) b)

  -- what a needed block calls in the flat design
  pub meant-of : (o : Object) (b : Statements) → AreNeeded x o b → (e : OpName) → IsIn e (block_calls (resolved x b)) → MeantName x e
  meant-of o b needed e h =
      let P : List OpName → Type 0 = λ z. IsIn e z in
      let r = from-map (resolve x) (block_calls b) e (subst P (block_calls-renamed (resolve x) b) h) in
      let Q : OpName → Type 0 = λ z. MeantName x z in subst Q (sym r.2) (needed-meant o b needed r.0 r.1)

  -- what a call leads to
  pub within-same : (d : ℕ) (c : OpName) → MeantName x c → flatly.calls_within d (flat_services (flat x)) c ≡ calls_within d x c
  within-same zero c m = refl
  within-same (suc d) c m =
      ap (λ z. c ∷ service_calls (flatly.calls_within d (flat_services (flat x))) z) m.found ∙ ap (λ z. c ∷ z) (by (within-same d) (inside c m))
    where
      by : ((e : OpName) → MeantName x e → flatly.calls_within d (flat_services (flat x)) e ≡ calls_within d x e)
          → Inside x c m.standing.own m.service ⊎ Silent x c m.service
          → calls_by (flatly.calls_within d (flat_services (flat x))) m.service.sort m.service.op ≡ flat_map (calls_within d x) (inner_calls x c)
      by rest (inr s) = silent s.sort ∙ ap (λ z. flat_map (calls_within d x) (flat_map (λ o. operation_calls x o c.op) z)) (sym s.object)
        where
          silent : (m.service.sort ≡ Plain) ⊎ (m.service.sort ≡ Request)
              → calls_by (flatly.calls_within d (flat_services (flat x))) m.service.sort m.service.op ≡ []
          silent (inl e) = ap (λ z. calls_by (flatly.calls_within d (flat_services (flat x))) z m.service.op) e
          silent (inr e) = ap (λ z. calls_by (flatly.calls_within d (flat_services (flat x))) z m.service.op) e
      by rest (inl i) =
          let needed : AreNeeded x m.standing.own i.body.block
          = body-needed written x met m.standing i.body (terminal-object x m.standing m.stands).0 i.stands in
          let inner : inner_calls x c ≡ block_calls (resolved x i.body.block) =
          ap (λ z. flat_map (λ o. operation_calls x o c.op) z) i.object ∙ append-nil (operation_calls x m.standing.own c.op)
          ∙ ap (λ z. flat_map (λ b. meant_calls x m.standing.own b.block) z) i.bodies ∙ append-nil
          (meant_calls x m.standing.own i.body.block) ∙ meant-all m.standing.own i.body.block needed in
          ap (λ z. calls_by (flatly.calls_within d (flat_services (flat x))) z m.service.op) i.sort
          ∙ ap (λ z. flat_map (flatly.calls_within d (flat_services (flat x))) (block_calls z)) i.block
          ∙ flat-same (flatly.calls_within d (flat_services (flat x))) (calls_within d x) (block_calls (resolved x i.body.block))
          (λ e h. rest e (meant-of m.standing.own i.body.block needed e h))
          ∙ ap (flat_map (calls_within d x)) (sym inner)

  -- where both count down the same depth, a thread can request just what it can start
  pub can-same : (s : Standing) (b : Statements) (to : Object) → length (flat_services (flat x)) ≡ length (terminal_ops x) → IsIn s (objects x)
      → s.own.thread ≡ Some b → AreNeeded x s.own b → is_sporadic to.kind ≡ true
      → can_request (flat_services (flat x)) to.name (resolved x b) ≡ can_start x s.own to
  can-same s b to long h e needed sort =
      ap (list_any (λ c. same_name c.object to.name)) calls ∙ ap (λ z. z
      && list_any (λ c. same_name c.object to.name) (thread_calls x s.own)) (sym sort)
    where
      calls : flatly.all_calls (flat_services (flat x)) (resolved x b) ≡ thread_calls x s.own
      calls =
          ap (λ d. flat_map (flatly.calls_within d (flat_services (flat x))) (block_calls (resolved x b))) long
          ∙ flat-same (flatly.calls_within (length (terminal_ops x)) (flat_services (flat x))) (calls_within (length (terminal_ops x)) x)
          (block_calls (resolved x b)) (λ c k. within-same (length (terminal_ops x)) c (meant-of s.own b needed c k))
          ∙ ap (flat_map (calls_within (length (terminal_ops x)) x)) (sym (append-nil (meant_calls x s.own b) ∙ meant-all s.own b needed))
          ∙ ap (λ t. flat_map (calls_within (length (terminal_ops x)) x) (flat_map (meant_calls x s.own) (option_to_list t))) (sym e)
