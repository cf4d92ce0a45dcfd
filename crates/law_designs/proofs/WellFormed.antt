-- The flat design of a design that meets the rules is well formed, and its bodies are within the greatest cost.
use Rattle.std.proofs.Common.{◌≡◌, ℕ, ◌+◌, ◌≤◌, true, List, [], ◌∷◌, ◌++◌, map, filter, filter_map, flat_map, length, nat_le, Option, Some, None}
use Rattle.std.proofs.Common.{option_map, option_and_then, refl, sym, ap, subst, ◌∙◌, arith, inl, inr, ◌⊎◌, if◌then◌else◌}
use Rattle.std.proofs.lemmas.Bool.{not-false, ltb-false, eq-eqb}
use Rattle.std.specs.List.{list_all, cons_option}
use Rattle.std.proofs.lemmas.List.{length-append, length-map}
use Rattle.seq_tree.specs.Limits.{tick_limit}
use Rattle.seq_tree.specs.Names.{same_name, are_distinct}
use Rattle.seq_tree.specs.Statements.{Statements}
use Rattle.seq_tree.specs.Operations.{Operation}
use Rattle.seq_tree.specs.Calls.{block_calls}
use Rattle.seq_tree.specs.declared.tree.OpName.{OpName}
use Rattle.ods_tree.specs.Designs.{Provided, Body, Object, Design}
use Rattle.ods_tree.specs.Walk.{Standing, objects, terminals}
use Rattle.ods_tree.specs.Links.{resolve, resolved}
use Rattle.ods_tree.specs.Ticks.{stated_priorities}
use Rattle.ods_tree.specs.Flats.{Library, Guarded, Timing, Thread}
use Rattle.ods_tree.specs.Flattening.{body_named, operation_by, operations, timing_by, thread_by, is_passive, is_protected, libraries, guarded}
use Rattle.ods_tree.specs.Flattening.{threads, flat, thread_at}
use Rattle.ods_tree.specs.Services.{Plain, Service, service_named, flat_services}
use Rattle.ods_tree.specs.Sound.{IsWellFormed, entry_names, entry_ops, blocks, Counted, counted_calls, is_answered, matches, is_plain_service}
use Rattle.ods_tree.specs.Sound.{calls_plain, is_plain, is_in_range}
use Rattle.ods_tree.specs.declared.design.Kind.{Kind}
use Rattle.ods_tree.specs.declared.design.Kind.TheVariants as kind
use Rattle.ods_tree.specs.declared.design.Constraint.{Constraint}
use Rattle.analysis.specs.Execution.{block_cost}
use Rattle.analysis.specs.Tables.{activation_cost}
use Rattle.design_rules.specs.Lookups.{has_thread}
use Rattle.design_rules.specs.Uses.{may_call, is_forbidden}
use Rattle.design_rules.specs.Budgets.{thread_limit}
use Rattle.design_rules.specs.Rings.{thread_objects}
use Rattle.design_rules.specs.Rules.{AreMet}
use Rattle.law_designs.proofs.Shared.Lists.{in-cases, from-map, all-from, distinct-taken}
use Rattle.law_designs.proofs.Renaming.{same_params-length, block_calls-renamed}
use Rattle.law_designs.proofs.Shapes.{counted_name, counted_as, counted-renamed}
use Rattle.law_designs.proofs.Shared.Flattened.{library_by, guarded_by, library-from, guarded-from, operation-from, ThreadFrom, thread-from}
use Rattle.law_designs.proofs.Shared.Flattened.{terminal-object, timed-kind}
use Rattle.law_designs.proofs.Shared.ObjectRules.{no-clash, needs-allowed, costs-right, thread-count, object-count, body-cheap, thread-cheap}
use Rattle.law_designs.proofs.Shared.ObjectNames.{flat-names, op-names}
use Rattle.law_designs.proofs.Shared.Served.{Meant, meant}
use Rattle.law_designs.proofs.Shared.Blocks.{Needed, NeededCall, AreNeeded, needed-call, kept, Written, body-needed, operation-written}
use Rattle.law_designs.proofs.Shared.Blocks.{thread-written}
use Rattle.law_designs.proofs.Numbers.{at-most-filter, terminals-at-most, thread-range}
use Rattle.law_lists.proofs.Shared.Lists.{IsIn, in-some, found-in}

-- at most one of three takes each thing
abbrev one : {A : Type 0} → Option A → ℕ
one None = 0
one (Some a) = 1

three-at-most : {A B C D : Type 0} (f : A → Option B) (g : A → Option C) (h : A → Option D) (xs : List A)
    → ((a : A) → one (f a) + (one (g a) + one (h a)) ≤ 1)
    → length (filter_map f xs) + (length (filter_map g xs) + length (filter_map h xs)) ≤ length xs
three-at-most f g h [] most = omega arith
three-at-most {A} {B} {C} {D} f g h (x ∷ xs) most =
    let rest = three-at-most f g h xs most in
    let a = counted (f x) (filter_map f xs) in
    let b = counted (g x) (filter_map g xs) in
    let c = counted (h x) (filter_map h xs) in
    let m = most x in
    omega (arith, rest, a, b, c, m)
  where
    counted : {E : Type 0} (o : Option E) (ys : List E) → length (cons_option o ys) ≡ one o + length ys
    counted None ys = omega arith
    counted (Some e) ys = omega arith

limit-at-most : (r : Option (ℕ × ℕ)) → thread_limit r ≤ 30
limit-at-most None = omega arith
limit-at-most (Some r) = omega arith

module _ (x : Design) where
  thread-kind : (s : Standing) (t : Thread) → thread_by x s.own ≡ Some t → has_thread s.own.kind ≡ true
  thread-kind s t e = by (timing_by s.own.kind s.own) refl e
    where
      by : (u : Option Timing) → timing_by s.own.kind s.own ≡ u → option_and_then (λ v. option_map (thread_at x s.own v) s.own.thread) u ≡ Some t
          → has_thread s.own.kind ≡ true
      by None k f = (let z : None ≡ Some t = f in cc)
      by (Some v) k f = timed-kind has_thread true s.own v refl refl k

  one-entry : (s : Standing) → one (if is_passive s.own.kind then Some (library_by x s.own) else None)
      + (one (if is_protected s.own.kind then Some (guarded_by x s.own) else None) + one (thread_by x s.own)) ≤ 1
  one-entry s = by s.own.kind
    where
      at-most : {E : Type 0} (o : Option E) → one o ≤ 1
      at-most None = omega arith
      at-most (Some e) = omega arith

      by : (k : Kind) → one (if is_passive k then Some (library_by x s.own) else None)
          + (one (if is_protected k then Some (guarded_by x s.own) else None)
          + one (option_and_then (λ v. option_map (thread_at x s.own v) s.own.thread) (timing_by k s.own))) ≤ 1
      by kind.Passive = omega arith
      by kind.Active = omega arith
      by kind.Protected = omega arith
      by kind.Cyclic = (let m = at-most (option_and_then (λ v. option_map (thread_at x s.own v) s.own.thread) (timing_by kind.Cyclic s.own))
          in omega (arith, m))
      by kind.Sporadic = (let m = at-most (option_and_then (λ v. option_map (thread_at x s.own v) s.own.thread) (timing_by kind.Sporadic s.own))
          in omega (arith, m))

-- no more threads than objects with one
pub threads-at-most : (x : Design) → length (threads x) ≤ length (thread_objects x)
threads-at-most x =
    let a = at-most-filter (λ s. thread_by x s.own) (λ s. has_thread s.own.kind) (terminals x) (λ s t e. thread-kind x s t e) in
    let b : length (thread_objects x) ≡ length (filter (λ s. has_thread s.own.kind) (terminals x))
    = length-map (filter (λ s. has_thread s.own.kind) (terminals x)) (λ (s : Standing). s.own) in
    omega (arith, a, b)

-- the operations of an entry are those of a terminal object
pub record OpsFrom (x : Design) (ops : List Operation) : Type 0 where
  pub standing : Standing
  pub stands : IsIn standing (terminals x)
  pub made : ops ≡ operations x standing.own

pub ops-from : (x : Design) (ops : List Operation) → IsIn ops (entry_ops (flat x)) → OpsFrom x ops
ops-from x ops h = by (in-cases (map (λ (l : Library). l.ops) (libraries x)) (map (λ (g : Guarded). g.ops) (guarded x)) ops h)
  where
    by : IsIn ops (map (λ (l : Library). l.ops) (libraries x)) ⊎ IsIn ops (map (λ (g : Guarded). g.ops) (guarded x)) → OpsFrom x ops
    by (inl k) =
        let r = from-map (λ (l : Library). l.ops) (libraries x) ops k in
        let s = library-from x r.0 r.1 in
        record { standing = s.0; stands = s.1; made = r.2 ∙ ap (λ (l : Library). l.ops) s.3 }
    by (inr k) =
        let r = from-map (λ (g : Guarded). g.ops) (guarded x) ops k in
        let s = guarded-from x r.0 r.1 in
        record { standing = s.0; stands = s.1; made = r.2 ∙ ap (λ (g : Guarded). g.ops) s.3 }

none-of : (k : Kind) (c : Option Constraint) → is_passive k ≡ true → may_call k c ≡ true → c ≡ None
none-of kind.Passive None e h = refl
none-of kind.Passive (Some c) e h = cc
none-of kind.Active c e h = cc
none-of kind.Protected c e h = cc
none-of kind.Cyclic c e h = cc
none-of kind.Sporadic c e h = cc

module _ (written x : Design) (met : AreMet written x) where
  op_names-right : list_all (λ ops. are_distinct (map (λ (o : Operation). o.sig.name) ops)) (entry_ops (flat x)) ≡ true
  op_names-right = all-from (λ ops. are_distinct (map (λ (o : Operation). o.sig.name) ops)) (entry_ops (flat x)) (λ ops h. at ops (ops-from x ops h))
    where
      kept-name : (o : Object) (p : Provided) (e : Operation) → option_map (operation_by x p.sig) (body_named p.sig.name o.bodies) ≡ Some e
          → e.sig.name ≡ p.sig.name
      kept-name o p e = by (body_named p.sig.name o.bodies)
        where
          by : (b : Option Body) → option_map (operation_by x p.sig) b ≡ Some e → e.sig.name ≡ p.sig.name
          by None k = (let z : None ≡ Some e = k in cc)
          by (Some b) k = (let z : Some (operation_by x p.sig b) ≡ Some e = k in let same : operation_by x p.sig b ≡ e = cc
              in ap (λ (o : Operation). o.sig.name) (sym same))

      at : (ops : List Operation) → OpsFrom x ops → are_distinct (map (λ (o : Operation). o.sig.name) ops) ≡ true
      at ops r =
          ap (λ z. are_distinct (map (λ (o : Operation). o.sig.name) z)) r.made
          ∙ distinct-taken (λ (p : Provided). p.sig.name) (λ (o : Operation). o.sig.name)
          (λ p. option_map (operation_by x p.sig) (body_named p.sig.name r.standing.own.bodies)) r.standing.own.provides
          (λ p e k. kept-name r.standing.own p e k) (op-names x r.standing (no-clash written x met) (terminal-object x r.standing r.stands).0)

  pub few-threads : length (threads x) ≤ 30
  few-threads =
      let a = at-most-filter (λ s. thread_by x s.own) (λ s. has_thread s.own.kind) (terminals x) (λ s t e. thread-kind x s t e) in
      let b : length (thread_objects x) ≡ length (filter (λ s. has_thread s.own.kind) (terminals x))
      = length-map (filter (λ s. has_thread s.own.kind) (terminals x)) (λ (s : Standing). s.own) in
      let c = ltb-false (thread_limit (stated_priorities x)) (length (thread_objects x)) (thread-count written x met) in
      let d = limit-at-most (stated_priorities x) in
      omega (arith, a, b, c, d)

  pub few-entries : length (entry_names (flat x)) ≤ 500
  few-entries =
      let a = three-at-most (λ s. if is_passive s.own.kind then Some (library_by x s.own) else None)
      (λ s. if is_protected s.own.kind then Some (guarded_by x s.own) else None) (λ s. thread_by x s.own) (terminals x) (one-entry x) in
      let b = length-append (map (λ (l : Library). l.name) (libraries x)) (map (λ (g : Guarded). g.name) (guarded x)
      ++ map (λ (t : Thread). t.name) (threads x)) in
      let c = length-append (map (λ (g : Guarded). g.name) (guarded x)) (map (λ (t : Thread). t.name) (threads x)) in
      let d = length-map (libraries x) (λ (l : Library). l.name) in
      let e = length-map (guarded x) (λ (g : Guarded). g.name) in
      let f = length-map (threads x) (λ (t : Thread). t.name) in
      let g = terminals-at-most x in
      let i = ltb-false 500 (length (objects x)) (object-count written x met) in
      omega (arith, a, b, c, d, e, f, g, i)

  -- each call, read by what it means, is answered
  pub answered : (o : Object) (b : Statements) → AreNeeded x o b
      → list_all (is_answered (flat_services (flat x))) (counted_calls (resolved x b)) ≡ true
  answered o b needed = ap (list_all (is_answered (flat_services (flat x)))) (counted-renamed (resolve x) b)
      ∙ all-from (is_answered (flat_services (flat x))) (map (counted_as (resolve x)) (counted_calls b))
      (λ k h. at k (from-map (counted_as (resolve x)) (counted_calls b) k h))
    where
      at : (k : Counted) → (j : Counted) × IsIn j (counted_calls b) × (k ≡ counted_as (resolve x) j) → is_answered (flat_services (flat x)) k ≡ true
      at k (j, h, e) =
          let n : NeededCall x o j = needed j h in
          let m : Meant x (counted_name j) n.needed.provided = meant x (kept written x met) (counted_name j) n.needed.provided n.needed.there in
          ap (is_answered (flat_services (flat x))) e ∙ ap (λ s. matches s j.count) m.found
          ∙ eq-eqb j.count (length m.service.op.sig.params)
          (sym n.count ∙ same_params-length n.needed.provided.sig.params m.service.op.sig.params m.params)

  block-written : (b : Statements) → IsIn b (blocks (flat x)) → Written written x met b
  block-written b h = by (in-cases (flat_map (λ ops. map (λ (o : Operation). o.block) ops) (entry_ops (flat x)))
      (map (λ (t : Thread). t.block) (threads x)) b h)
    where
      by : IsIn b (flat_map (λ ops. map (λ (o : Operation). o.block) ops) (entry_ops (flat x))) ⊎ IsIn b (map (λ (t : Thread). t.block) (threads x))
          → Written written x met b
      by (inl k) =
          let r = in-some (λ ops. map (λ (o : Operation). o.block) ops) (entry_ops (flat x)) b k in
          let s = ops-from x r.0 r.1 in
          let e = from-map (λ (o : Operation). o.block) r.0 b r.2 in
          let P : List Operation → Type 0 = λ z. IsIn e.0 z in
          let Q : Statements → Type 0 = λ z. Written written x met z in
          subst Q (sym e.2) (operation-written written x met s.standing e.0 s.stands (subst P s.made e.1))
      by (inr k) =
          let r = from-map (λ (t : Thread). t.block) (threads x) b k in
          let Q : Statements → Type 0 = λ z. Written written x met z in
          subst Q (sym r.2) (thread-written written x met r.0 r.1)

  calls-right : list_all (λ b. list_all (is_answered (flat_services (flat x))) (counted_calls b)) (blocks (flat x)) ≡ true
  calls-right = all-from (λ b. list_all (is_answered (flat_services (flat x))) (counted_calls b)) (blocks (flat x)) (λ b h. at b (block-written b h))
    where
      at : (b : Statements) → Written written x met b → list_all (is_answered (flat_services (flat x))) (counted_calls b) ≡ true
      at b w = ap (λ z. list_all (is_answered (flat_services (flat x))) (counted_calls z)) w.means ∙ answered w.standing.own w.block w.needed

  -- passive operations call plain ones alone
  pub passive-plain-calls : (s : Standing) (b : Statements) → IsIn s (objects x) → is_passive s.own.kind ≡ true → AreNeeded x s.own b → (c : OpName)
      → IsIn c (block_calls (resolved x b))
      → (v : Service) × (service_named (flat_services (flat x)) c.object c.op ≡ Some v) × (v.sort ≡ Plain)
  passive-plain-calls s b h p needed c j =
      let P : List OpName → Type 0 = λ z. IsIn c z in
      let r = from-map (resolve x) (block_calls b) c (subst P (block_calls-renamed (resolve x) b) j) in
      let n : Needed x s.own r.0 = needed-call x s.own b needed r.0 r.1 in
      let m : Meant x r.0 n.provided = meant x (kept written x met) r.0 n.provided n.there in
      let allowed : may_call s.own.kind n.provided.constraint ≡ true
      = not-false _ (ap (is_forbidden s.own.kind) (sym n.there) ∙ needs-allowed written x met s r.0 h n.needs) in (
        m.service,
        ap (λ z. service_named (flat_services (flat x)) z.object z.op) r.2 ∙ m.found,
        m.plain (none-of s.own.kind n.provided.constraint
            p allowed),
      )

  plain-right : list_all (λ l. list_all (λ o. calls_plain (flat_services (flat x)) o.block) l.ops) (libraries x) ≡ true
  plain-right = all-from (λ (l : Library). list_all (λ o. calls_plain (flat_services (flat x)) o.block) l.ops) (libraries x)
      (λ l h. all-from (λ (o : Operation). calls_plain (flat_services (flat x)) o.block) l.ops (λ e j. at l e h j))
    where
      sure : (v : Service) → v.sort ≡ Plain → is_plain v.sort ≡ true
      sure v e = ap is_plain e

      at : (l : Library) (e : Operation) → IsIn l (libraries x) → IsIn e l.ops → calls_plain (flat_services (flat x)) e.block ≡ true
      at l e h j =
          let s = library-from x l h in
          let P : List Operation → Type 0 = λ z. IsIn e z in
          let r = operation-from x s.0.own e (subst P (ap (λ (k : Library). k.ops) s.3) j) in
          let object = (terminal-object x s.0 s.1).0 in
          let needed = body-needed written x met s.0 r.body object
          (found-in (λ b. same_name b.name r.provided.sig.name) s.0.own.bodies r.body r.named).0 in
          ap (λ (o : Operation). calls_plain (flat_services (flat x)) o.block) r.made
          ∙ all-from (λ c. is_plain_service (service_named (flat_services (flat x)) c.object c.op)) (block_calls (resolved x r.body.block))
          (λ c i. let v = passive-plain-calls s.0 r.body.block object s.2 needed c i in ap is_plain_service v.1 ∙ sure v.0 v.2)

  pub formed : IsWellFormed (flat x)
  formed = record {
    names = flat-names x (no-clash written x met);
    op_names = op_names-right;
    thread_count = few-threads;
    entry_count = few-entries;
    costs = costs-right written x met;
    ranges = all-from is_in_range (threads x) (thread-range written x met);
    calls = calls-right;
    plain = plain-right;
  }

  pub op_costs-right : list_all (λ ops. list_all (λ (o : Operation). nat_le (block_cost x.costs (flat_services (flat x)) o.block) tick_limit) ops)
      (entry_ops (flat x)) ≡ true
  op_costs-right = all-from _ (entry_ops (flat x))
      (λ ops h. all-from (λ (o : Operation). nat_le (block_cost x.costs (flat_services (flat x)) o.block) tick_limit) ops
      (λ e j. at ops e (ops-from x ops h) j))
    where
      at : (ops : List Operation) (e : Operation) → OpsFrom x ops → IsIn e ops
          → nat_le (block_cost x.costs (flat_services (flat x)) e.block) tick_limit ≡ true
      at ops e s j =
          let P : List Operation → Type 0 = λ z. IsIn e z in
          let r = operation-from x s.standing.own e (subst P s.made j) in
          ap (λ (o : Operation). nat_le (block_cost x.costs (flat_services (flat x)) o.block) tick_limit) r.made
          ∙ body-cheap written x met s.standing r.body s.stands
          (found-in (λ b. same_name b.name r.provided.sig.name) s.standing.own.bodies r.body r.named).0

  pub thread_costs-right : list_all (λ t. nat_le (activation_cost (flat x) t) tick_limit) (threads x) ≡ true
  thread_costs-right = all-from (λ t. nat_le (activation_cost (flat x) t) tick_limit) (threads x) (λ t h. at t (thread-from x t h))
    where
      at : (t : Thread) → ThreadFrom x t → nat_le (activation_cost (flat x) t) tick_limit ≡ true
      at t r = ap (λ u. nat_le (activation_cost (flat x) u) tick_limit) r.made ∙ thread-cheap written x met r.standing r.block r.stands r.runs
