-- What tasks can call, in their blocks or through protected operations: it is closed under what the bodies of protected operations call.
use Rattle.std.specs.Prelude.{◌≡◌, ℕ, zero, suc, true, ◌&&◌, List, [], ◌∷◌, ◌++◌, map, filter, flat_map, length, refl}
use Rattle.std.specs.List.{list_any}
use Rattle.std.proofs.Common.{sym, ◌∙◌, ap, ap₂, subst, inl}
use Rattle.std.proofs.lemmas.List.{length-map}
use Rattle.std.proofs.lemmas.Bool.{and_parts}
use Rattle.seq_tree.specs.Names.{same_name}
use Rattle.seq_tree.specs.Operations.{Operation, Offer}
use Rattle.seq_tree.specs.Calls.{same_op, block_calls}
use Rattle.seq_tree.specs.declared.tree.OpName.{OpName}
use Rattle.seq_tree.proofs.Shared.Walks.{LeadOn, within, same_op-refl}
use Rattle.ada_tree.specs.Programs.{Form, Unit, Program, Passive, Shared, Cyclic, Sporadic, is_task}
use Rattle.ada_tree.specs.Bodies.{heads, offers}
use Rattle.ada_tree.specs.Naming.{calls_of}
use Rattle.ada_tree.specs.Uses.{shared_ops, ops_of_shared, shared_named, calls_within, task_calls, is_requested}
use Rattle.law_lists.proofs.Shared.Facts.{same-is}
use Rattle.law_lists.proofs.Shared.Lists.{IsIn, at-in, in-map, in-flat, in-some, in-filter, any-in, any-at}
use Rattle.law_lists.proofs.Shared.Reaching.{among-is, within-closed}

-- a protected operation of this name in a unit
pub record IsShared (p : Program) (c : OpName) (op : Operation) : Type 0 where
  pub unit : Unit
  pub among : IsIn unit p.units
  pub named : unit.name ≡ c.object
  pub holds : IsIn op (shared_ops unit.form)
  pub called : op.sig.name ≡ c.op

pub shared-of : (p : Program) (c : OpName) (o : Operation) → IsIn o (shared_named p c) → IsShared p c o
shared-of p c o h =
    let one = in-filter (λ (q : Operation). same_name q.sig.name c.op) o (ops_of_shared p c.object) h in
    let two = in-some (λ (u : Unit). shared_ops u.form) (filter (λ u. same_name u.name c.object) p.units) o one.0 in
    let three = in-filter (λ (u : Unit). same_name u.name c.object) two.0 p.units two.1 in
    record { unit = two.0; among = three.0; named = same-is two.0.name c.object three.1; holds = two.2; called = same-is o.sig.name c.op one.1 }

offered : (form : Form) (o : Operation) → IsIn o (shared_ops form) → IsIn o.sig (heads form)
offered (Passive ops) o h = absurd h
offered (Shared ceiling vars ops) o h = in-map (λ (q : Operation). q.sig) o ops h
offered (Cyclic priority offset period vars block) o h = absurd h
offered (Sporadic priority ceiling op separation jitter external vars block) o h = absurd h

module _ (p : Program) where
  -- what the bodies of protected operations of a name call
  abbrev pub inner : OpName → List OpName
  inner c = flat_map (λ o. block_calls o.block) (shared_named p c)

  abbrev name_of : Offer → OpName
  name_of o = record { object = o.object; op = o.sig.name }

  -- what calls others through protected operations is among the operations
  lead : LeadOn inner (map name_of (offers p))
  lead a b step =
      let found = in-some (λ (o : Operation). block_calls o.block) (shared_named p a) b (among-is (inner a) b step) in
      let s = shared-of p a found.0 found.1 in
      let offer : Offer = record { object = s.unit.name; sig = found.0.sig } in
      let among : IsIn offer (offers p) =
      in-flat (λ (u : Unit). map (λ h. let x : Offer = record { object = u.name; sig = h } in x) (heads u.form)) s.unit offer p.units s.among
      (in-map (λ h. let x : Offer = record { object = s.unit.name; sig = h }
      in x) found.0.sig (heads s.unit.form) (offered s.unit.form found.0 s.holds)) in
      let is : name_of offer ≡ a = ap (λ n. let x : OpName = record { object = n; op = found.0.sig.name }
      in x) s.named ∙ ap (λ n. record { object = a.object; op = n }) s.called in
      any-in (same_op a) (name_of offer) (map name_of (offers p)) (in-map name_of offer (offers p) among) (ap (same_op a) is ∙ same_op-refl a)

  flat-within : (n : ℕ) (cs : List OpName) → flat_map (calls_within n p) cs ≡ flat_map (within n inner) cs
  flat-within n [] = refl
  flat-within zero (c ∷ cs) = ap (λ ds. c ∷ ds) (flat-within zero cs)
  flat-within (suc n) (c ∷ cs) = ap₂ (λ ds es. c ∷ ds ++ es) (flat-within n (inner c)) (flat-within (suc n) cs)

  -- what a task can call is closed under the bodies of protected operations
  calls-on : (form : Form) (c e : OpName) → IsIn c (task_calls p form) → IsIn e (inner c) → IsIn e (task_calls p form)
  calls-on form c e h called =
      let n = length (offers p) in
      let found = in-some (within n inner) (calls_of form) c (subst (IsIn c) (flat-within n (calls_of form)) h) in
      let next = subst (λ m. IsIn c (within m inner found.0) → IsIn e (within m inner found.0)) (length-map (offers p) name_of)
      (λ k. within-closed inner (map name_of (offers p)) lead found.0 c e k called) found.2 in
      subst (IsIn e) (sym (flat-within n (calls_of form))) (in-flat (within n inner) found.0 e (calls_of form) found.1 next)

  -- what some task can call: the calls of its block, and what protected operations that some task can call call
  requested-by : (u : Unit) → IsIn u p.units → is_task u.form ≡ true → (c : OpName) → IsIn c (task_calls p u.form) → is_requested p c ≡ true
  requested-by u among task c h =
      any-in (λ (v : Unit). is_task v.form && list_any (same_op c) (task_calls p v.form)) u p.units among
      (ap (λ t. t && list_any (same_op c) (task_calls p u.form)) task ∙ any-in (same_op c) c (task_calls p u.form) h (same_op-refl c))

  pub requested-on : (c e : OpName) → is_requested p c ≡ true → IsIn e (inner c) → is_requested p e ≡ true
  requested-on c e h called =
      let task = any-at (λ (u : Unit). is_task u.form && list_any (same_op c) (task_calls p u.form)) p.units h in
      let parts = and_parts (is_task task.1.form) (list_any (same_op c) (task_calls p task.1.form)) task.3 in
      requested-by task.1 (at-in p.units task.0 task.1 task.2) parts.0 e
      (calls-on task.1.form c e (among-is (task_calls p task.1.form) c parts.1) called)

  pub written-requested : (u : Unit) → IsIn u p.units → is_task u.form ≡ true → (c : OpName) → IsIn c (calls_of u.form) → is_requested p c ≡ true
  written-requested u among task c called =
      requested-by u among task c (in-flat (calls_within (length (offers p)) p) c c (calls_of u.form) called (first (length (offers p))))
    where
      first : (n : ℕ) → IsIn c (calls_within n p c)
      first zero = inl refl
      first (suc n) = inl refl
