-- What the rules of a program say of its units: bodies have no fault, passive ones call passive operations alone, numbers are in their ranges.
use Rattle.std.specs.Prelude.{◌≡◌, ◌≤◌, ◌<◌, ℕ, Bool, true, false, ◌&&◌, ◌||◌, nat_lt, List, [], ◌∷◌, map, flat_map, length, slice_get, Option}
use Rattle.std.specs.Prelude.{Some, None, refl}
use Rattle.std.specs.List.{list_any}
use Rattle.std.proofs.Common.{sym, ap, subst, arith, inl, inr}
use Rattle.std.proofs.lemmas.Bool.{or_parts, false_from_ne_true}
use Rattle.seq_tree.specs.Limits.{tick_limit}
use Rattle.seq_tree.specs.Faults.{BodyFault, block_fault}
use Rattle.seq_tree.specs.Calls.{block_calls, block_works}
use Rattle.seq_tree.specs.declared.tree.OpName.{OpName}
use Rattle.ada_tree.specs.Programs.{Form, Unit, Program, Cyclic, Sporadic, is_task}
use Rattle.ada_tree.specs.Bodies.{Body, op_body, bodies, scope, bodies_fault, unit_fault, heads}
use Rattle.ada_tree.specs.Naming.{calls_of}
use Rattle.ada_tree.specs.Uses.{is_confined, passive_named, is_empty, breaks_uses, breaks_external}
use Rattle.ada_tree.specs.Ranges.{breaks_ranges, numbers_break, is_outside, jitter_breaks, costs_break, whole_breaks}
use Rattle.ada_tree.specs.Rules.{Uses, Bodies, Ranges, Externals, At, Whole, MeetsRules}
use Rattle.seq_tree.specs.Operations.{Operation, Signature}
use Rattle.arrivals_tree.specs.Arriving.{Arrivals}
use Rattle.machine.specs.Systems.{TaskUnit, ProtectedUnit, ReleasePattern, Periodic, Requested, system}
use Rattle.law_lists.proofs.Shared.Facts.{or_else-none}
use Rattle.law_lists.proofs.Shared.Lists.{IsIn, at-in, in-map, in-flat, none-in}
use Rattle.law_calls.proofs.Shared.Systems.{thread_form, object-at, thread-at}

-- the bodies of a form
pub bodies-fault : (p : Program) (form : Form) (bs : List Body) (b : Body) → bodies_fault p form bs ≡ None → IsIn b bs
    → block_fault (scope p form b) b.block ≡ None
bodies-fault p form [] b e h = absurd h
bodies-fault p form (c ∷ bs) b e (inl is) =
    let parts = or_else-none (block_fault (scope p form c) c.block) (bodies_fault p form bs) e in
    subst (λ x. block_fault (scope p form x) x.block ≡ None) is parts.0
bodies-fault p form (c ∷ bs) b e (inr h)
    = bodies-fault p form bs b (or_else-none (block_fault (scope p form c) c.block) (bodies_fault p form bs) e).1 h

-- the body of an operation and of a task
pub op-body-in : (form : Form) (ops : List Operation) (j : ℕ) (o : Operation) → bodies form ≡ map op_body ops → slice_get ops j ≡ Some o
    → IsIn (op_body o) (bodies form)
op-body-in form ops j o is at = subst (IsIn (op_body o)) (sym is) (in-map op_body o ops (at-in ops j o at))

pub task-body : (p : Program) (a : Arrivals) (i : ℕ) (t : TaskUnit) → slice_get (system p a).threads i ≡ Some t
    → (k : ℕ) × (u : Unit) × (b : Body) × (slice_get p.units k ≡ Some u) × IsIn b (bodies u.form) × (b.block ≡ t.block) × (is_task u.form ≡ true)
task-body p a i t at =
    let found = thread-at p a i t at in
    let is = found.2 in
    by found.0 found.1 is.stands t.timing is.form
  where
    by : (k : ℕ) (u : Unit) → slice_get p.units k ≡ Some u → (timing : ReleasePattern) → thread_form t timing u.form
        → (k' : ℕ) × (u' : Unit) × (b : Body) × (slice_get p.units k' ≡ Some u') × IsIn b (bodies u'.form) × (b.block ≡ t.block)
        × (is_task u'.form ≡ true)
    by k u stands (Periodic offset period) form = (
      k,
      u,
      record {
        params = [];
        locals = [];
        block = t.block;
      },
      stands,
      subst (λ f. IsIn (record { params = []; locals = []; block = t.block }) (bodies f)) (sym form) (inl refl),
      refl,
      ap is_task form,
    )
    by k u stands (Requested op ceiling separation jitter external) form = (
      k,
      u,
      record {
        params = op.params;
        locals = [];
        block = t.block;
      },
      stands,
      subst (λ f. IsIn (record { params = op.params; locals = []; block = t.block }) (bodies f)) (sym form) (inl refl),
      refl,
      ap is_task form,
    )

-- numbers in their range
within : (n : ℕ) → is_outside 1 60 n ≡ false → n ≤ 60
within n e = let h : nat_lt 60 n ≡ false = (or_parts (nat_lt n 1) (nat_lt 60 n) e).1 in grind arith

module _ (p : Program) (rules : MeetsRules p) where
  uses-kept : (k : ℕ) (u : Unit) → slice_get p.units k ≡ Some u → breaks_uses p u ≡ false
  uses-kept k u at = false_from_ne_true (breaks_uses p u) (λ e. rules Uses (At k) (u, at, e))

  pub ranges-kept : (k : ℕ) (u : Unit) → slice_get p.units k ≡ Some u → breaks_ranges u ≡ false
  ranges-kept k u at = false_from_ne_true (breaks_ranges u) (λ e. rules Ranges (At k) (u, at, e))

  pub externals-kept : (k : ℕ) (u : Unit) → slice_get p.units k ≡ Some u → breaks_external p u.name u.form ≡ false
  externals-kept k u at = false_from_ne_true (breaks_external p u.name u.form) (λ e. rules Externals (At k) (u, at, e))

  pub bodies-kept : (k : ℕ) (u : Unit) → slice_get p.units k ≡ Some u → unit_fault p u ≡ None
  bodies-kept k u at = by (unit_fault p u) refl
    where
      by : (o : Option BodyFault) → unit_fault p u ≡ o → unit_fault p u ≡ None
      by None e = e
      by (Some fault) e = absurd (rules Bodies (At k) (u, at, (fault, e)))

  module _ (k : ℕ) (u : Unit) (at : slice_get p.units k ≡ Some u) (b : Body) (among : IsIn b (bodies u.form)) where
    pub call-in : (x : OpName) → IsIn x (block_calls b.block) → IsIn x (calls_of u.form)
    call-in x h = in-flat (λ c. block_calls c.block) b x (bodies u.form) among h

    -- a body has no fault
    pub body-kept : block_fault (scope p u.form b) b.block ≡ None
    body-kept = bodies-fault p u.form (bodies u.form) b (bodies-kept k u at) among

    -- the calls of a confined body lead to passive operations
    pub call-passive : is_confined u.form ≡ true → (x : OpName) → IsIn x (block_calls b.block) → is_empty (passive_named p x) ≡ false
    call-passive confined x h =
        none-in (λ c. is_empty (passive_named p c)) x (calls_of u.form)
        (subst (λ t. (t && list_any (λ c. is_empty (passive_named p c)) (calls_of u.form)) ≡ false) confined (uses-kept k u at)) (call-in x h)

  -- ranges of numbers
  pub numbers-kept : (k : ℕ) (u : Unit) → slice_get p.units k ≡ Some u → numbers_break u.form ≡ false
  numbers-kept k u at =
      (or_parts (numbers_break u.form) (list_any (λ h. nat_lt 8 (length h.params)) (heads u.form))
      (or_parts (numbers_break u.form || list_any (λ h. nat_lt 8 (length h.params)) (heads u.form))
      (list_any (is_outside 1 tick_limit) (flat_map (λ b. block_works b.block) (bodies u.form)))
      (ranges-kept k u at)).0).0

  pub priority-within : (a : Arrivals) (i : ℕ) (t : TaskUnit) → slice_get (system p a).threads i ≡ Some t → t.priority ≤ 60
  priority-within a i t at =
      let found = thread-at p a i t at in by found.1 (numbers-kept found.0 found.1 (found.2).stands) t.timing (found.2).form
    where
      by : (u : Unit) → numbers_break u.form ≡ false → (x : ReleasePattern) → thread_form t x u.form → t.priority ≤ 60
      by u numbers (Periodic offset period) form =
          let now : numbers_break (Cyclic t.priority offset period t.vars t.block) ≡ false = subst (λ f. numbers_break f ≡ false) form numbers in
          within t.priority (or_parts (is_outside 1 60 t.priority) (is_outside 1 tick_limit period)
          (or_parts (is_outside 1 60 t.priority || is_outside 1 tick_limit period) (nat_lt tick_limit offset) now).0).0
      by u numbers (Requested op ceiling separation jitter external) form =
          let now : numbers_break (Sporadic t.priority ceiling op separation jitter external t.vars t.block) ≡ false
          = subst (λ f. numbers_break f ≡ false) form numbers in
          let one = or_parts (is_outside 1 60 t.priority || is_outside 1 60 ceiling || is_outside 1 tick_limit separation
          || jitter_breaks external separation jitter) (nat_lt ceiling t.priority) now in
          let two = or_parts (is_outside 1 60 t.priority || is_outside 1 60 ceiling || is_outside 1 tick_limit separation)
          (jitter_breaks external separation jitter) one.0 in
          let three = or_parts (is_outside 1 60 t.priority || is_outside 1 60 ceiling) (is_outside 1 tick_limit separation) two.0 in
          within t.priority (or_parts (is_outside 1 60 t.priority) (is_outside 1 60 ceiling) three.0).0

  pub object-within : (a : Arrivals) (i : ℕ) (g : ProtectedUnit) → slice_get (system p a).objects i ≡ Some g → g.ceiling ≤ 60
  object-within a i g at =
      let found = object-at p a i g at in
      within g.ceiling (subst (λ f. numbers_break f ≡ false) (found.2).form (numbers-kept found.0 found.1 (found.2).stands))

  -- the ceiling of a control structure is at least the priority of its task
  pub control-covers : (a : Arrivals) (i : ℕ) (t : TaskUnit) → slice_get (system p a).threads i ≡ Some t
      → (op : Signature) (ceiling separation jitter : ℕ) (external : Bool)
      → t.timing ≡ Requested op ceiling separation jitter external → t.priority ≤ ceiling
  control-covers a i t at op ceiling separation jitter external is =
      let found = thread-at p a i t at in
      let form : found.1.form ≡ Sporadic t.priority ceiling op separation jitter external t.vars t.block
      = subst (λ x. thread_form t x found.1.form) is (found.2).form in
      let numbers : numbers_break (Sporadic t.priority ceiling op separation jitter external t.vars t.block) ≡ false
      = subst (λ f. numbers_break f ≡ false) form (numbers-kept found.0 found.1 (found.2).stands) in
      let above = (or_parts (is_outside 1 60 t.priority || is_outside 1 60 ceiling || is_outside 1 tick_limit separation
      || jitter_breaks external separation jitter) (nat_lt ceiling t.priority) numbers).1 in
      grind (arith, above)

  -- a call costs something
  pub call-costs : 0 < p.costs.call
  call-costs =
      let whole = false_from_ne_true (whole_breaks p) (λ e. rules Ranges Whole e) in
      let costs : costs_break p.costs ≡ false = (or_parts _ _ (or_parts _ _ whole).0).0 in
      let call = none-in (is_outside 1 1000) p.costs.call
      (p.costs.assign ∷ p.costs.test ∷ p.costs.turn ∷ p.costs.call ∷ p.costs.nothing ∷ p.costs.put ∷ p.costs.finish ∷ []) costs
      (inr (inr (inr (inl refl)))) in
      let low : nat_lt p.costs.call 1 ≡ false = (or_parts (nat_lt p.costs.call 1) (nat_lt 1000 p.costs.call) call).0 in
      grind (arith, low)
