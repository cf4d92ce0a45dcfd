-- A task of a program that meets the rules can work over linked code: its calls have as many actuals as what they call has parameters, and the names
-- of what it calls differ.
use Rattle.std.proofs.Common.{◌≡◌, ℕ, zero, suc, ◌+◌, Bool, true, false, not, ◌&&◌, List, [], ◌∷◌, ◌++◌, Option, Some, None, length, map, take}
use Rattle.std.proofs.Common.{refl, ap, sym, subst, ◌∙◌}
use Rattle.std.specs.Prelude.{filter_map, find, flat_map, if◌then◌else◌, slice_get, ⊤}
use Rattle.std.specs.List.{cons_option, enumerate_from, list_any}
use Rattle.std.specs.Option.{option_or}
use Rattle.std.proofs.lemmas.Bool.{or_parts}
use Rattle.std.proofs.lemmas.List.Folds.{find-append, list_any-append}
use Rattle.std.proofs.lemmas.Option.{none-some, same_Some}
use Rattle.seq_tree.specs.Expressions.{Expression}
use Rattle.seq_tree.specs.Faults.{Scope, block_fault}
use Rattle.seq_tree.specs.Lists.{Each, first_from, first_where}
use Rattle.seq_tree.specs.Names.{Name, are_distinct, is_named, same_name}
use Rattle.seq_tree.specs.Operations.{Offer, Operation, Signature}
use Rattle.seq_tree.specs.Statements.{Statements}
use Rattle.seq_tree.specs.Trees.{signature_of}
use Rattle.seq_tree.specs.declared.tree.Datum.{Datum}
use Rattle.seq_tree.proofs.Shared.SameNames.{same-is}
use Rattle.ada_tree.specs.Bodies.{bodies, bodies_fault, data_of, heads, offers, op_body, scope, unit_fault}
use Rattle.ada_tree.specs.Naming.{body_clashes, body_names, breaks_naming, inner_names, own_names}
use Rattle.ada_tree.specs.Programs.{Cyclic, Form, Passive, Program, Shared, Sporadic, Unit}
use Rattle.ada_tree.specs.Proper.{IsProperProgram}
use Rattle.ada_tree.specs.Rules.{At, Bodies, MeetsRules, Naming}
use Rattle.arrivals_tree.specs.declared.arrivals.WorkList.{WorkList}
use Rattle.machine.specs.Systems.{CallTarget, PassiveUnit, Plain, Protected, ProtectedUnit, ReleasePattern, Request, TaskUnit, Unknown, callee}
use Rattle.machine.specs.Systems.{libraries_from, objects_from}
use Rattle.machine.specs.Systems.{library_by, library_or, object_by, object_or, op_named, plain_by, protected_by, request_by, request_if}
use Rattle.machine.specs.Systems as released
use Rattle.linker.specs.Callees.{OpBody}
use Rattle.task_runtime.specs.Libraries.{system_from}
use Rattle.task_runtime.specs.Written.{block_of_thread, form_by, system_of, written_as}
use Rattle.task_runtime.specs.declared.thread.Thread.{Thread}
use Rattle.task_runtime.specs.declared.thread.Timing.{Timing}
use Rattle.task_runtime.specs.declared.thread.Timing.TheVariants as timing
use Rattle.task_runtime.proofs.Shared.Runnable.{can-run, limits, not_some, or_none}
use Rattle.task_runtime.specs.Sounds.{CanWork, FullBlock, IsBodyOf, IsFull, IsTidy}
use Rattle.task_runtime.proofs.Shared.Workable.{can_work, full_block, op_distinct}

no_true : true ≡ false → ⊥
no_true h = cc

not_true : (b : Bool) → (b ≡ true → ⊥) → b ≡ false
not_true true h = absurd (h refl)
not_true false h = refl

not_false : (b : Bool) → not b ≡ false → b ≡ true
not_false true h = refl
not_false false h = absurd (no_true h)

-- what is found among all that is made of units is made of one of them
record IsMade {A : Type 0} (make : ℕ → Unit → Option A) (test : A → Bool) (us : List Unit) (x : A) : Type 0 where
  place : ℕ
  one : Unit
  number : ℕ
  at : slice_get us place ≡ Some one
  makes : make number one ≡ Some x
  passes : test x ≡ true

later : {A : Type 0} (make : ℕ → Unit → Option A) (test : A → Bool) (u : Unit) (us : List Unit) (x : A) → IsMade make test us x
    → IsMade make test (u ∷ us) x
later make test u us x m =
    record { place = suc m.place; one = m.one; number = m.number; at = m.at; makes = m.makes; passes = m.passes }

found_made : {A : Type 0} (make : ℕ → Unit → Option A) (test : A → Bool) (us : List Unit) (n k : ℕ) (x : ℕ × A)
    → first_from k test (filter_map (λ u. make u.0 u.1) (enumerate_from n us)) ≡ Some x → IsMade make test us x.1
found_made make test [] n k x e = absurd (none-some x e)
found_made {A} make test (u ∷ us) n k x e = by_made (make n u) refl (λ j h. found_made make test us (n + 1) j x h) e
  where
    left : List A
    left = filter_map (λ v. make v.0 v.1) (enumerate_from (n + 1) us)

    by_made : (o : Option A) → make n u ≡ o → ((j : ℕ) → first_from j test left ≡ Some x → IsMade make test us x.1)
        → first_from k test (cons_option o left) ≡ Some x → IsMade make test (u ∷ us) x.1
    by_made None g more h = later make test u us x.1 (more k h)
    by_made (Some y) g more h = by_test (test y) refl h
      where
        by_test : (b : Bool) → test y ≡ b → (if b then Some (k, y) else first_from (suc k) test left) ≡ Some x → IsMade make test (u ∷ us) x.1
        by_test true t f =
            let is : y ≡ x.1 = ap (λ (z : ℕ × A). z.1) (same_Some (k, y) x f) in
            record { place = 0; one = u; number = n; at = refl; makes = g ∙ ap Some is; passes = ap test (sym is) ∙ t }
        by_test false t f = later make test u us x.1 (more (suc k) f)

-- what is a fact of each item is one of the first that is found
first_each : {A : Type 0} (P : A → Type 0) (test : A → Bool) (xs : List A) (k : ℕ) (x : ℕ × A) → Each P xs → first_from k test xs ≡ Some x → P x.1
first_each P test [] k x each e = absurd (none-some x e)
first_each {A} P test (y ∷ ys) k x each e = by_test (test y) (λ h. first_each P test ys (suc k) x each.1 h) e
  where
    by_test : (b : Bool) → (first_from (suc k) test ys ≡ Some x → P x.1) → (if b then Some (k, y) else first_from (suc k) test ys) ≡ Some x → P x.1
    by_test true more h = subst P (ap (λ (z : ℕ × A). z.1) (same_Some (k, y) x h)) each.0
    by_test false more h = more h

-- the unit whose operation a call begins
record IsOf (us : List Unit) (unit op : Name) (vars : List Datum) (o : Operation) : Type 0 where
  place : ℕ
  one : Unit
  ops : List Operation
  number : ℕ
  at : slice_get us place ≡ Some one
  named : same_name one.name unit ≡ true
  vars' : data_of one.form ≡ vars
  heads' : heads one.form ≡ map (λ q. q.sig) ops
  bodies' : bodies one.form ≡ map op_body ops
  found : op_named op ops ≡ Some (number, o)

module _ (us : List Unit) (unit op : Name) where
  library_of : (l : PassiveUnit) → IsMade (λ n u. library_by n u.name u.form) (λ l. same_name l.name unit) us l → (k : ℕ) (o : Operation)
      → op_named op l.ops ≡ Some (k, o) → IsOf us unit op [] o
  library_of l m k o found = by_form m.one.form refl m.makes
    where
      by_form : (f : Form) → m.one.form ≡ f → library_by m.number m.one.name f ≡ Some l → IsOf us unit op [] o
      by_form (Passive ops) e g =
          let same = same_Some (record { unit = m.number; name = m.one.name; ops = ops }) l g in
          record {
            place = m.place;
            one = m.one;
            ops = ops;
            number = k;
            at = m.at;
            named = ap (λ x. same_name x.name unit) same ∙ m.passes;
            vars' = ap data_of e;
            heads' = ap heads e;
            bodies' = ap bodies e;
            found = ap (λ x. op_named op x.ops) same ∙ found;
          }
      by_form (Shared ceiling vars ops) e g = absurd (none-some l g)
      by_form (Cyclic priority offset period vars block) e g = absurd (none-some l g)
      by_form (Sporadic priority ceiling sig separation jitter external vars block) e g = absurd (none-some l g)

  object_of : (g : ProtectedUnit) → IsMade (λ n u. object_by n u.name u.form) (λ g. same_name g.name unit) us g → (k : ℕ) (o : Operation)
      → op_named op g.ops ≡ Some (k, o) → IsOf us unit op g.vars o
  object_of g m k o found = by_form m.one.form refl m.makes
    where
      by_form : (f : Form) → m.one.form ≡ f → object_by m.number m.one.name f ≡ Some g → IsOf us unit op g.vars o
      by_form (Passive ops) e h = absurd (none-some g h)
      by_form (Shared ceiling vars ops) e h =
          let same = same_Some (record { unit = m.number; name = m.one.name; ceiling = ceiling; vars = vars; ops = ops }) g h in
          record {
            place = m.place;
            one = m.one;
            ops = ops;
            number = k;
            at = m.at;
            named = ap (λ x. same_name x.name unit) same ∙ m.passes;
            vars' = ap data_of e ∙ ap (λ x. x.vars) same;
            heads' = ap heads e;
            bodies' = ap bodies e;
            found = ap (λ x. op_named op x.ops) same ∙ found;
          }
      by_form (Cyclic priority offset period vars block) e h = absurd (none-some g h)
      by_form (Sporadic priority ceiling sig separation jitter external vars block) e h = absurd (none-some g h)

  -- an operation that a call begins is of a unit of the name
  abbrev IsOwned : CallTarget → Type 0
  IsOwned (Plain o) = IsOf us unit op [] o
  IsOwned (Protected object place g o) = IsOf us unit op g.vars o
  IsOwned (Request task) = ⊤
  IsOwned Unknown = ⊤

  owned_body : (k : CallTarget) → IsOwned k → (b : OpBody) → IsBodyOf k b → IsOf us unit op b.vars b.op
  owned_body (Plain o) h b e = subst (λ z. IsOf us unit op z.vars z.op) (sym e) h
  owned_body (Protected object place g o) h b e = subst (λ z. IsOf us unit op z.vars z.op) (sym e) h
  owned_body (Request task) h b e = absurd e
  owned_body Unknown h b e = absurd e

  plain_owned : (l : PassiveUnit) → IsMade (λ n u. library_by n u.name u.form) (λ l. same_name l.name unit) us l → (x : Option (ℕ × Operation))
      → op_named op l.ops ≡ x → IsOwned (plain_by x)
  plain_owned l m None e = tt
  plain_owned l m (Some (k, o)) e = library_of l m k o e

  protected_owned : (place : ℕ) (g : ProtectedUnit) → IsMade (λ n u. object_by n u.name u.form) (λ g. same_name g.name unit) us g
      → (x : Option (ℕ × Operation)) → op_named op g.ops ≡ x → IsOwned (protected_by (place, g) x)
  protected_owned place g m None e = tt
  protected_owned place g m (Some (k, o)) e = object_of g m k o e

  request_owned : (t : Option (ℕ × TaskUnit)) → IsOwned (request_by op t)
  request_owned None = tt
  request_owned (Some t) = by_timing t.1.timing
    where
      by_test : (b : Bool) → IsOwned (if b then Request t.0 else Unknown)
      by_test true = tt
      by_test false = tt

      by_timing : (r : ReleasePattern) → IsOwned (request_if op t.0 r)
      by_timing (released.Periodic offset period) = tt
      by_timing (released.Requested sig ceiling separation jitter external) = by_test (same_name sig.name op)

  owned : (work : List WorkList) → IsOwned (callee (system_from work us) unit op)
  owned work = by_library (first_where (λ l. same_name l.name unit) (libraries_from 0 us)) refl
    where
      others : CallTarget
      others = request_by op (first_where (λ t. same_name t.name unit) (system_from work us).threads)

      by_object : (g : Option (ℕ × ProtectedUnit)) → first_where (λ g. same_name g.name unit) (objects_from 0 us) ≡ g
          → IsOwned (object_or op g others)
      by_object None e = request_owned (first_where (λ t. same_name t.name unit) (system_from work us).threads)
      by_object (Some (k, g)) e =
          protected_owned k g (found_made (λ n u. object_by n u.name u.form) (λ g. same_name g.name unit) us 0 0 (k, g) e) (op_named op g.ops) refl

      by_library : (l : Option (ℕ × PassiveUnit)) → first_where (λ l. same_name l.name unit) (libraries_from 0 us) ≡ l
          → IsOwned (library_or op l (object_or op (first_where (λ g. same_name g.name unit) (objects_from 0 us)) others))
      by_library None e = by_object (first_where (λ g. same_name g.name unit) (objects_from 0 us)) refl
      by_library (Some (k, l)) e =
          plain_owned l (found_made (λ n u. library_by n u.name u.form) (λ l. same_name l.name unit) us 0 0 (k, l) e) (op_named op l.ops) refl

-- what a unit offers
abbrev offers_of : Unit → List Offer
offers_of u = map (λ h. record { object = u.name; sig = h }) (heads u.form)

module _ (unit op : Name) where
  abbrev is_offer : Offer → Bool
  is_offer o = same_name o.object unit && same_name o.sig.name op

  -- a unit of another name doesn't offer it
  no_offer : (u : Unit) → same_name u.name unit ≡ false → find is_offer (offers_of u) ≡ None
  no_offer u e = by (heads u.form)
    where
      by : (hs : List Signature) → find is_offer (map (λ h. record { object = u.name; sig = h }) hs) ≡ None
      by [] = refl
      by (h ∷ hs) = rw e (by hs)

  -- a unit of the name offers the first of its operations that has the name
  own_offer : (name : Name) → same_name name unit ≡ true → (ops : List Operation) (k : ℕ) (x : ℕ × Operation)
      → first_from k (λ o. same_name o.sig.name op) ops ≡ Some x
      → find is_offer (map (λ h. record { object = name; sig = h }) (map (λ o. o.sig) ops)) ≡ Some (record { object = name; sig = x.1.sig })
  own_offer name e [] k x h = absurd (none-some x h)
  own_offer name e (o ∷ ops) k x h = by_test (same_name o.sig.name op) refl (own_offer name e ops (suc k) x) h
    where
      offer : Operation → Offer
      offer q = record { object = name; sig = q.sig }

      left : Option Offer
      left = find is_offer (map (λ s. record { object = name; sig = s }) (map (λ q. q.sig) ops))

      by_test : (b : Bool) → same_name o.sig.name op ≡ b
          → (first_from (suc k) (λ q. same_name q.sig.name op) ops ≡ Some x → left ≡ Some (offer x.1))
          → (if b then Some (k, o) else first_from (suc k) (λ q. same_name q.sig.name op) ops) ≡ Some x
          → find is_offer (map (λ s. record { object = name; sig = s }) (map (λ q. q.sig) (o ∷ ops))) ≡ Some (offer x.1)
      by_test true t more f = rw (e, t) (ap (λ (z : ℕ × Operation). Some (offer z.1)) (same_Some (k, o) x f))
      by_test false t more f = rw (e, t) (more f)

  -- what the first unit of the name offers is what all units do
  first_offer : (us : List Unit) (i : ℕ) (u : Unit) (x : Offer) → slice_get us i ≡ Some u → is_named (map (λ v. v.name) (take i us)) unit ≡ false
      → find is_offer (offers_of u) ≡ Some x → find is_offer (flat_map offers_of us) ≡ Some x
  first_offer [] i u x at far h = absurd (none-some u at)
  first_offer (v ∷ us) zero u x at far h =
      find-append is_offer (offers_of v) (flat_map offers_of us)
      ∙ ap (λ o. option_or o (find is_offer (flat_map offers_of us))) (ap (λ z. find is_offer (offers_of z)) (same_Some v u at) ∙ h)
  first_offer (v ∷ us) (suc i) u x at far h =
      let both = or_parts (same_name v.name unit) (is_named (map (λ w. w.name) (take i us)) unit) far in
      find-append is_offer (offers_of v) (flat_map offers_of us)
      ∙ ap (λ o. option_or o (find is_offer (flat_map offers_of us))) (no_offer v both.0) ∙ first_offer us i u x at both.1 h

-- what is known of the body of an operation of a unit
record IsClean (p : Program) (form : Form) (o : Operation) : Type 0 where
  fault : block_fault (scope p form (op_body o)) o.block ≡ None
  clash : body_clashes form (op_body o) ≡ false

each_clean : (p : Program) (form : Form) (ops : List Operation) → bodies_fault p form (map op_body ops) ≡ None
    → list_any (body_clashes form) (map op_body ops) ≡ false → Each (IsClean p form) ops
each_clean p form [] f c = tt
each_clean p form (o ∷ ops) f c =
    let faults = or_none (block_fault (scope p form (op_body o)) o.block) (bodies_fault p form (map op_body ops)) f in
    let clashes = or_parts (body_clashes form (op_body o)) (list_any (body_clashes form) (map op_body ops)) c in
    (record { fault = faults.0; clash = clashes.0 }, each_clean p form ops faults.1 clashes.1)

-- a program that meets the rules
module _ (p : Program) (meets : MeetsRules p) where
  unit_faultless : (i : ℕ) (u : Unit) → slice_get p.units i ≡ Some u → unit_fault p u ≡ None
  unit_faultless i u at = not_some (unit_fault p u) (λ fault breaks. meets Bodies (At i) (u, at, (fault, breaks)))

  naming : (i : ℕ) (u : Unit) → slice_get p.units i ≡ Some u → breaks_naming p i u ≡ false
  naming i u at = not_true (breaks_naming p i u) (λ breaks. meets Naming (At i) (u, at, breaks))

  -- no unit before one has its name
  name_apart : (i : ℕ) (u : Unit) → slice_get p.units i ≡ Some u → is_named (map (λ v. v.name) (take i p.units)) u.name ≡ false
  name_apart i u at =
      (or_parts _ _ (sym (list_any-append (λ n. same_name n u.name) (map (λ v. v.name) (take i p.units))
      (flat_map (λ v. inner_names v.form) (take i p.units)))
      ∙ (or_parts _ _ (or_parts _ _ (or_parts _ _ (or_parts _ _ (or_parts _ _ (naming i u at)).0).0).0).0).0)).0

  -- the offer that is found for a call is of the operation that it begins
  offer_is : (unit op : Name) (vars : List Datum) (o : Operation) → IsOf p.units unit op vars o → (x : Offer)
      → find (is_offer unit op) (offers p) ≡ Some x → x.sig ≡ o.sig
  offer_is unit op vars o h x found =
      let its : Offer = record { object = h.one.name; sig = o.sig } in
      let far : is_named (map (λ v. v.name) (take h.place p.units)) unit ≡ false =
      ap (is_named (map (λ v. v.name) (take h.place p.units))) (sym (same-is h.one.name unit h.named)) ∙ name_apart h.place h.one h.at in
      let own : find (is_offer unit op) (offers_of h.one) ≡ Some its =
      ap (λ hs. find (is_offer unit op) (map (λ s. record { object = h.one.name; sig = s }) hs)) h.heads'
      ∙ own_offer unit op h.one.name h.named h.ops 0 (h.number, o) h.found in
      ap (λ z. z.sig) (same_Some x its (sym found ∙ first_offer unit op p.units h.place h.one its h.at far own))

  module _ (work : List WorkList) where
    full_by : (unit op : Name) (k : CallTarget) → IsOwned p.units unit op k → (x : Offer) (actuals : List Expression)
        → find (is_offer unit op) (offers p) ≡ Some x → length x.sig.params ≡ length actuals → IsFull k actuals
    full_by unit op (Plain o) h x actuals found many = tt
    full_by unit op (Protected object place g o) h x actuals found many =
        sym many ∙ ap (λ s. length s.params) (offer_is unit op g.vars o h x found)
    full_by unit op (Request task) h x actuals found many = tt
    full_by unit op Unknown h x actuals found many = tt

    -- a block without faults is full, where the offers of the program are known
    full_in : (c : Scope) → c.calls ≡ offers p → (b : Statements) → block_fault c b ≡ None → FullBlock (system_from work p.units) b
    full_in = full_block (system_from work p.units) (λ c. c.calls ≡ offers p) (λ c name h. h) (λ c h unit op x actuals found many.
        full_by unit op (callee (system_from work p.units) unit op) (owned p.units unit op work) x actuals
        (ap (find (is_offer unit op)) (sym h) ∙ found) many)

    -- an operation to which a call leads is tidy
    tidy : (unit op : Name) (b : OpBody) → IsBodyOf (callee (system_from work p.units) unit op) b → IsTidy (system_from work p.units) b
    tidy unit op b e =
        let h = owned_body p.units unit op (callee (system_from work p.units) unit op) (owned p.units unit op work) b e in
        let form = h.one.form in
        let clashes = (or_parts _ _ (or_parts _ _ (naming h.place h.one h.at)).0).1 in
        let clean = first_each (IsClean p form) (λ o. same_name o.sig.name op) h.ops 0 (h.number, b.op)
        (each_clean p form h.ops (ap (bodies_fault p form) (sym h.bodies') ∙ unit_faultless h.place h.one h.at)
        (ap (list_any (body_clashes form)) (sym h.bodies') ∙ clashes)) h.found in
        let distinct = not_false (are_distinct (own_names form ++ body_names (op_body b.op)))
        (or_parts (not (are_distinct (own_names form ++ body_names (op_body b.op)))) _ clean.clash).0 in
        record {
          full = full_in (scope p form (op_body b.op)) refl b.op.block clean.fault;
          distinct = op_distinct b (map (λ s. s.name) (heads form))
              (ap (λ vs. are_distinct ((map (λ s. s.name) (heads form) ++ map (λ d. d.name) vs) ++ body_names (op_body b.op))) (sym h.vars')
              ∙ distinct);
        }

    -- the block of a task is full
    task_full : (w : Timing) (i : ℕ) (name : Name) (priority : ℕ) (vars : List Datum) (block : Statements)
        → slice_get p.units i ≡ Some (record { name = name; form = form_by w priority vars block }) → FullBlock (system_from work p.units) block
    task_full (timing.Periodic offset period) i name priority vars block at =
        let u : Unit = record { name = name; form = Cyclic priority offset period vars block } in
        let c = scope p u.form (record { params = []; locals = []; block = block }) in
        full_in c refl block (or_none (block_fault c block) None (unit_faultless i u at)).0
    task_full (timing.Requested op ceiling separation jitter external) i name priority vars block at =
        let u : Unit = record { name = name; form = Sporadic priority ceiling (signature_of op.now) separation jitter external vars block } in
        let c = scope p u.form (record { params = op.now.params.items; locals = []; block = block }) in
        full_in c refl block (or_none (block_fault c block) None (unit_faultless i u at)).0

-- a task of a program that meets the rules
pub works-of : (p : Program) → MeetsRules p → IsProperProgram limits p → (work : List WorkList) (t : Thread)
    → slice_get p.units t.unit ≡ Some (written_as t) → system_of t ≡ system_from work p.units → CanWork t
works-of p meets proper work t at among =
    can_work t (can-run p meets proper work t at among)
    (subst (λ y. FullBlock y (block_of_thread t)) (sym among)
    (task_full p meets work t.timing t.unit t.name.now t.priority t.«data».now (block_of_thread t) at))
    (λ unit op b e. subst (λ y. IsTidy y b) (sym among) (tidy p meets work unit op b (subst (λ y. IsBodyOf (callee y unit op) b) among e)))
