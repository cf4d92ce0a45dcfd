-- No operation of a program that meets the rules leads to itself: calls of passive operations stay among passive units, and
-- protected units call each other without a ring.
use Rattle.std.proofs.Common.{◌≡◌, ℕ, zero, suc, Bool, true, false, ◌&&◌, ◌||◌, List, [], ◌∷◌, ◌++◌, map, take, refl, ap, sym, subst, ◌∙◌}
use Rattle.std.proofs.Common.{Option, Some, None, inl, inr}
use Rattle.std.specs.Prelude.{filter, flat_map, not, slice_get}
use Rattle.std.specs.List.{list_any}
use Rattle.std.proofs.lemmas.List.Folds.{list_any-append}
use Rattle.std.proofs.lemmas.Map.Keys.{any_passes_from_place}
use Rattle.std.proofs.lemmas.Option.{same_Some}
use Rattle.std.proofs.lemmas.Bool.{or_parts}
use Rattle.seq_tree.specs.Names.{Name, same_name}
use Rattle.seq_tree.specs.Operations.{Operation, Offer}
use Rattle.seq_tree.specs.Calls.{block_calls, same_op}
use Rattle.seq_tree.specs.Rings.{LeadsTo}
use Rattle.seq_tree.specs.declared.tree.OpName.{OpName}
use Rattle.ada_tree.specs.Programs.{Unit, Form, Program}
use Rattle.ada_tree.specs.Bodies.{Body, offers, op_body}
use Rattle.ada_tree.specs.Naming.{breaks_naming, calls_of, inner_names, is_there}
use Rattle.ada_tree.specs.Rules.{At, MeetsRules, Naming, Rings, Uses}
use Rattle.ada_tree.specs.Uses.{Calls, CallsUnit, breaks_uses, is_confined, is_empty, is_shared, is_shared_name, ops_of_shared, passive_named}
use Rattle.ada_tree.specs.Uses.{passive_ops, shared_ops}
use Rattle.arrivals_tree.specs.declared.arrivals.WorkList.{WorkList}
use Rattle.machine.specs.Systems.{System, CallTarget, Plain, Protected, Request, Unknown}
use Rattle.task_runtime.specs.Callable.{Leads, calls_by, is_in, is_known, op_by, op_in, op_name, target_in}
use Rattle.task_runtime.specs.Libraries.{system_from}
use Rattle.task_runtime.proofs.CallLaws.{in-append, in-behind, no_true, of_name, op-one}
use Rattle.seq_tree.proofs.Shared.SameNames.{same-self, same-is}
use Rattle.task_runtime.proofs.Targets.{AreApart, apart, at-unit, bodies-of, body-of, head-known, is_plain, is_protected, offered-unit, ops_of}
use Rattle.task_runtime.proofs.Targets.{passive-unit, plain-form, plain-known, shared-form, some-unit, unit_target}

pub not_true : (b : Bool) → (b ≡ true → ⊥) → b ≡ false
not_true true h = absurd (h refl)
not_true false h = refl

pub not_false : (b : Bool) → not b ≡ false → b ≡ true
not_false true h = refl
not_false false h = absurd (no_true h)

-- the calls of operations
abbrev pub all_calls : List Operation → List OpName
all_calls os = flat_map (λ o. block_calls o.block) os

-- a call of one of the operations is among all of their calls
pub in-all : (os : List Operation) (i : ℕ) (o : Operation) (c : OpName) → slice_get os i ≡ Some o → is_in (block_calls o.block) c ≡ true
    → is_in (all_calls os) c ≡ true
in-all [] i o c at h = absurd (cc)
in-all (q ∷ os) zero o c at h =
    let same : q ≡ o = same_Some q o at in
    in-append (block_calls q.block) (all_calls os) c (subst (λ x. is_in (block_calls x.block) c ≡ true) (sym same) h)
in-all (q ∷ os) (suc i) o c at h = in-behind (block_calls q.block) (all_calls os) c (in-all os i o c at h)

-- the same among those that pass a test
among_back : (test : Operation → Bool) (xs ys : List Operation) (d : OpName) → is_in (all_calls (filter test ys)) d ≡ true
    → is_in (all_calls (filter test (xs ++ ys))) d ≡ true
among_back test [] ys d h = h
among_back test (x ∷ xs) ys d h = by_test (test x) refl (among_back test xs ys d h) where
  by_test : (b : Bool) → test x ≡ b → is_in (all_calls (filter test (xs ++ ys))) d ≡ true → is_in (all_calls (filter test (x ∷ (xs ++ ys)))) d ≡ true
  by_test true e more = rw e (in-behind (block_calls x.block) (all_calls (filter test (xs ++ ys))) d more)
  by_test false e more = rw e more

among_front : (test : Operation → Bool) (xs ys : List Operation) (k : ℕ) (o : Operation) (d : OpName) → slice_get xs k ≡ Some o → test o ≡ true
    → is_in (block_calls o.block) d ≡ true
    → is_in (all_calls (filter test (xs ++ ys))) d ≡ true
among_front test [] ys k o d at t h = absurd (cc)
among_front test (x ∷ xs) ys zero o d at t h =
    let same : x ≡ o = same_Some x o at in
    let t' : test x ≡ true = ap test same ∙ t in
    rw t' (in-append (block_calls x.block) (all_calls (filter test (xs ++ ys))) d (ap (λ z. is_in (block_calls z.block) d) same ∙ h))
among_front test (x ∷ xs) ys (suc k) o d at t h = by_test (test x) refl (among_front test xs ys k o d at t h) where
  by_test : (b : Bool) → test x ≡ b → is_in (all_calls (filter test (xs ++ ys))) d ≡ true → is_in (all_calls (filter test (x ∷ (xs ++ ys)))) d ≡ true
  by_test true e more = rw e (in-behind (block_calls x.block) (all_calls (filter test (xs ++ ys))) d more)
  by_test false e more = rw e more

among_units : (f : Form → List Operation) (test : Operation → Bool) (us : List Unit) (i : ℕ) (u : Unit) (k : ℕ) (o : Operation) (w : Name)
    (d : OpName) → slice_get us i ≡ Some u → same_name u.name w ≡ true
    → slice_get (f u.form) k ≡ Some o → test o ≡ true → is_in (block_calls o.block) d ≡ true
    → is_in (all_calls (filter test (flat_map (λ v. f v.form) (filter (λ v. same_name v.name w) us)))) d ≡ true
among_units f test [] i u k o w d at named op t h = absurd (cc)
among_units f test (v ∷ us) zero u k o w d at named op t h =
    let same : v ≡ u = same_Some v u at in
    let named' : same_name v.name w ≡ true = ap (λ z. same_name z.name w) same ∙ named in
    let op' : slice_get (f v.form) k ≡ Some o = ap (λ z. slice_get (f z.form) k) same ∙ op in
    rw named' (among_front test (f v.form) (flat_map (λ z. f z.form) (filter (λ z. same_name z.name w) us)) k o d op' t h)
among_units f test (v ∷ us) (suc i) u k o w d at named op t h
    = by_test (same_name v.name w) refl (among_units f test us i u k o w d at named op t h) where
      by_test : (b : Bool) → same_name v.name w ≡ b
          → is_in (all_calls (filter test (flat_map (λ z. f z.form) (filter (λ z. same_name z.name w) us)))) d ≡ true
          → is_in (all_calls (filter test (flat_map (λ z. f z.form) (filter (λ z. same_name z.name w) (v ∷ us))))) d ≡ true
      by_test true e more = rw e (among_back test (f v.form) (flat_map (λ z. f z.form) (filter (λ z. same_name z.name w) us)) d more)
      by_test false e more = rw e more

filter_all : (os : List Operation) → filter (λ o. true) os ≡ os
filter_all [] = refl
filter_all (o ∷ os) = ap (λ xs. o ∷ xs) (filter_all os)

-- a unit that is called is among those that are called
unit_called : (test : Name → Bool) (cs : List OpName) (d : OpName) → is_in cs d ≡ true → test d.object ≡ true
    → list_any (same_name d.object) (filter test (map (λ c. c.object) cs)) ≡ true
unit_called test [] d h t = absurd (no_true (sym h))
unit_called test (c ∷ cs) d h t = by_tests (same_op d c) (test c.object) refl refl (λ k. unit_called test cs d k t) h where
  by_tests : (a b : Bool) → same_op d c ≡ a → test c.object ≡ b
      → (is_in cs d ≡ true → list_any (same_name d.object) (filter test (map (λ x. x.object) cs)) ≡ true)
      → (same_op d c || is_in cs d) ≡ true → list_any (same_name d.object) (filter test (map (λ x. x.object) (c ∷ cs))) ≡ true
  by_tests true b e f rest k =
      let same : d ≡ c = op-one d c e in
      let t' : test c.object ≡ true = ap (λ x. test x.object) (sym same) ∙ t in
      let own : same_name d.object c.object ≡ true = ap (λ x. same_name d.object x.object) (sym same) ∙ same-self d.object in
      rw (t', own) refl
  by_tests false true e f rest k =
      let k' : is_in cs d ≡ true = rw e at k in
      rw f (later (same_name d.object c.object) (rest k'))
    where
      later : (z : Bool) → list_any (same_name d.object) (filter test (map (λ x. x.object) cs)) ≡ true
          → (z || list_any (same_name d.object) (filter test (map (λ x. x.object) cs))) ≡ true
      later true m = refl
      later false m = m
  by_tests false false e f rest k = let k' : is_in cs d ≡ true = rw e at k in rw f (rest k')

body_known : (k : CallTarget) (o : Operation) → op_by k ≡ Some o → is_known k ≡ true
body_known (Plain q) o e = refl
body_known (Protected object op g q) o e = refl
body_known (Request task) o e = refl
body_known Unknown o e = absurd (cc)

no_both : (k : CallTarget) → is_plain k ≡ true → is_protected k ≡ true → ⊥
no_both (Plain o) a b = no_true (sym b)
no_both (Protected object op g o) a b = no_true (sym a)
no_both (Request task) a b = no_true (sym a)
no_both Unknown a b = no_true (sym a)

-- each of some calls is offered
offered_call : (os : List Offer) (cs : List OpName) (c : OpName) → list_any (λ d. not (is_there os d)) cs ≡ false → is_in cs c ≡ true
    → is_there os c ≡ true
offered_call os [] c h k = absurd (no_true (sym k))
offered_call os (d ∷ cs) c h k = by_test (same_op c d) refl (offered_call os cs c (or_parts (not (is_there os d)) _ h).1) k where
  by_test : (b : Bool) → same_op c d ≡ b → (is_in cs c ≡ true → is_there os c ≡ true) → (same_op c d || is_in cs c) ≡ true → is_there os c ≡ true
  by_test true e rest t = ap (is_there os) (op-one c d e) ∙ not_false (is_there os d) (or_parts (not (is_there os d)) _ h).0
  by_test false e rest t = let t' : is_in cs c ≡ true = rw e at t in rest t'

some_passive : (p : Program) (cs : List OpName) (c : OpName) → list_any (λ d. is_empty (passive_named p d)) cs ≡ false → is_in cs c ≡ true
    → is_empty (passive_named p c) ≡ false
some_passive p [] c none h = absurd (no_true (sym h))
some_passive p (d ∷ cs) c none h = by_test (same_op c d) refl (some_passive p cs c (or_parts (is_empty (passive_named p d)) _ none).1) h where
  by_test : (b : Bool) → same_op c d ≡ b → (is_in cs c ≡ true → is_empty (passive_named p c) ≡ false) → (same_op c d || is_in cs c) ≡ true
      → is_empty (passive_named p c) ≡ false
  by_test true e rest k = ap (λ x. is_empty (passive_named p x)) (op-one c d e) ∙ (or_parts (is_empty (passive_named p d)) _ none).0
  by_test false e rest k = let k' : is_in cs c ≡ true = rw e at k in rest k'

pub bodies-calls : (os : List Operation) → flat_map (λ b. block_calls b.block) (map op_body os) ≡ all_calls os
bodies-calls [] = refl
bodies-calls (o ∷ os) = ap (λ xs. block_calls o.block ++ xs) (bodies-calls os)

module _ (p : Program) (meets : MeetsRules p) (work : List WorkList) where
  abbrev z : System
  z = system_from work p.units

  pub naming : (i : ℕ) (u : Unit) → slice_get p.units i ≡ Some u → breaks_naming p i u ≡ false
  naming i u at = not_true (breaks_naming p i u) (λ breaks. meets Naming (At i) (u, at, breaks))

  -- units have names of their own
  names_apart : AreApart p.units
  names_apart = apart p.units (λ i u at.
      (or_parts _ _ (sym (list_any-append (λ n. same_name n u.name) (map (λ v. v.name) (take i p.units))
      (flat_map (λ v. inner_names v.form) (take i p.units)))
      ∙ (or_parts _ _ (or_parts _ _ (or_parts _ _ (or_parts _ _ (or_parts _ _ (naming i u at)).0).0).0).0).0)).0)

  -- each call leads somewhere
  pub leads-somewhere : (i : ℕ) (u : Unit) → slice_get p.units i ≡ Some u → (c : OpName) → is_in (calls_of u.form) c ≡ true
      → is_known (target_in (system_from work p.units) c) ≡ true
  leads-somewhere i u at c calls =
      let o = offered-unit p.units c (offered_call (offers p) (calls_of u.form) c (or_parts _ _ (naming i u at)).1 calls) in
      let t = at-unit work p.units 0 0 0 0 o.0 o.1 c names_apart o.2 o.3 in
      ap is_known t.3 ∙ head-known t.0 t.1 t.2 o.1.name o.1.form c.op o.4

  -- a passive unit calls passive operations
  passive_calls : (i : ℕ) (u : Unit) → slice_get p.units i ≡ Some u → is_confined u.form ≡ true → (c : OpName) → is_in (calls_of u.form) c ≡ true
      → is_plain (target_in (system_from work p.units) c) ≡ true
  passive_calls i u at confined c calls =
      let keeps : breaks_uses p u ≡ false = not_true (breaks_uses p u) (λ breaks. meets Uses (At i) (u, at, breaks)) in
      let all : list_any (λ d. is_empty (passive_named p d)) (calls_of u.form) ≡ false
      = ap (λ b. b && list_any (λ d. is_empty (passive_named p d)) (calls_of u.form)) (sym confined) ∙ keeps in
      let o = passive-unit p.units c (some_passive p (calls_of u.form) c all calls) in
      let t = at-unit work p.units 0 0 0 0 o.0 o.1 c names_apart o.2 o.3 in
      ap is_plain t.3 ∙ plain-known t.0 t.1 t.2 o.1.name o.1.form c.op o.4

  -- an operation with a body stands in a unit
  pub record IsOwned (c : OpName) (o : Operation) : Type 0 where
    pub place : ℕ
    pub unit : Unit
    pub op : ℕ
    pub object : ℕ
    pub task : ℕ
    pub number : ℕ
    pub at : slice_get p.units place ≡ Some unit
    pub named : same_name unit.name c.object ≡ true
    pub op_at : slice_get (ops_of unit.form) op ≡ Some o
    pub op_named : of_name c.op o ≡ true
    pub target : target_in (system_from work p.units) c ≡ unit_target object task number unit.name unit.form c.op

  pub owned : (c : OpName) (o : Operation) → op_in (system_from work p.units) c ≡ Some o → IsOwned c o
  owned c o e =
      let u = some-unit work p.units 0 0 0 0 c (body_known (target_in z c) o e) in
      let t = at-unit work p.units 0 0 0 0 u.0 u.1 c names_apart u.2 u.3 in
      let b = body-of t.0 t.1 t.2 u.1.name u.1.form c.op o (sym (ap op_by t.3) ∙ e) in
      record {
        place = u.0;
        unit = u.1;
        op = b.0;
        object = t.0;
        task = t.1;
        number = t.2;
        at = u.2;
        named = u.3;
        op_at = b.1;
        op_named = b.2;
        target = t.3;
      }

  -- its calls are among those of the unit
  pub owned-calls : (c : OpName) (o : Operation) (w : IsOwned c o) (d : OpName) → is_in (block_calls o.block) d ≡ true
      → is_in (calls_of w.unit.form) d ≡ true
  owned-calls c o w d h =
      ap (λ (bs : List Body). is_in (flat_map (λ b. block_calls b.block) bs) d) (bodies-of w.unit.form w.op o w.op_at)
      ∙ ap (λ cs. is_in cs d) (bodies-calls (ops_of w.unit.form)) ∙ in-all (ops_of w.unit.form) w.op o d w.op_at h

  -- a call from a body
  called_from : (c d : OpName) → is_in (calls_by (op_in (system_from work p.units) c)) d ≡ true
      → (o : Operation) × (op_in (system_from work p.units) c ≡ Some o) × (is_in (block_calls o.block) d ≡ true)
  called_from c d h = by_op (op_in z c) refl where
    by_op : (o : Option Operation) → op_in (system_from work p.units) c ≡ o → (q : Operation) × (op_in (system_from work p.units) c ≡ Some q)
        × (is_in (block_calls q.block) d ≡ true)
    by_op None e = absurd (no_true (sym (sym (ap (λ x. is_in (calls_by x) d) e) ∙ h)))
    by_op (Some q) e = (q, e, sym (ap (λ x. is_in (calls_by x) d) e) ∙ h)

  plain_next : (c d : OpName) → is_plain (target_in (system_from work p.units) c) ≡ true
      → is_in (calls_by (op_in (system_from work p.units) c)) d ≡ true
      → (is_plain (target_in (system_from work p.units) d) ≡ true) × Calls p c d
  plain_next c d plain h =
      let q = called_from c d h in
      let w = owned c q.0 q.1 in
      let f = plain-form w.object w.task w.number w.unit.name w.unit.form c.op (sym (ap is_plain w.target) ∙ plain) in
      let at : slice_get (passive_ops w.unit.form) w.op ≡ Some q.0 = ap (λ os. slice_get os w.op) (sym f.1) ∙ w.op_at in (
        passive_calls w.place w.unit w.at f.0 d (owned-calls c q.0 w d q.2),
        among_units passive_ops (of_name c.op) p.units w.place w.unit w.op q.0 c.object d w.at w.named at w.op_named q.2,
      )

  is_shared_unit : (d : OpName) → is_protected (target_in (system_from work p.units) d) ≡ true → is_shared_name p d.object ≡ true
  is_shared_unit d protected =
      let u = some-unit work p.units 0 0 0 0 d (known (target_in z d) protected) in
      let t = at-unit work p.units 0 0 0 0 u.0 u.1 d names_apart u.2 u.3 in
      let f = shared-form t.0 t.1 t.2 u.1.name u.1.form d.op (sym (ap is_protected t.3) ∙ protected) in
      any_passes_from_place (λ v. is_shared v.form && same_name v.name d.object) p.units u.0 u.1 u.2
      (ap (λ b. b && same_name u.1.name d.object) f.0 ∙ u.3)
    where
      known : (k : CallTarget) → is_protected k ≡ true → is_known k ≡ true
      known (Plain o) e = refl
      known (Protected object op g o) e = refl
      known (Request task) e = refl
      known Unknown e = absurd (no_true (sym e))

  shared_next : (c d : OpName) → is_protected (target_in (system_from work p.units) c) ≡ true
      → is_protected (target_in (system_from work p.units) d) ≡ true
      → is_in (calls_by (op_in (system_from work p.units) c)) d ≡ true → CallsUnit p c.object d.object
  shared_next c d from to h =
      let q = called_from c d h in
      let w = owned c q.0 q.1 in
      let f = shared-form w.object w.task w.number w.unit.name w.unit.form c.op (sym (ap is_protected w.target) ∙ from) in
      let at : slice_get (shared_ops w.unit.form) w.op ≡ Some q.0 = ap (λ os. slice_get os w.op) (sym f.1) ∙ w.op_at in
      let calls : is_in (all_calls (ops_of_shared p c.object)) d ≡ true =
      ap (λ os. is_in (all_calls os) d) (sym (filter_all (ops_of_shared p c.object))) ∙ among_units shared_ops
      (λ o. true) p.units w.place w.unit w.op q.0 c.object d w.at w.named at refl q.2 in
      unit_called (is_shared_name p) (all_calls (ops_of_shared p c.object)) d calls (is_shared_unit d to)

  leads_plain : (path : List OpName) (c to : OpName) → is_plain (target_in (system_from work p.units) c) ≡ true
      → Leads (system_from work p.units) c path to
      → (is_plain (target_in (system_from work p.units) to) ≡ true) × LeadsTo (Calls p) c path to
  leads_plain [] c to plain h = plain_next c to plain h
  leads_plain (via ∷ path) c to plain h =
      let one = plain_next c via plain h.0 in
      let more = leads_plain path via to one.0 h.1 in (more.0, (one.1, more.1))

  no_calls : (path : List OpName) (c to : OpName) → op_in (system_from work p.units) c ≡ None → Leads (system_from work p.units) c path to → ⊥
  no_calls [] c to none h = no_true (sym (sym (ap (λ x. is_in (calls_by x) to) none) ∙ h))
  no_calls (via ∷ path) c to none h = no_true (sym (sym (ap (λ x. is_in (calls_by x) via) none) ∙ h.0))

  leads_shared : (path : List OpName) (c to : OpName) → is_protected (target_in (system_from work p.units) c) ≡ true
      → is_protected (target_in (system_from work p.units) to) ≡ true
      → Leads (system_from work p.units) c path to → LeadsTo (CallsUnit p) c.object (map (λ v. v.object) path) to.object
  leads_shared [] c to from at h = shared_next c to from at h
  leads_shared (via ∷ path) c to from at h = by_target (target_in z via) refl (λ from'. leads_shared path via to from' at h.1) where
    by_target : (k : CallTarget) → target_in (system_from work p.units) via ≡ k
        → (is_protected (target_in (system_from work p.units) via) ≡ true → LeadsTo (CallsUnit p) via.object (map (λ v. v.object) path) to.object)
        → LeadsTo (CallsUnit p) c.object (map (λ v. v.object) (via ∷ path)) to.object
    by_target (Plain o) e rest = absurd (no_both (target_in z to) (leads_plain path via to (ap is_plain e) h.1).0 at)
    by_target (Protected object op g o) e rest = (shared_next c via from (ap is_protected e) h.0, rest (ap is_protected e))
    by_target (Request task) e rest = absurd (no_calls path via to (ap op_by e) h.1)
    by_target Unknown e rest = absurd (no_calls path via to (ap op_by e) h.1)

  -- no operation leads to itself
  pub no-ring : (path : List OpName) (c : OpName) → Leads (system_from work p.units) c path c → ⊥
  no-ring path c leads = by_target (target_in z c) refl where
    by_target : (k : CallTarget) → target_in (system_from work p.units) c ≡ k → ⊥
    by_target (Plain o) e =
        let w = owned c o (ap op_by e) in
        let name : c.object ≡ w.unit.name = sym (same-is w.unit.name c.object w.named) in
        let ring = (leads_plain path c c (ap is_plain e) leads).1 in
        meets Rings (At w.place) (w.unit, w.at, inl (c.op, (path, subst (λ n. LeadsTo (Calls p) (op_name n c.op) path (op_name n c.op)) name ring)))
    by_target (Protected object op g o) e =
        let w = owned c o (ap op_by e) in
        let name : c.object ≡ w.unit.name = sym (same-is w.unit.name c.object w.named) in
        let ring = leads_shared path c c (ap is_protected e) (ap is_protected e) leads in
        meets Rings (At w.place) (
          w.unit,
          w.at,
          inr (
            map (λ v. v.object) path,
            subst (λ n. LeadsTo (CallsUnit p) n
                (map (λ v. v.object) path) n) name ring,
          ),
        )
    by_target (Request task) e = no_calls path c c (ap op_by e) leads
    by_target Unknown e = no_calls path c c (ap op_by e) leads
