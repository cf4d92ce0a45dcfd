-- What a call of a program leads to, with the unit that it names: one answer for the processor and for the texts.
use Rattle.std.specs.Prelude.{◌≡◌, ◌⊎◌, ℕ, suc, ◌+◌, Bool, true, false, ◌&&◌, cond, List, [], ◌∷◌, ◌++◌, map, length, find, flat_map, filter_map}
use Rattle.std.specs.Prelude.{slice_get, option_map, Option, Some, None, if◌then◌else◌, refl}
use Rattle.std.specs.List.{enumerate_from}
use Rattle.std.proofs.Common.{sym, ◌∙◌, ap, subst, arith, inl, inr}
use Rattle.seq_tree.specs.Lists.{first_from, first_where}
use Rattle.seq_tree.specs.Names.{Name, same_name}
use Rattle.seq_tree.specs.Operations.{Signature, Operation, Offer}
use Rattle.seq_tree.specs.Statements.{Statements}
use Rattle.seq_tree.specs.Runs as runs
use Rattle.seq_tree.specs.declared.tree.Datum.{Datum}
use Rattle.ada_tree.specs.Programs.{Form, Unit, Program, Passive, Shared, Cyclic, Sporadic}
use Rattle.ada_tree.specs.Bodies.{heads, offers}
use Rattle.arrivals_tree.specs.Arriving.{Arrivals, durations}
use Rattle.ods_tree.specs.Services.{is_service, callee_of}
use Rattle.ods_tree.specs.Services as services
use Rattle.guarantee.specs.Software.{program_software, leads_to}
use Rattle.machine.specs.Systems.{System, system, PassiveUnit, ProtectedUnit, TaskUnit, Periodic, Requested, library_by, object_by, thread_by}
use Rattle.machine.specs.Systems.{CallTarget, Plain, Protected, Request, Unknown, callee, library_or, object_or, request_by, request_if}
use Rattle.machine.specs.Systems.{op_named, plain_by, protected_by, ReleasePattern}
use Rattle.law_calls.proofs.Shared.UnitNames.{AreOthers, AreApart, IsUnit, unit_of_name, none_made, nothing_made, one_made, IsMade, find_others}
use Rattle.law_calls.proofs.Shared.UnitNames.{find_unit}
use Rattle.law_calls.proofs.Shared.Callees.{is_op, or_find, under, plain_of, protected_of, requests_of, own_ops, service_others, service_unit}
use Rattle.std.proofs.lemmas.Option.{none-some, same_Some}
use Rattle.law_lists.proofs.Shared.Facts.{same-is, is-same, first-where}

-- the operation by which a task is requested
abbrev pub asked_by : ReleasePattern → Name
asked_by (Periodic offset period) = []
asked_by (Requested sig ceiling separation jitter external) = sig.name

-- whether an offer is of these names
abbrev pub is_offer : Name → Name → Offer → Bool
is_offer unit op o = same_name o.object unit && same_name o.sig.name op

-- what a call leads to, with the unit that it names
pub data Resolved (p : Program) (y : System) (unit op : Name) : CallTarget → runs.Callee → Type 0 where
  No_one : find (is_offer unit op) (offers p) ≡ None → Resolved p y unit op Unknown runs.Unknown
  One_plain : (i : ℕ) (u : Unit) (ops : List Operation) (j : ℕ) (o : Operation) → slice_get p.units i ≡ Some u → u.form ≡ Passive ops
      → slice_get ops j ≡ Some o
      → u.name ≡ unit → o.sig.name ≡ op → Resolved p y unit op (Plain o) (runs.Plain o)
  One_protected : (i : ℕ) (u : Unit) (ceiling : ℕ) (vars : List Datum) (ops : List Operation) (object k : ℕ) (g : ProtectedUnit) (o : Operation)
      → slice_get p.units i ≡ Some u → u.form ≡ Shared ceiling vars ops → slice_get ops k ≡ Some o → u.name ≡ unit → o.sig.name ≡ op
      → slice_get y.objects object ≡ Some g → g.unit ≡ i → Resolved p y unit op (Protected object k g o) (runs.Protected o.sig.params)
  One_request : (i : ℕ) (u : Unit) (task : ℕ) (th : TaskUnit) → slice_get p.units i ≡ Some u → u.name ≡ unit → slice_get y.threads task ≡ Some th
      → th.unit ≡ i
      → asked_by th.timing ≡ op → Resolved p y unit op (Request task) runs.Asked

at_front : (front : List Unit) (u : Unit) (back : List Unit) → slice_get (front ++ u ∷ back) (length front) ≡ Some u
at_front [] u back = refl
at_front (f ∷ front) u back = at_front front u back

-- what is made keeps the unit's name

abbrev lib_of : ℕ → Unit → Option PassiveUnit
lib_of n u = library_by n u.name u.form

abbrev obj_of : ℕ → Unit → Option ProtectedUnit
obj_of n u = object_by n u.name u.form

abbrev task_of : Arrivals → ℕ → Unit → Option TaskUnit
task_of a n u = thread_by (durations a n) n u.name u.form

lib_keeps : (n : ℕ) (u : Unit) (x : PassiveUnit) → lib_of n u ≡ Some x → x.name ≡ u.name
lib_keeps n u x = by u.form
  where
    by : (f : Form) → library_by n u.name f ≡ Some x → x.name ≡ u.name
    by (Passive ops) e = sym (ap (λ l. l.name) (same_Some _ x e))
    by (Shared ceiling vars ops) e = absurd (none-some x e)
    by (Cyclic priority offset period vars block) e = absurd (none-some x e)
    by (Sporadic priority ceiling op separation jitter external vars block) e = absurd (none-some x e)

obj_keeps : (n : ℕ) (u : Unit) (x : ProtectedUnit) → obj_of n u ≡ Some x → x.name ≡ u.name
obj_keeps n u x = by u.form
  where
    by : (f : Form) → object_by n u.name f ≡ Some x → x.name ≡ u.name
    by (Passive ops) e = absurd (none-some x e)
    by (Shared ceiling vars ops) e = sym (ap (λ l. l.name) (same_Some _ x e))
    by (Cyclic priority offset period vars block) e = absurd (none-some x e)
    by (Sporadic priority ceiling op separation jitter external vars block) e = absurd (none-some x e)

task_keeps : (a : Arrivals) (n : ℕ) (u : Unit) (x : TaskUnit) → task_of a n u ≡ Some x → x.name ≡ u.name
task_keeps a n u x = by u.form
  where
    by : (f : Form) → thread_by (durations a n) n u.name f ≡ Some x → x.name ≡ u.name
    by (Passive ops) e = absurd (none-some x e)
    by (Shared ceiling vars ops) e = absurd (none-some x e)
    by (Cyclic priority offset period vars block) e = sym (ap (λ l. l.name) (same_Some _ x e))
    by (Sporadic priority ceiling op separation jitter external vars block) e = sym (ap (λ l. l.name) (same_Some _ x e))

-- offers
abbrev offers_of : Unit → List Offer
offers_of u = map (λ h. record { object = u.name; sig = h }) (heads u.form)

offers_other : (unit op : Name) (u : Unit) → same_name u.name unit ≡ false → find (is_offer unit op) (offers_of u) ≡ None
offers_other unit op u e = by (heads u.form)
  where
    by : (hs : List Signature) → find (is_offer unit op) (map (λ h. let o : Offer = record { object = u.name; sig = h } in o) hs) ≡ None
    by [] = refl
    by (h ∷ hs) = ap (λ b. cond (b && same_name h.name op) (Some (let o : Offer = record { object = u.name; sig = h }
        in o)) (find (is_offer unit op) (map (λ h. record { object = u.name; sig = h }) hs))) e ∙ by hs

offers_ops : (unit op name : Name) (k : ℕ) (ops : List Operation) → first_from k (is_op op) ops ≡ None
    → find (is_offer unit op) (map (λ h. let o : Offer = record { object = name; sig = h } in o) (map (λ o. o.sig) ops)) ≡ None
offers_ops unit op name k [] e = refl
offers_ops unit op name k (o ∷ ops) e = by (same_name o.sig.name op) refl e (offers_ops unit op name (suc k) ops)
  where
    rest : Option Offer
    rest = find (is_offer unit op) (map (λ h. record { object = name; sig = h }) (map (λ o. o.sig) ops))

    none : (b : Bool) → cond (b && false) (Some (let x : Offer = record { object = name; sig = o.sig } in x)) rest ≡ rest
    none true = refl
    none false = refl

    by : (b : Bool) → same_name o.sig.name op ≡ b → (if b then Some (k, o) else first_from (suc k) (is_op op) ops) ≡ None
        → (first_from (suc k) (is_op op) ops ≡ None → rest ≡ None)
        → cond (same_name name unit && same_name o.sig.name op) (Some (let x : Offer = record { object = name; sig = o.sig } in x)) rest ≡ None
    by true t h more = absurd (none-some (k, o) (sym h))
    by false t h more = ap (λ b. cond (same_name name unit && b) (Some (let x : Offer = record { object = name; sig = o.sig } in x)) rest) t ∙ none
        (same_name name unit) ∙ more h

module _ (p : Program) (a : Arrivals) (unit op : Name) where
  abbrev y : System
  y = system p a

  by_both : (k : CallTarget) (r : runs.Callee) → callee y unit op ≡ k → leads_to (program_software p) unit op ≡ r → Resolved p y unit op k r
      → Resolved p y unit op (callee y unit op) (leads_to (program_software p) unit op)
  by_both k r e f h = subst (λ r. Resolved p y unit op (callee y unit op) r) (sym f) (subst (λ k. Resolved p y unit op k r) (sym e) h)

  -- what is found among the passive units, the objects and the tasks
  found : (l : Option (ℕ × PassiveUnit)) (o : Option (ℕ × ProtectedUnit)) (t : Option (ℕ × TaskUnit))
      → first_where (λ l. same_name l.name unit) y.libraries ≡ l
      → first_where (λ l. same_name l.name unit) y.objects ≡ o → first_where (λ l. same_name l.name unit) y.threads ≡ t
      → callee y unit op ≡ library_or op l (object_or op o (request_by op t))
  found l o t e f g =
      ap (λ x. library_or op x (object_or op (first_where (λ l. same_name l.name unit) y.objects)
      (request_by op (first_where (λ l. same_name l.name unit) y.threads)))) e
      ∙ ap (λ x. library_or op l (object_or op x (request_by op (first_where (λ l. same_name l.name unit) y.threads)))) f
      ∙ ap (λ x. library_or op l (object_or op o (request_by op x))) g

  no_one : AreOthers unit p.units → Resolved p y unit op (callee y unit op) (leads_to (program_software p) unit op)
  no_one others = by_both Unknown runs.Unknown
      (found None None None (none_made lib_of (λ l. l.name) lib_keeps unit 0 0 p.units others)
      (none_made obj_of (λ l. l.name) obj_keeps unit 0 0 p.units others)
      (none_made (task_of a) (λ l. l.name) (task_keeps a) unit 0 0 p.units others))
      (ap callee_of (service_others p unit op others))
      (No_one (find_others offers_of (is_offer unit op) unit (offers_other unit op) p.units others))

  module _ (h : IsUnit p.units unit) where
    abbrev at : ℕ
    at = length h.front

    abbrev us : List Unit
    us = h.front ++ h.unit ∷ h.back

    here : slice_get p.units at ≡ Some h.unit
    here = ap (λ xs. slice_get xs at) h.parts ∙ at_front h.front h.unit h.back

    zero_at : at ≡ 0 + at
    zero_at = omega arith

    own : same_name h.unit.name unit ≡ true
    own = is-same h.unit.name unit h.named

    no_offer : (hs : List Offer) → offers_of h.unit ≡ hs → find (is_offer unit op) hs ≡ None → find (is_offer unit op) (offers p) ≡ None
    no_offer hs e none =
        ap (λ xs. find (is_offer unit op) (flat_map offers_of xs)) h.parts ∙ find_unit offers_of (is_offer unit op) unit
        (offers_other unit op) h.front h.unit h.back h.before h.behind
        ∙ ap (find (is_offer unit op)) e ∙ none

    leads_by : (f : Form) → h.unit.form ≡ f → leads_to (program_software p) unit op
        ≡ callee_of (or_find (find (is_service unit op) (plain_of h.unit.name f))
        (or_find (find (is_service unit op) (protected_of h.unit.name f)) (find (is_service unit op) (requests_of h.unit.name f))))
    leads_by f e = ap callee_of (service_unit p unit op h
        ∙ ap (λ f. or_find (find (is_service unit op) (plain_of h.unit.name f))
        (or_find (find (is_service unit op) (protected_of h.unit.name f)) (find (is_service unit op) (requests_of h.unit.name f)))) e)

    no_lib : lib_of at h.unit ≡ None → first_where (λ l. same_name l.name unit) y.libraries ≡ None
    no_lib e = ap (λ xs. first_where (λ l. same_name l.name unit) (filter_map (λ u. library_by u.0 u.1.name u.1.form) (enumerate_from 0 xs))) h.parts
        ∙ nothing_made lib_of (λ l. l.name) lib_keeps unit 0 0 at h.front h.unit h.back h.before h.behind zero_at e

    no_obj : obj_of at h.unit ≡ None → first_where (λ l. same_name l.name unit) y.objects ≡ None
    no_obj e = ap (λ xs. first_where (λ l. same_name l.name unit) (filter_map (λ u. object_by u.0 u.1.name u.1.form) (enumerate_from 0 xs))) h.parts
        ∙ nothing_made obj_of (λ l. l.name) obj_keeps unit 0 0 at h.front h.unit h.back h.before h.behind zero_at e

    -- a passive unit
    plain_unit : (ops : List Operation) → h.unit.form ≡ Passive ops → Resolved p y unit op (callee y unit op) (leads_to (program_software p) unit op)
    plain_unit ops e = by (op_named op ops) refl
      where
        lib : PassiveUnit
        lib = record { unit = at; name = h.unit.name; ops = ops }

        is_made : IsMade lib_of (λ l. l.name) lib_keeps unit 0 0 us lib
        is_made = one_made lib_of (λ l. l.name) lib_keeps unit 0 0 at h.front h.unit h.back lib h.before h.named zero_at
            (ap (library_by at h.unit.name) e)

        leads : callee y unit op ≡ plain_by (op_named op ops)
        leads = found (Some (0 + is_made.place, lib)) _ _
            (ap (λ xs. first_where (λ l. same_name l.name unit) (filter_map (λ u. library_by u.0 u.1.name u.1.form) (enumerate_from 0 xs))) h.parts ∙
            is_made.found) refl refl

        texts : leads_to (program_software p) unit op
            ≡ callee_of (or_find (option_map (λ x. under h.unit.name services.Plain x.1) (op_named op ops)) None)
        texts = leads_by (Passive ops) e ∙ ap (λ o. callee_of (or_find o None)) (own_ops unit op h.unit.name services.Plain 0 ops own)

        by : (o : Option (ℕ × Operation)) → op_named op ops ≡ o → Resolved p y unit op (callee y unit op) (leads_to (program_software p) unit op)
        by None g = by_both Unknown runs.Unknown (leads ∙ ap plain_by g)
            (texts ∙ ap (λ o. callee_of (or_find (option_map (λ x. under h.unit.name services.Plain x.1) o) None)) g)
            (No_one (no_offer (map (λ s. record { object = h.unit.name; sig = s }) (map (λ o. o.sig) ops))
            (ap (λ f. map (λ s. let o : Offer = record { object = h.unit.name; sig = s } in o) (heads f)) e)
            (offers_ops unit op h.unit.name 0 ops g)))
        by (Some (j, o)) g =
            let is = first-where (is_op op) ops j o g in
            by_both (Plain o) (runs.Plain o) (leads ∙ ap plain_by g)
            (texts ∙ ap (λ o. callee_of (or_find (option_map (λ x. under h.unit.name services.Plain x.1) o) None)) g)
            (One_plain at h.unit ops j o here e is.0 h.named (same-is o.sig.name op is.1))

    -- a protected object
    protected_unit : (ceiling : ℕ) (vars : List Datum) (ops : List Operation) → h.unit.form ≡ Shared ceiling vars ops
        → Resolved p y unit op (callee y unit op) (leads_to (program_software p) unit op)
    protected_unit ceiling vars ops e = by (op_named op ops) refl
      where
        obj : ProtectedUnit
        obj = record { unit = at; name = h.unit.name; ceiling = ceiling; vars = vars; ops = ops }

        is_made : IsMade obj_of (λ l. l.name) obj_keeps unit 0 0 us obj
        is_made = one_made obj_of (λ l. l.name) obj_keeps unit 0 0 at h.front h.unit h.back obj h.before h.named zero_at
            (ap (object_by at h.unit.name) e)

        stands : slice_get y.objects (0 + is_made.place) ≡ Some obj
        stands =
            ap (slice_get y.objects) (let g : 0 + is_made.place ≡ is_made.place = omega arith in g)
            ∙ ap (λ xs. slice_get (filter_map (λ u. object_by u.0 u.1.name u.1.form) (enumerate_from 0 xs)) is_made.place) h.parts ∙ is_made.at

        leads : callee y unit op ≡ protected_by (0 + is_made.place, obj) (op_named op ops)
        leads = found None (Some (0 + is_made.place, obj)) _ (no_lib (ap (library_by at h.unit.name) e))
            (ap (λ xs. first_where (λ l. same_name l.name unit) (filter_map (λ u. object_by u.0 u.1.name u.1.form) (enumerate_from 0 xs))) h.parts ∙
            is_made.found) refl

        texts : leads_to (program_software p) unit op
            ≡ callee_of (or_find (option_map (λ x. under h.unit.name services.Protected x.1) (op_named op ops)) None)
        texts = leads_by (Shared ceiling vars ops) e ∙ ap (λ o. callee_of (or_find o None)) (own_ops unit op h.unit.name services.Protected 0 ops own)

        by : (o : Option (ℕ × Operation)) → op_named op ops ≡ o → Resolved p y unit op (callee y unit op) (leads_to (program_software p) unit op)
        by None g = by_both Unknown runs.Unknown (leads ∙ ap (protected_by (0 + is_made.place, obj)) g)
            (texts ∙ ap (λ o. callee_of (or_find (option_map (λ x. under h.unit.name services.Protected x.1) o) None)) g)
            (No_one (no_offer (map (λ s. record { object = h.unit.name; sig = s }) (map (λ o. o.sig) ops))
            (ap (λ f. map (λ s. let o : Offer = record { object = h.unit.name; sig = s } in o) (heads f)) e)
            (offers_ops unit op h.unit.name 0 ops g)))
        by (Some (j, o)) g =
            let is = first-where (is_op op) ops j o g in
            by_both (Protected (0 + is_made.place) j obj o) (runs.Protected o.sig.params) (leads ∙ ap (protected_by (0 + is_made.place, obj)) g)
            (texts ∙ ap (λ o. callee_of (or_find (option_map (λ x. under h.unit.name services.Protected x.1) o) None)) g)
            (One_protected at h.unit ceiling vars ops (0 + is_made.place) j obj o here e is.0 h.named (same-is o.sig.name op is.1) stands refl)

    -- a task
    task_unit : (th : TaskUnit) → task_of a at h.unit ≡ Some th → lib_of at h.unit ≡ None → obj_of at h.unit ≡ None
        → (place : ℕ) × (callee y unit op ≡ request_if op place th.timing) × (slice_get y.threads place ≡ Some th)
    task_unit th e no_l no_o =
        let is_made : IsMade (task_of a) (λ l. l.name) (task_keeps a) unit 0 0 us th =
        one_made (task_of a) (λ l. l.name) (task_keeps a) unit 0 0 at h.front h.unit h.back th h.before h.named zero_at e in (
          0 + is_made.place,
          found None None (Some (0 + is_made.place, th)) (no_lib no_l) (no_obj no_o)
              (ap (λ xs. first_where (λ l. same_name l.name unit)
              (filter_map (λ u. thread_by (durations a u.0) u.0 u.1.name u.1.form) (enumerate_from 0 xs))) h.parts ∙ is_made.found),
          ap (slice_get y.threads) (let g : 0 + is_made.place ≡ is_made.place = omega arith in g)
              ∙ ap (λ xs. slice_get (filter_map (λ u. thread_by (durations a u.0) u.0 u.1.name u.1.form) (enumerate_from 0 xs))
              is_made.place) h.parts ∙ is_made.at,
        )

    cyclic_unit : (priority offset period : ℕ) (vars : List Datum) (block : Statements) → h.unit.form ≡ Cyclic priority offset period vars block
        → Resolved p y unit op (callee y unit op) (leads_to (program_software p) unit op)
    cyclic_unit priority offset period vars block e =
        let t = task_unit (record {
          unit = at;
          name = h.unit.name;
          priority = priority;
          timing = Periodic offset period;
          vars = vars;
          block = block;
          durations = durations a at;
        }) (ap (thread_by (durations a at) at h.unit.name) e) (ap (library_by at h.unit.name) e) (ap (object_by at h.unit.name) e) in
        by_both Unknown runs.Unknown t.1 (leads_by (Cyclic priority offset period vars block) e)
        (No_one (no_offer [] (ap (λ f. map (λ s. let o : Offer = record { object = h.unit.name; sig = s } in o) (heads f)) e) refl))

    sporadic_unit : (priority ceiling : ℕ) (sig : Signature) (separation jitter : ℕ) (external : Bool) (vars : List Datum) (block : Statements)
        → h.unit.form ≡ Sporadic priority ceiling sig separation jitter external vars block
        → Resolved p y unit op (callee y unit op) (leads_to (program_software p) unit op)
    sporadic_unit priority ceiling sig separation jitter external vars block e = by (same_name sig.name op) refl
      where
        th : TaskUnit
        th = record {
          unit = at;
          name = h.unit.name;
          priority = priority;
          timing = Requested sig ceiling separation jitter external;
          vars = vars;
          block = block;
          durations = durations a at;
        }

        t : (place : ℕ) × (callee y unit op ≡ request_if op place th.timing) × (slice_get y.threads place ≡ Some th)
        t = task_unit th (ap (thread_by (durations a at) at h.unit.name) e) (ap (library_by at h.unit.name) e) (ap (object_by at h.unit.name) e)

        texts : leads_to (program_software p) unit op
            ≡ callee_of (cond (same_name h.unit.name unit && same_name sig.name op) (Some (services.request_service h.unit.name sig)) None)
        texts = leads_by (Sporadic priority ceiling sig separation jitter external vars block) e

        texts_by : (b : Bool) → same_name sig.name op ≡ b → leads_to (program_software p) unit op
            ≡ callee_of (cond b (Some (services.request_service h.unit.name sig)) None)
        texts_by b g = texts ∙ ap (λ c. callee_of (cond (c && same_name sig.name op) (Some (services.request_service h.unit.name sig)) None)) own
            ∙ ap (λ c. callee_of (cond c (Some (services.request_service h.unit.name sig)) None)) g

        one : Offer
        one = record { object = h.unit.name; sig = sig }

        none_for : (b : Bool) → cond (b && false) (Some one) None ≡ None
        none_for true = refl
        none_for false = refl

        by : (b : Bool) → same_name sig.name op ≡ b → Resolved p y unit op (callee y unit op) (leads_to (program_software p) unit op)
        by true g = by_both (Request t.0) runs.Asked (t.1 ∙ ap (λ b. if b then Request t.0 else Unknown) g) (texts_by true g)
            (One_request at h.unit t.0 th here h.named t.2 refl (same-is sig.name op g))
        by false g = by_both Unknown runs.Unknown (t.1 ∙ ap (λ b. if b then Request t.0 else Unknown) g) (texts_by false g)
            (No_one (no_offer (one ∷ []) (ap (λ f. map (λ s. let o : Offer = record { object = h.unit.name; sig = s } in o) (heads f)) e)
            (ap (λ b. cond (same_name h.unit.name unit && b) (Some one) None) g ∙ none_for (same_name h.unit.name unit))))

    by_form : (f : Form) → h.unit.form ≡ f → Resolved p y unit op (callee y unit op) (leads_to (program_software p) unit op)
    by_form (Passive ops) e = plain_unit ops e
    by_form (Shared ceiling vars ops) e = protected_unit ceiling vars ops e
    by_form (Cyclic priority offset period vars block) e = cyclic_unit priority offset period vars block e
    by_form (Sporadic priority ceiling sig separation jitter external vars block) e
        = sporadic_unit priority ceiling sig separation jitter external vars block e

  pub resolve : AreApart p.units → Resolved p y unit op (callee y unit op) (leads_to (program_software p) unit op)
  resolve far = by (unit_of_name p.units unit far)
    where
      by : IsUnit p.units unit ⊎ AreOthers unit p.units → Resolved p y unit op (callee y unit op) (leads_to (program_software p) unit op)
      by (inl h) = by_form h h.unit.form refl
      by (inr others) = no_one others
