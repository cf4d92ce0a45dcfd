-- What a call leads to, by the names of a program's operations: its sort, its body, and the ceiling of its unit.
use Rattle.std.specs.Prelude.{◌≡◌, ℕ, true, cond, List, [], ◌∷◌, ◌++◌, find, slice_get, Option, Some, None, option_map, unwrap_or, ⊤, refl}
use Rattle.std.proofs.Common.{sym, ◌∙◌, ap, subst}
use Rattle.std.proofs.lemmas.Option.{same_Some}
use Rattle.seq_tree.specs.Names.{Name, same_name}
use Rattle.seq_tree.specs.Operations.{Operation}
use Rattle.seq_tree.specs.Runs as runs
use Rattle.ada_tree.specs.Programs.{Form, Unit, Program, Shared}
use Rattle.arrivals_tree.specs.Arriving.{Arrivals}
use Rattle.ods_tree.specs.Services.{Service, Sort, is_service, service_named, callee_of, callee_by}
use Rattle.ods_tree.specs.Services as sort
use Rattle.guarantee.specs.Software.{program_software, leads_to}
use Rattle.guarantee.specs.ResponseLaw.{ceiling_of, ceiling_named, program_services}
use Rattle.machine.specs.Systems.{System, TaskUnit, ReleasePattern, Periodic, Requested, CallTarget, Plain, Protected, Request, Unknown, system}
use Rattle.machine.specs.Systems.{callee}
use Rattle.machine.specs.Effects.{ceiling_by}
use Rattle.law_calls.proofs.Shared.UnitNames.{AreOthers, AreApart, IsUnit, only-unit, unit-there}
use Rattle.law_calls.proofs.Shared.Callees.{or_find, under, plain_of, protected_of, requests_of, own_ops, service_unit}
use Rattle.law_calls.proofs.Shared.Resolved.{Resolved, No_one, One_plain, One_protected, One_request, resolve}
use Rattle.law_calls.proofs.Shared.Systems.{thread_form, object-at, thread-at, LeadsTo, leads-to}
use Rattle.law_lists.proofs.Shared.Facts.{is-same}

found-unit : (name : Name) (front back : List Unit) (v : Unit) → AreOthers name front → same_name v.name name ≡ true
    → find (λ u. same_name u.name name) (front ++ v ∷ back) ≡ Some v
found-unit name [] back v before named = ap (λ b. cond b (Some v) (find (λ u. same_name u.name name) back)) named
found-unit name (w ∷ front) back v before named =
    ap (λ b. cond b (Some w) (find (λ u. same_name u.name name) (front ++ v ∷ back))) before.0 ∙ found-unit name front back v before.1 named

pub ceiling-is : (p : Program) (name : Name) (h : IsUnit p.units name) → ceiling_named p name ≡ ceiling_of h.unit.form
ceiling-is p name h =
    ap (λ us. unwrap_or (option_map (λ u. ceiling_of u.form) (find (λ u. same_name u.name name) us)) 0) h.parts
    ∙ ap (λ o. unwrap_or (option_map (λ (u : Unit). ceiling_of u.form) o) 0)
    (found-unit name h.front h.back h.unit h.before (is-same h.unit.name name h.named))

-- what the operation of a call is by its names
pub record IsServed (p : Program) (unit op : Name) (s : Sort) (o : Operation) : Type 0 where
  pub service : Service
  pub found : service_named (program_services p) unit op ≡ Some service
  pub sorts : service.sort ≡ s
  pub does : service.op ≡ o

pub record IsRequestServed (p : Program) (unit op : Name) : Type 0 where
  pub service : Service
  pub found : service_named (program_services p) unit op ≡ Some service
  pub sorts : service.sort ≡ sort.Request

abbrev pub ServedAs : Program → System → Name → Name → CallTarget → Type 0
ServedAs p y unit op (Plain o) = IsServed p unit op sort.Plain o
ServedAs p y unit op (Protected object j g o) = IsServed p unit op sort.Protected o × (ceiling_named p unit ≡ g.ceiling)
ServedAs p y unit op (Request task) = IsRequestServed p unit op × ((t : TaskUnit) → slice_get y.threads task ≡ Some t
    → ceiling_named p unit ≡ ceiling_by t.timing)
ServedAs p y unit op Unknown = service_named (program_services p) unit op ≡ None

-- a plain operation
plain-served : (p : Program) (unit op : Name) (o : Operation) → leads_to (program_software p) unit op ≡ runs.Plain o → IsServed p unit op sort.Plain o
plain-served p unit op o e = by (service_named (program_services p) unit op) refl e
  where
    sorted : (s : Service) → service_named (program_services p) unit op ≡ Some s → (x : Sort) → s.sort ≡ x → callee_by x s.op ≡ runs.Plain o
        → IsServed p unit op sort.Plain o
    sorted s found sort.Plain is f = let does : s.op ≡ o = cc in record { service = s; found = found; sorts = is; does = does }
    sorted s found sort.Protected is f = absurd (no f)
      where
        no : runs.Protected s.op.sig.params ≡ runs.Plain o → ⊥
        no z = cc
    sorted s found sort.Request is f = absurd (no f)
      where
        no : runs.Asked ≡ runs.Plain o → ⊥
        no z = cc

    by : (x : Option Service) → service_named (program_services p) unit op ≡ x → callee_of x ≡ runs.Plain o → IsServed p unit op sort.Plain o
    by None found f = absurd (no f)
      where
        no : runs.Unknown ≡ runs.Plain o → ⊥
        no z = cc
    by (Some s) found f = sorted s found s.sort refl f

asked-served : (p : Program) (unit op : Name) → leads_to (program_software p) unit op ≡ runs.Asked → IsRequestServed p unit op
asked-served p unit op e = by (service_named (program_services p) unit op) refl e
  where
    sorted : (s : Service) → service_named (program_services p) unit op ≡ Some s → (x : Sort) → s.sort ≡ x → callee_by x s.op ≡ runs.Asked
        → IsRequestServed p unit op
    sorted s found sort.Plain is f = absurd (no f)
      where
        no : runs.Plain s.op ≡ runs.Asked → ⊥
        no z = cc
    sorted s found sort.Protected is f = absurd (no f)
      where
        no : runs.Protected s.op.sig.params ≡ runs.Asked → ⊥
        no z = cc
    sorted s found sort.Request is f = record { service = s; found = found; sorts = is }

    by : (x : Option Service) → service_named (program_services p) unit op ≡ x → callee_of x ≡ runs.Asked → IsRequestServed p unit op
    by None found f = absurd (no f)
      where
        no : runs.Unknown ≡ runs.Asked → ⊥
        no z = cc
    by (Some s) found f = sorted s found s.sort refl f

none-served : (p : Program) (unit op : Name) → leads_to (program_software p) unit op ≡ runs.Unknown
    → service_named (program_services p) unit op ≡ None
none-served p unit op e = by (service_named (program_services p) unit op) refl e
  where
    sorted : (s : Service) (x : Sort) → callee_by x s.op ≡ runs.Unknown → ⊥
    sorted s sort.Plain f = cc
    sorted s sort.Protected f = cc
    sorted s sort.Request f = cc

    by : (x : Option Service) → service_named (program_services p) unit op ≡ x → callee_of x ≡ runs.Unknown
        → service_named (program_services p) unit op ≡ None
    by None found f = found
    by (Some s) found f = absurd (sorted s s.sort f)

-- the text's side of what is resolved
abbrev pub Text : CallTarget → runs.Callee → Type 0
Text (Plain o) r = r ≡ runs.Plain o
Text (Protected object j g o) r = ⊤
Text (Request task) r = r ≡ runs.Asked
Text Unknown r = r ≡ runs.Unknown

text-of : (p : Program) (y : System) (unit op : Name) (c : CallTarget) (r : runs.Callee) → Resolved p y unit op c r → Text c r
text-of p y unit op c r (No_one none) = refl
text-of p y unit op c r (One_plain i u ops j o at form holds named called) = refl
text-of p y unit op c r (One_protected i u ceiling vars ops object k g o at form holds named called stands unit-is) = tt
text-of p y unit op c r (One_request i u task th at named stands unit-is asked) = refl

pub served-as : (p : Program) (a : Arrivals) → AreApart p.units → (unit op : Name) → ServedAs p (system p a) unit op (callee (system p a) unit op)
served-as p a apart unit op =
    by (callee (system p a) unit op) (leads-to (system p a) unit op)
    (text-of p (system p a) unit op (callee (system p a) unit op) (leads_to (program_software p) unit op) (resolve p a unit op apart))
  where
    by : (c : CallTarget) → LeadsTo (system p a) unit op c → Text c (leads_to (program_software p) unit op) → ServedAs p (system p a) unit op c
    by (Plain o) l text = plain-served p unit op o text
    by (Protected object j g o) l text =
        let found = object-at p a object g l.stands in
        let is = found.2 in
        let name : found.1.name ≡ g.name = is.name in
        let named : same_name found.1.name unit ≡ true = ap (λ n. same_name n unit) name ∙ l.named in
        let h = unit-there p.units unit apart found.0 found.1 is.stands named in
        let one : found.1 ≡ h.unit = only-unit p.units unit h found.0 found.1 is.stands named in
        let form : h.unit.form ≡ Shared g.ceiling g.vars g.ops = ap (λ u. u.form) (sym one) ∙ is.form in
        let own = own_ops unit op h.unit.name sort.Protected 0 g.ops (is-same h.unit.name unit h.named) in
        let parts : or_find (find (is_service unit op) (plain_of h.unit.name h.unit.form))
        (or_find (find (is_service unit op) (protected_of h.unit.name h.unit.form)) (find (is_service unit op) (requests_of h.unit.name h.unit.form)))
        ≡ Some (under h.unit.name sort.Protected o) =
        subst (λ f. or_find (find (is_service unit op) (plain_of h.unit.name f))
        (or_find (find (is_service unit op) (protected_of h.unit.name f)) (find (is_service unit op) (requests_of h.unit.name f)))
        ≡ Some (under h.unit.name sort.Protected o)) (sym form)
        (ap (λ x. or_find x None) (own ∙ ap (option_map (λ (x : ℕ × Operation). under h.unit.name sort.Protected x.1)) l.first)) in (
          record { service = under h.unit.name sort.Protected o; found = service_unit p unit op h ∙ parts; sorts = refl; does = refl },
          ceiling-is p unit h ∙ ap ceiling_of form,
        )
    by (Request task) l text = (
      asked-served p unit op text,
      λ t at.
          let found = thread-at p a task t at in
          let is = found.2 in
          let same : l.thread ≡ t = same_Some l.thread t (sym l.stands ∙ at) in
          let name : found.1.name ≡ t.name = is.name in
          let named : same_name found.1.name unit ≡ true = ap (λ n. same_name n unit) (name ∙ ap (λ z. z.name) (sym same)) ∙ l.named in
          let h = unit-there p.units unit apart found.0 found.1 is.stands named in
          let one : found.1 ≡ h.unit = only-unit p.units unit h found.0 found.1 is.stands named in
          ceiling-is p unit h ∙ ap (λ u. ceiling_of u.form) (sym one) ∙ timed t t.timing found.1.form is.form,
    )
      where
        timed : (t : TaskUnit) (x : ReleasePattern) (f : Form) → thread_form t x f → ceiling_of f ≡ ceiling_by x
        timed t (Periodic offset period) f form = ap ceiling_of form
        timed t (Requested sig ceiling separation jitter external) f form = ap ceiling_of form
    by Unknown l text = none-served p unit op text
