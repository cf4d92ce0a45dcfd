-- The setting of the tasks of a program that meets the rules is apt: names and calls are those of the texts, good calls lead to fit bodies,
-- and passive operations call each other in no ring.
use Rattle.std.specs.Prelude.{◌≡◌, ℕ, false, List, [], map, find, slice_get, unwrap_or, option_map, Some, refl}
use Rattle.std.proofs.Common.{sym, ◌∙◌, ap}
use Rattle.std.proofs.lemmas.Option.{slice_get-map, none-some}
use Rattle.seq_tree.specs.Names.{Name}
use Rattle.seq_tree.specs.Operations.{Signature, Operation, Offer}
use Rattle.seq_tree.specs.Runs as runs
use Rattle.seq_tree.specs.declared.tree.Datum.{Datum}
use Rattle.seq_tree.specs.declared.tree.OpName.{OpName}
use Rattle.ada_tree.specs.Programs.{Form, Unit, Program, Passive, Shared}
use Rattle.ada_tree.specs.Bodies.{Body, bodies, op_body, heads, offers}
use Rattle.ada_tree.specs.Rules.{MeetsRules}
use Rattle.arrivals_tree.specs.Arriving.{Arrivals}
use Rattle.trace_tree.specs.Lines.{unit_name, unit_ops}
use Rattle.guarantee.specs.Events.{op_at}
use Rattle.guarantee.specs.Software.{program_software, leads_to}
use Rattle.machine.specs.Systems.{System, system, ProtectedUnit, TaskUnit, CallTarget, Protected, Request, callee}
use Rattle.machine.specs.Effects.{object_unit, task_unit}
use Rattle.law_tasks.proofs.Shared.Courses.{IsApt, IsFitCallee, FitBlock, seen}
use Rattle.law_tasks.proofs.Shared.Programs.{entry_name, request_name, asked_op, IsKnown, Leads, course}
use Rattle.law_calls.proofs.Shared.UnitNames.{AreApart, name-at}
use Rattle.law_calls.proofs.Shared.Resolved.{Resolved, No_one, One_plain, One_protected, One_request, is_offer, resolve, asked_by}
use Rattle.law_calls.proofs.Shared.Apart.{units_apart}
use Rattle.law_tasks.proofs.FitPrograms.{body_fits}
use Rattle.law_calls.proofs.Shared.Passives.{passive-deep}
use Rattle.law_calls.proofs.Shared.Threads.{unit_ops-at}

module _ (p : Program) (a : Arrivals) (meets : MeetsRules p) where
  abbrev y : System
  y = system p a

  far : AreApart p.units
  far = units_apart p meets

  resolved : (unit op : Name) → Resolved p y unit op (callee y unit op) (leads_to (program_software p) unit op)
  resolved unit op = resolve p a unit op far

  -- the texts agree
  leads_by : (unit op : Name) (k : CallTarget) (r : runs.Callee) → Resolved p y unit op k r → r ≡ seen k
  leads_by unit op k r (No_one none) = refl
  leads_by unit op k r (One_plain i u ops j o at form op_at' named op_named) = refl
  leads_by unit op k r (One_protected i u ceiling vars ops object j g o at form op_at' named op_named stands unit_at) = refl
  leads_by unit op k r (One_request i u task th at named stands unit_at asked) = refl

  -- a call that is offered leads somewhere
  known_by : (unit op : Name) (k : CallTarget) (r : runs.Callee) → Resolved p y unit op k r → (o : Offer)
      → find (is_offer unit op) (offers p) ≡ Some o → IsKnown k
  known_by unit op k r (No_one none) o e = absurd (none-some o (sym none ∙ e))
  known_by unit op k r (One_plain i u ops j q at form op_at' named op_named) o e = tt
  known_by unit op k r (One_protected i u ceiling vars ops object j g q at form op_at' named op_named stands unit_at) o e = tt
  known_by unit op k r (One_request i u task th at named stands unit_at asked) o e = tt

  known : (unit op : Name) (o : Offer) → find (is_offer unit op) (offers p) ≡ Some o → Leads y unit op
  known unit op o e = known_by unit op (callee y unit op) (leads_to (program_software p) unit op) (resolved unit op) o e

  -- the bodies of operations
  op_fits : (i : ℕ) (u : Unit) (f : Form) (ops : List Operation) (j : ℕ) (o : Operation) → slice_get p.units i ≡ Some u → u.form ≡ f
      → bodies f ≡ map op_body ops → slice_get ops j ≡ Some o
      → FitBlock (Leads y) false o.block
  op_fits i u f ops j o at form are op_at' =
      body_fits p meets (Leads y) known i u j (op_body o) at (ap (λ f. slice_get (bodies f) j) form ∙ ap
      (λ bs. slice_get bs j) are ∙ slice_get-map op_body ops j ∙ ap (option_map op_body) op_at')

  closed_by : (unit op : Name) (k : CallTarget) (r : runs.Callee) → Resolved p y unit op k r → IsKnown k → IsFitCallee (Leads y) k
  closed_by unit op k r (No_one none) e = e
  closed_by unit op k r (One_plain i u ops j o at form op_at' named op_named) e = op_fits i u (Passive ops) ops j o at form refl op_at'
  closed_by unit op k r (One_protected i u ceiling vars ops object j g o at form op_at' named op_named stands unit_at) e
      = op_fits i u (Shared ceiling vars ops) ops j o at form refl op_at'
  closed_by unit op k r (One_request i u task th at named stands unit_at asked) e = tt

  -- names
  op_name_at : (i : ℕ) (u : Unit) (ceiling : ℕ) (vars : List Datum) (ops : List Operation) (j : ℕ) (o : Operation) → slice_get p.units i ≡ Some u
      → u.form ≡ Shared ceiling vars ops → slice_get ops j ≡ Some o
      → unwrap_or (option_map (λ s. s.name) (slice_get (unit_ops p i) j)) [] ≡ o.sig.name
  op_name_at i u ceiling vars ops j o at form op_at' =
      ap (λ hs. unwrap_or (option_map (λ (s : Signature). s.name) (slice_get hs j)) []) (unit_ops-at p i u at ∙ ap heads form)
      ∙ ap (λ s. unwrap_or (option_map (λ (s : Signature). s.name) s) []) (slice_get-map (λ o. o.sig) ops j ∙ ap (option_map (λ o. o.sig)) op_at')

  same_names : (object object' op op' : Name) → object ≡ object' → op ≡ op' → (let n : OpName = record { object = object; op = op } in n)
      ≡ record { object = object'; op = op' }
  same_names object object' op op' e f = ap (λ x. let n : OpName = record { object = x; op = op }
      in n) e ∙ ap (λ x. record { object = object'; op = x }) f

  entries_by : (unit op : Name) (k : CallTarget) (r : runs.Callee) → Resolved p y unit op k r → (object j : ℕ) (g : ProtectedUnit) (o : Operation)
      → k ≡ Protected object j g o
      → entry_name p y object j ≡ record { object = unit; op = op }
  entries_by unit op k r (No_one none) object j g o e = absurd cc
  entries_by unit op k r (One_plain i u ops j' o' at form op_at' named op_named) object j g o e = absurd cc
  entries_by unit op k r (One_request i u task th at named stands unit_at asked) object j g o e = absurd cc
  entries_by unit op k r (One_protected i u ceiling vars ops object' j' g' o' at form op_at' named op_named stands unit_at) object j g o e =
      let same_object : object' ≡ object = cc in
      let same_op : j' ≡ j = cc in
      let unit_is : object_unit y object' ≡ i = ap (λ x. unwrap_or (option_map (λ (g : ProtectedUnit). g.unit) x) 0) stands ∙ unit_at in
      ap (λ n. entry_name p y n j) (sym same_object) ∙ ap (entry_name p y object') (sym same_op)
      ∙ ap (λ n. op_at p n j') unit_is
      ∙ same_names (unit_name p i) unit _ op (name-at p i u at ∙ named) (op_name_at i u ceiling vars ops j' o' at form op_at' ∙ op_named)

  requests_by : (unit op : Name) (k : CallTarget) (r : runs.Callee) → Resolved p y unit op k r → (task : ℕ) → k ≡ Request task
      → request_name p y task ≡ record { object = unit; op = op }
  requests_by unit op k r (No_one none) task e = absurd cc
  requests_by unit op k r (One_plain i u ops j' o' at form op_at' named op_named) task e = absurd cc
  requests_by unit op k r (One_protected i u ceiling vars ops object j g o at form op_at' named op_named stands unit_at) task e = absurd cc
  requests_by unit op k r (One_request i u task' th at named stands unit_at asked) task e =
      let same : task' ≡ task = cc in
      let unit_is : task_unit y task' ≡ i = ap (λ x. unwrap_or (option_map (λ (t : TaskUnit). t.unit) x) 0) stands ∙ unit_at in
      let op_is : asked_op y task' ≡ op = ap (λ x. unwrap_or (option_map (λ (t : TaskUnit). asked_by t.timing) x) []) stands ∙ asked in
      ap (request_name p y) (sym same) ∙ same_names (unit_name p (task_unit y task')) unit (asked_op y task') op
      (ap (unit_name p) unit_is ∙ name-at p i u at ∙ named) op_is

  -- the setting is apt
  pub apt : IsApt (course p a)
  apt = record {
    leads = λ unit op. leads_by unit op (callee y unit op) (leads_to (program_software p) unit op) (resolved unit op);
    entries = λ unit op object k g o e. entries_by unit op (callee y unit op) (leads_to (program_software p) unit op) (resolved unit
        op) object k g o e;
    requests = λ unit op task e. requests_by unit op (callee y unit op) (leads_to (program_software p) unit op) (resolved unit op) task e;
    closed = λ unit op good. closed_by unit op (callee y unit op) (leads_to (program_software p) unit op) (resolved unit op) good;
    depth = λ unit op good. (_, passive-deep p a meets (record { object = unit; op = op }));
  }

  -- the bodies of its units are fit
  pub fit_body : (i : ℕ) (u : Unit) (j : ℕ) (b : Body) → slice_get p.units i ≡ Some u → slice_get (bodies u.form) j ≡ Some b
      → FitBlock (Leads y) false b.block
  fit_body i u j b at at_body = body_fits p meets (Leads y) known i u j b at at_body
