-- Requests from outside: accepted arrivals are for units that say so, and no task of a program that meets the rules can request these.
use Rattle.std.specs.Prelude.{◌≡◌, ℕ, true, false, not, slice_get, Some, if◌then◌else◌}
use Rattle.std.proofs.Common.{sym, ◌∙◌, ap, subst}
use Rattle.std.proofs.lemmas.Bool.{true≢false}
use Rattle.std.proofs.lemmas.Option.{same_Some}
use Rattle.seq_tree.specs.Names.{Name, same_name}
use Rattle.ada_tree.specs.Programs.{Unit, Program, Sporadic}
use Rattle.ada_tree.specs.Uses.{is_requested, breaks_external}
use Rattle.ada_tree.specs.Rules.{MeetsRules}
use Rattle.arrivals_tree.specs.declared.arrivals.Arrival.{Arrival}
use Rattle.arrivals_tree.specs.Arriving.{Arrivals}
use Rattle.machine.specs.Systems.{TaskUnit, ReleasePattern, Periodic, Requested, system}
use Rattle.law_lists.proofs.Shared.Facts.{same-is}
use Rattle.law_calls.proofs.Shared.Systems.{thread_form, thread-at, LeadsToTask, IsAskedBy}
use Rattle.law_calls.proofs.Shared.UnitRules.{externals-kept}
use Rattle.law_calls.proofs.Shared.Accepted.{IsExternal, IsFor}

-- no task can request it
external-not : (p : Program) → MeetsRules p → (k : ℕ) (u : Unit) → slice_get p.units k ≡ Some u → (t : TaskUnit) → u.name ≡ t.name
    → (timing : ReleasePattern) → thread_form t timing u.form
    → (unit op : Name) → same_name t.name unit ≡ true → IsAskedBy op timing → is_requested p (record { object = unit; op = op }) ≡ true
    → IsExternal u.form → ⊥
external-not p rules k u at t name (Periodic offset period) form unit op named asked made external = asked
external-not p rules k u at t name (Requested sig ceiling separation jitter external') form unit op named asked made external =
    let outside : external' ≡ true = subst IsExternal form external in
    let unit-is : t.name ≡ unit = same-is t.name unit named in
    let op-is : sig.name ≡ op = same-is sig.name op asked in
    let called : is_requested p (record { object = u.name; op = sig.name }) ≡ true =
    ap (λ n. is_requested p (record { object = n; op = sig.name })) (name ∙ unit-is) ∙ ap (λ n. is_requested p (record { object = unit; op = n }))
    op-is ∙ made in
    let breaks : breaks_external p u.name (Sporadic t.priority ceiling sig separation jitter external' t.vars t.block) ≡ false =
    subst (λ f. breaks_external p u.name f ≡ false) form (externals-kept p rules k u at) in
    let inside : external' ≡ false = ap (λ c. if c then external' else not external') (sym called) ∙ breaks in
    true≢false (sym outside ∙ inside)

-- so an arrival is for no task that some task can request
pub requested-elsewhere : (p : Program) (a : Arrivals) → MeetsRules p → (unit op : Name) (task : ℕ) → LeadsToTask (system p a) unit op task
    → is_requested p (record { object = unit; op = op }) ≡ true
    → (x : Arrival) → IsFor p x → (t : TaskUnit) → slice_get (system p a).threads task ≡ Some t → t.unit ≡ x.task → ⊥
requested-elsewhere p a rules unit op task l made x f t at unit' =
    let same : l.thread ≡ t = same_Some l.thread t (sym l.stands ∙ at) in
    let found = thread-at p a task t at in
    let is = found.2 in
    let place : found.0 ≡ x.task = sym is.unit ∙ unit' in
    let u-is : found.1 ≡ f.unit = same_Some found.1 f.unit (sym is.stands ∙ ap (slice_get p.units) place ∙ f.stands) in
    external-not p rules found.0 found.1 is.stands t is.name t.timing is.form unit op
    (subst (λ z. same_name z.name unit ≡ true) same l.named) (subst (λ z. IsAskedBy op z.timing) same l.asked) made
    (subst (λ z. IsExternal z.form) (sym u-is) f.external)
