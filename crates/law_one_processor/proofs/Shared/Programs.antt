-- The law for programs: the events of a run fit one processor, by the places of units and by their names.
use Rattle.std.specs.Prelude.{◌≡◌, ℕ, Bool, true, ◌==◌, List, [], ◌∷◌, ◌++◌, map, slice_get, Some, if◌then◌else◌, refl}
use Rattle.std.proofs.Common.{sym, ◌∙◌, ap, subst, arith}
use Rattle.std.proofs.lemmas.Bool.Decides.{nat_tests}
use Rattle.seq_tree.specs.Names.{same_name}
use Rattle.ada_tree.specs.Programs.{Program}
use Rattle.ada_tree.specs.Rules.{MeetsRules}
use Rattle.arrivals_tree.specs.Arriving.{Arrivals}
use Rattle.trace_tree.specs.Lines.{unit_name}
use Rattle.trace_tree.specs.declared.event.Event as machine
use Rattle.trace_tree.specs.declared.event.Event.TheVariants as event
use Rattle.machine.specs.Systems.{System, TaskUnit, system}
use Rattle.machine.specs.States.{first_task}
use Rattle.machine.specs.Meanings.{Meaning, start}
use Rattle.guarantee.specs.Events.{named}
use Rattle.law_calls.proofs.Shared.Apart.{units_apart}
use Rattle.law_calls.proofs.Shared.Systems.{thread-at, threads-differ}
use Rattle.law_calls.proofs.Shared.UnitNames.{name-at, places-apart}
use Rattle.law_lists.proofs.Shared.Facts.{same-is, same-self}
use Rattle.law_lists.proofs.Shared.Places.{mapped-at}
use Rattle.law_one_processor.specs.Demand.{FitOneProcessor}
use Rattle.law_one_processor.specs.Activations.{ended_by, next_end, activations, next_end_at, told_activations}
use Rattle.law_one_processor.proofs.Shared.Fitting.{next_by, ends_by, account, accounts, Separate, run-fits}

-- the thread whose unit stands in the accounts of the opening
thread-of : (y : System) (i unit : ℕ) → slice_get (map (λ c. c.unit) (accounts (map first_task y.threads))) i ≡ Some unit
    → (t : TaskUnit) × (slice_get y.threads i ≡ Some t) × (t.unit ≡ unit)
thread-of y i unit at =
    let c = mapped-at (λ c. c.unit) (accounts (map first_task y.threads)) i unit at in
    let t = mapped-at account (map first_task y.threads) i c.0 c.1 in
    let th = mapped-at first_task y.threads i t.0 t.1 in
    (th.0, th.1, ap (λ x. x.thread.unit) th.2 ∙ ap (λ x. x.unit) t.2 ∙ c.2)

-- units by their places
abbrev by_place : ℕ → ℕ → Bool
by_place task unit = task == unit

place-self : (unit : ℕ) → by_place unit unit ≡ true
place-self unit = grind (arith, nat_tests)

same-place : (unit other : ℕ) → by_place unit other ≡ true → unit ≡ other
same-place unit other e = grind (arith, nat_tests)

places-separate : (p : Program) (r : Arrivals) → Separate by_place place-self (accounts (map first_task (system p r).threads))
places-separate p r i j unit other at at' same =
    let t = thread-of (system p r) i unit at in
    let u = thread-of (system p r) j other at' in
    threads-differ p r i j t.0 u.0 t.1 u.1 (t.2 ∙ same-place unit other same ∙ sym u.2)

next-placed : (told : List machine.Event) (unit : ℕ) → next_end_at unit told ≡ next_by by_place told unit
next-placed [] unit = refl
next-placed (event.Release time task value ∷ told) unit = next-placed told unit
next-placed (event.Arrive time task value ∷ told) unit = next-placed told unit
next-placed (event.Enter time task object op values ∷ told) unit = next-placed told unit
next-placed (event.Leave time task object op values ∷ told) unit = next-placed told unit
next-placed (event.Request time task target value ∷ told) unit = next-placed told unit
next-placed (event.Print time task value ∷ told) unit = next-placed told unit
next-placed (event.End time task used ∷ told) unit = ap (λ o. if task == unit then Some (time, used) else o) (next-placed told unit)
next-placed (event.Stop time task object priority ceiling ∷ told) unit = next-placed told unit
next-placed (event.Horizon time ∷ told) unit = next-placed told unit

ends-placed : (told : List machine.Event) → told_activations told ≡ ends_by by_place told
ends-placed [] = refl
ends-placed (event.Release time task value ∷ told) =
    ap (λ o. ended_by time o ++ told_activations told) (next-placed told task)
    ∙ ap (λ ws. ended_by time (next_by by_place told task) ++ ws) (ends-placed told)
ends-placed (event.Arrive time task value ∷ told) = ends-placed told
ends-placed (event.Enter time task object op values ∷ told) = ends-placed told
ends-placed (event.Leave time task object op values ∷ told) = ends-placed told
ends-placed (event.Request time task target value ∷ told) = ends-placed told
ends-placed (event.Print time task value ∷ told) = ends-placed told
ends-placed (event.End time task used ∷ told) = ends-placed told
ends-placed (event.Stop time task object priority ceiling ∷ told) = ends-placed told
ends-placed (event.Horizon time ∷ told) = ends-placed told

pub runs-fit : (p : Program) (r : Arrivals) (trace : List machine.Event) → Meaning p r trace → FitOneProcessor (told_activations trace)
runs-fit p r trace means =
    subst FitOneProcessor (ap (ends_by by_place) means.tells ∙ sym (ends-placed trace))
    (run-fits by_place place-self (system p r) means.steps (start p r) (places-separate p r))

-- units by their names
module _ (p : Program) where
  abbrev by_name : ℕ → ℕ → Bool
  by_name task unit = same_name (unit_name p task) (unit_name p unit)

  name-self : (unit : ℕ) → by_name unit unit ≡ true
  name-self unit = same-self (unit_name p unit)

  names-separate : (r : Arrivals) → MeetsRules p → Separate by_name name-self (accounts (map first_task (system p r).threads))
  names-separate r rules i j unit other at at' same =
      let t = thread-of (system p r) i unit at in
      let u = thread-of (system p r) j other at' in
      let x = thread-at p r i t.0 t.1 in
      let z = thread-at p r j u.0 u.1 in
      let t-is : unit ≡ x.0 = sym t.2 ∙ x.2.unit in
      let u-is : other ≡ z.0 = sym u.2 ∙ z.2.unit in
      let x-named : unit_name p unit ≡ x.1.name = ap (unit_name p) t-is ∙ name-at p x.0 x.1 x.2.stands in
      let z-named : unit_name p other ≡ z.1.name = ap (unit_name p) u-is ∙ name-at p z.0 z.1 z.2.stands in
      let alike : x.1.name ≡ z.1.name = sym x-named ∙ same-is (unit_name p unit) (unit_name p other) same ∙ z-named in
      let place : x.0 ≡ z.0 = places-apart p.units (units_apart p rules) x.0 z.0 x.1 z.1 x.2.stands z.2.stands alike in
      threads-differ p r i j t.0 u.0 t.1 u.1 (x.2.unit ∙ place ∙ sym z.2.unit)

  next-named : (told : List machine.Event) (unit : ℕ) → next_end (unit_name p unit) (named p told) ≡ next_by by_name told unit
  next-named [] unit = refl
  next-named (event.Release time task value ∷ told) unit = next-named told unit
  next-named (event.Arrive time task value ∷ told) unit = next-named told unit
  next-named (event.Enter time task object op values ∷ told) unit = next-named told unit
  next-named (event.Leave time task object op values ∷ told) unit = next-named told unit
  next-named (event.Request time task target value ∷ told) unit = next-named told unit
  next-named (event.Print time task value ∷ told) unit = next-named told unit
  next-named (event.End time task used ∷ told) unit = ap (λ o. if by_name task unit then Some (time, used) else o) (next-named told unit)
  next-named (event.Stop time task object priority ceiling ∷ told) unit = next-named told unit
  next-named (event.Horizon time ∷ told) unit = next-named told unit

  ends-named : (told : List machine.Event) → activations (named p told) ≡ ends_by by_name told
  ends-named [] = refl
  ends-named (event.Release time task value ∷ told) =
      ap (λ o. ended_by time o ++ activations (named p told)) (next-named told task)
      ∙ ap (λ ws. ended_by time (next_by by_name told task) ++ ws) (ends-named told)
  ends-named (event.Arrive time task value ∷ told) = ends-named told
  ends-named (event.Enter time task object op values ∷ told) = ends-named told
  ends-named (event.Leave time task object op values ∷ told) = ends-named told
  ends-named (event.Request time task target value ∷ told) = ends-named told
  ends-named (event.Print time task value ∷ told) = ends-named told
  ends-named (event.End time task used ∷ told) = ends-named told
  ends-named (event.Stop time task object priority ceiling ∷ told) = ends-named told
  ends-named (event.Horizon time ∷ told) = ends-named told

  pub named-runs-fit : (r : Arrivals) (trace : List machine.Event) → MeetsRules p → Meaning p r trace → FitOneProcessor (activations (named p trace))
  named-runs-fit r trace rules means =
      subst FitOneProcessor (ap (ends_by by_name) means.tells ∙ sym (ends-named trace))
      (run-fits by_name name-self (system p r) means.steps (start p r) (names-separate r rules))
