-- The arrivals that are due behind an event are what the check of arrivals asks of the events that follow.
use Rattle.std.proofs.Common.{◌≡◌, ℕ, Bool, true, false, List, [], ◌∷◌, ◌&&◌, map, Option, Some, None, refl, sym, ap, ◌∙◌}
use Rattle.std.specs.Prelude.{◌==◌, cond, nat_le, filter, filter_map, if◌then◌else◌}
use Rattle.std.specs.List.{cons_option}
use Rattle.seq_tree.specs.Lists.{Each}
use Rattle.ada_tree.specs.Programs.{Program}
use Rattle.ada_tree.specs.Rules.{MeetsRules}
use Rattle.arrivals_tree.specs.declared.arrivals.Arrival as code
use Rattle.trace_tree.specs.Lines.{unit_name}
use Rattle.trace_tree.specs.Placed.{IsPlaced, IsUnit}
use Rattle.trace_tree.specs.declared.event.Event as machine
use Rattle.trace_tree.specs.declared.event.Event.TheVariants as event
use Rattle.guarantee.specs.Arrivals.{Arrival}
use Rattle.guarantee.specs.Events.{Event, By, named_event}
use Rattle.guarantee.specs.Events as deed
use Rattle.guarantee.specs.Requests.{arrival_by}
use Rattle.law_walks.specs.Walks.{same_value}
use Rattle.law_traces.specs.Checks.{same_arrival, same_arrivals, are_told}
use Rattle.law_trace_places.proofs.Shared.Units.{unit-names}
use Rattle.trace_checks.specs.Passing.{AreOfUnits}
use Rattle.trace_checks.specs.Arriving.{named_arrival, comes_by, due_after, due_from, due_behind, is_over, arrived_by}

module _ (p : Program) (meets : MeetsRules p) (until : ℕ) where
  abbrev near : Arrival → Bool
  near a = nat_le a.time until

  abbrev named : List code.Arrival → List Arrival
  named items = map (named_arrival p) items

  comes : (a : code.Arrival) (more : List code.Arrival) (time task : ℕ) (value : Option ℕ) (told : List Event) → IsUnit p task → IsUnit p a.task
      → arrived_by p until (comes_by a more time task value) told
      ≡ (same_arrival (record { time = time; task = unit_name p task; value = value }) (named_arrival p a)
      && same_arrivals (filter_map arrival_by told) (filter near (named more)))
  comes a more time task value told h i =
      by (time == a.time) (task == a.task) (same_value value a.value)
      ∙ ap (λ b. ((time == a.time) && b && same_value value a.value) && same_arrivals (filter_map arrival_by told) (filter near (named more)))
      (sym (unit-names p meets task a.task h i))
    where
      by : (x y z : Bool) → arrived_by p until (if x && y && z then Some more else None) told
          ≡ ((x && y && z) && same_arrivals (filter_map arrival_by told) (filter near (named more)))
      by true true true = refl
      by true true false = refl
      by true false z = refl
      by false y z = refl

  abbrev told-first : ℕ → ℕ → Option ℕ → Arrival
  told-first time task value = record { time = time; task = unit_name p task; value = value }

  arrives : (due : List code.Arrival) (time task : ℕ) (value : Option ℕ) (told : List Event) → IsUnit p task → Each (λ a. IsUnit p a.task) due
      → arrived_by p until (due_after until due time task value) told ≡ are_told until (named due) (By time (unit_name p task) (deed.Arrive value) ∷ told)
  arrives [] time task value told h each = refl
  arrives (a ∷ due) time task value told h each = by (nat_le a.time until) refl (arrives due time task value told h each.1)
    where
      by : (b : Bool) → nat_le a.time until ≡ b
          → arrived_by p until (due_after until due time task value) told ≡ are_told until (named due) (By time (unit_name p task) (deed.Arrive value) ∷ told)
          → arrived_by p until (if nat_le a.time until then comes_by a due time task value else due_after until due time task value) told
          ≡ same_arrivals (told-first time task value ∷ filter_map arrival_by told) (cond (nat_le a.time until) (named_arrival p a ∷ filter near (named due)) (filter near (named due)))
      by true e more =
          ap (λ b. arrived_by p until (if b then comes_by a due time task value else due_after until due time task value) told) e
          ∙ comes a due time task value told h each.0
          ∙ sym (ap (λ b. same_arrivals (told-first time task value ∷ filter_map arrival_by told) (cond b (named_arrival p a ∷ filter near (named due)) (filter near (named due)))) e)
      by false e more =
          ap (λ b. arrived_by p until (if b then comes_by a due time task value else due_after until due time task value) told) e
          ∙ more
          ∙ sym (ap (λ b. same_arrivals (told-first time task value ∷ filter_map arrival_by told) (cond b (named_arrival p a ∷ filter near (named due)) (filter near (named due)))) e)

  from : (due : Option (List code.Arrival)) (time task : ℕ) (value : Option ℕ) (told : List Event) → IsUnit p task → AreOfUnits p due
      → arrived_by p until (due_from until due time task value) told ≡ arrived_by p until due (By time (unit_name p task) (deed.Arrive value) ∷ told)
  from None time task value told h each = refl
  from (Some due) time task value told h each = arrives due time task value told h each

  other : (due : Option (List code.Arrival)) (e : Event) (told : List Event) → arrival_by e ≡ None → arrived_by p until due told ≡ arrived_by p until due (e ∷ told)
  other None e told none = refl
  other (Some due) e told none =
      ap (λ o. same_arrivals (cons_option o (filter_map arrival_by told)) (filter near (named due))) (sym none)

  pub due-go-on : (due : Option (List code.Arrival)) (e : machine.Event) (told : List Event) → IsPlaced p e → AreOfUnits p due
      → arrived_by p until (due_behind until due e) told ≡ arrived_by p until due (named_event p e ∷ told)
  due-go-on due (event.Arrive time task value) told h each = from due time task value told h each
  due-go-on due (event.Release time task value) told h each = other due _ told refl
  due-go-on due (event.Enter time task unit op values) told h each = other due _ told refl
  due-go-on due (event.Leave time task unit op values) told h each = other due _ told refl
  due-go-on due (event.Request time task target value) told h each = other due _ told refl
  due-go-on due (event.Print time task value) told h each = other due _ told refl
  due-go-on due (event.End time task used) told h each = other due _ told refl
  due-go-on due (event.Stop time task unit priority ceiling) told h each = other due _ told refl
  due-go-on due (event.Horizon time) told h each = other due _ told refl

  -- what is due stays of units
  kept : (due : List code.Arrival) (time task : ℕ) (value : Option ℕ) → Each (λ a. IsUnit p a.task) due → AreOfUnits p (due_after until due time task value)
  kept [] time task value each = tt
  kept (a ∷ due) time task value each = by (nat_le a.time until) ((time == a.time) && (task == a.task) && same_value value a.value) (kept due time task value each.1)
    where
      by : (b c : Bool) → AreOfUnits p (due_after until due time task value)
          → AreOfUnits p (if b then (if c then Some due else None) else due_after until due time task value)
      by true true more = each.1
      by true false more = tt
      by false c more = more

  pub due-kept : (due : Option (List code.Arrival)) (e : machine.Event) → AreOfUnits p due → AreOfUnits p (due_behind until due e)
  due-kept None (event.Arrive time task value) each = tt
  due-kept (Some due) (event.Arrive time task value) each = kept due time task value each
  due-kept due (event.Release time task value) each = each
  due-kept due (event.Enter time task unit op values) each = each
  due-kept due (event.Leave time task unit op values) each = each
  due-kept due (event.Request time task target value) each = each
  due-kept due (event.Print time task value) each = each
  due-kept due (event.End time task used) each = each
  due-kept due (event.Stop time task unit priority ceiling) each = each
  due-kept due (event.Horizon time) each = each

  over : (due : List code.Arrival) → same_arrivals [] (filter near (named due)) ≡ is_over until due
  over [] = refl
  over (a ∷ due) = by (nat_le a.time until) (over due)
    where
      by : (b : Bool) → same_arrivals [] (filter near (named due)) ≡ is_over until due
          → same_arrivals [] (cond b (named_arrival p a ∷ filter near (named due)) (filter near (named due))) ≡ (if b then false else is_over until due)
      by true more = refl
      by false more = more

  pub due-over : (due : List code.Arrival) → arrived_by p until (Some due) [] ≡ is_over until due
  due-over due = over due
