-- Examples for the laws: two states that differ in order numbers alone, a state at which ticks can be used at once, and the two lists
-- of a state. Three tasks: the first and the last are ready at priority 2, the other one sleeps.
use Rattle.std.specs.Prelude.{◌≡◌, ℕ, zero, suc, ◌⊎◌, ◌+◌, ◌<◌, ◌≤◌, false, true, List, [], ◌∷◌, codes, Some, None, ℤ, pos, negsuc, int_lt}
use Rattle.std.specs.Prelude.{slice_get, option_map, refl}
use Rattle.std.proofs.Common.{arith, inl, inr, subst}
use Rattle.std.proofs.lemmas.Option.{none-some, same_Some}
use Rattle.seq_tree.specs.Lists.{first_where}
use Rattle.seq_tree.specs.Statements.{End}
use Rattle.seq_tree.specs.declared.tree.Costs.{Costs}
use Rattle.link_queue.specs.Queues.{Entry}
use Rattle.trace_tree.specs.declared.event.Event.{Event}
use Rattle.trace_tree.specs.declared.event.Event.TheVariants as event
use Rattle.machine.specs.Systems.{System, TaskUnit, Periodic}
use Rattle.machine.specs.Pieces.{Finishing}
use Rattle.machine.specs.States.{State, Task, Readiness, Asleep, Ready, Use, shut}
use Rattle.machine.specs.Steps.{is_due}
use Rattle.machine.specs.Meanings.{Rest, run}
use Rattle.law_dispatching.specs.Jumping.{IsQuiet, ticks_later}
use Rattle.law_dispatching.specs.Queueing.{AreQueued, AreSleeping, IsIn, places}
use Rattle.law_dispatching.specs.Renumbering.{DifferInOrders}
use Rattle.law_dispatching.proofs.Shared.Jumps.{ticks_at_once}
use Rattle.law_dispatching.proofs.Shared.Ranks.{ranks-alike}
use Rattle.law_dispatching.proofs.Shared.Renumbered.{renumbered_tells}
use Rattle.law_dispatching.proofs.Shared.Sleeping.{due-sleeper}

abbrev unit_costs : Costs
unit_costs = record { assign = 1; test = 1; turn = 1; call = 1; nothing = 1; put = 1; finish = 1 }

abbrev thread : ℕ → TaskUnit
thread unit = record { unit = unit; name = codes "a"; priority = 2; timing = Periodic 0 50; vars = []; block = End; durations = [] }

-- a task that has so many ticks left before its end
abbrev task : ℕ → Readiness → ℕ → Task
task unit readiness left = record {
  thread = thread unit;
  readiness = readiness;
  active = 2;
  next = 50;
  vars = [];
  pieces = Finishing ∷ [];
  left = left;
  used = 0;
  works = 0;
  inside = [];
  gate = shut;
}

abbrev tasks : List Task
tasks = task 0 Ready 3 ∷ task 1 (Asleep 9) 0 ∷ task 2 Ready 2 ∷ []

abbrev runs : System
runs = record { until = 8; costs = unit_costs; libraries = []; objects = []; threads = thread 0 ∷ thread 1 ∷ thread 2 ∷ [] }

-- the state at time 0 with these order numbers
abbrev state : List ℤ → State
state orders = record { time = 0; phase = Use; ran = None; arrivals = []; stopped = false; tasks = tasks; orders = orders; stores = [] }

-- the last task is before the first one in the ready list, and so for all numbers that say so: the sleeping task may have any
abbrev ready : List Entry
ready = (2, 2) ∷ (0, 2) ∷ []

queued : (a b c : ℤ) → int_lt c a ≡ true → AreQueued tasks (a ∷ b ∷ c ∷ []) ready
queued a b c before = record {
  numbered = refl;
  each = ((task 2 Ready 2, refl, refl, refl), ((task 0 Ready 3, refl, refl, refl), tt));
  all = at;
  ordered = ((inr (refl, before), tt), (tt, tt));
}
  where
    at : (i : ℕ) (t : Task) → slice_get tasks i ≡ Some t → t.readiness ≡ Ready → IsIn i ready
    at zero t e is = inr (inl refl)
    at (suc zero) t e is = absurd (sleeps t e is)
      where
        sleeps : (t : Task) → Some (task 1 (Asleep 9) 0) ≡ Some t → t.readiness ≡ Ready → ⊥
        sleeps t e is = absurd cc
    at (suc (suc zero)) t e is = inl refl
    at (suc (suc (suc i))) t e is = absurd (none-some t e)

-- two states that differ in order numbers alone, and what both tell
differ : DifferInOrders (state (pos 7 ∷ pos 0 ∷ pos 3 ∷ [])) (state (pos 2 ∷ pos 5 ∷ negsuc 0 ∷ []))
differ = record {
  same = refl;
  ranks = ranks-alike tasks (pos 7 ∷ pos 0 ∷ pos 3 ∷ []) (pos 2 ∷ pos 5 ∷ negsuc 0 ∷ []) ready
      (queued (pos 7) (pos 0) (pos 3) refl) (queued (pos 2) (pos 5) (negsuc 0) refl);
}

abbrev told : List Event
told = event.End 2 2 2 ∷ event.End 5 0 3 ∷ event.Horizon 8 ∷ []

tells : Rest runs (state (pos 7 ∷ pos 0 ∷ pos 3 ∷ [])) told
tells = record { steps = 40; stops = refl; tells = refl }

tells_the_same : Rest runs (state (pos 2 ∷ pos 5 ∷ negsuc 0 ∷ [])) told
tells_the_same = (renumbered_tells runs (state (pos 7 ∷ pos 0 ∷ pos 3 ∷ [])) (state (pos 2 ∷ pos 5 ∷ negsuc 0 ∷ [])) told differ).0 tells

-- the places in the list are numbers of that kind too
places_of : places 3 ready ≡ pos 2 ∷ pos 0 ∷ pos 1 ∷ []
places_of = refl

-- a state at which two ticks are used at once: the task that is dispatched has two left
quiet : (j : ℕ) → j < 1 → IsQuiet runs (state (pos 7 ∷ pos 0 ∷ pos 3 ∷ [])) (0 + suc j)
quiet zero h = record { no_sleeper = refl; no_arrival = tt; no_horizon = refl }
quiet (suc j) h = absurd (few j h)
  where
    few : (j : ℕ) → suc j < 1 → ⊥
    few j h = omega arith

at_once : run runs 5 (state (pos 7 ∷ pos 0 ∷ pos 3 ∷ [])) ≡ (ticks_later (Some 2) 2 (state (pos 7 ∷ pos 0 ∷ pos 3 ∷ [])), [])
at_once = ticks_at_once runs 1 (state (pos 7 ∷ pos 0 ∷ pos 3 ∷ [])) refl refl left quiet
  where
    left : (t : Task) → Some (task 2 Ready 2) ≡ Some t → 2 ≤ t.left
    left t e = let same : task 2 Ready 2 ≡ t = same_Some (task 2 Ready 2) t e in subst (λ (u : Task). 2 ≤ u.left) same (omega arith)

-- no other task sleeps
asleep_at : (i until : ℕ) (t : Task) → slice_get tasks i ≡ Some t → t.readiness ≡ Asleep until → (i ≡ 1) ⊎ ⊥
asleep_at zero until t e is = absurd (awake t e is)
  where
    awake : (t : Task) → Some (task 0 Ready 3) ≡ Some t → t.readiness ≡ Asleep until → ⊥
    awake t e is = absurd cc
asleep_at (suc zero) until t e is = inl refl
asleep_at (suc (suc zero)) until t e is = absurd (awake t e is)
  where
    awake : (t : Task) → Some (task 2 Ready 2) ≡ Some t → t.readiness ≡ Asleep until → ⊥
    awake t e is = absurd cc
asleep_at (suc (suc (suc i))) until t e is = absurd (none-some t e)

-- the sleeping tasks, at a time before that of the one that sleeps and at one after it
sleeping : AreSleeping tasks 3 ((1, 9) ∷ [])
sleeping = record { each = ((task 1 (Asleep 9) 0, 9, refl, refl, refl), tt); all = asleep_at; ordered = (tt, tt) }

sleeping_late : AreSleeping tasks 11 ((1, 11) ∷ [])
sleeping_late = record { each = ((task 1 (Asleep 9) 0, 9, refl, refl, refl), tt); all = asleep_at; ordered = (tt, tt) }

not_yet : option_map (λ t. t.0) (first_where (λ t. is_due 3 t.readiness) tasks) ≡ None
not_yet = due-sleeper tasks 3 ((1, 9) ∷ []) sleeping

released_late : option_map (λ t. t.0) (first_where (λ t. is_due 11 t.readiness) tasks) ≡ Some 1
released_late = due-sleeper tasks 11 ((1, 11) ∷ []) sleeping_late
