-- Examples of what a machine keeps and tells: for each definition one case that holds, and one that breaks it alone.
use Rattle.std.specs.Prelude.{◌≡◌, ℕ, zero, suc, ◌+◌, ◌<◌, ◌≤◌, true, false, List, [], ◌∷◌, Some, None, refl}
use Rattle.std.proofs.Common.{arith, sym, ◌∙◌}
use Rattle.seq_tree.specs.declared.tree.Costs.{Costs}
use Rattle.link_queue.specs.Queues.{Queues}
use Rattle.trace_tree.specs.declared.event.Event.TheVariants as event
use Rattle.machine.specs.States as states
use Rattle.machine.specs.States.{State}
use Rattle.machine.specs.Systems.{System}
use Rattle.machine.specs.Meanings.{Running, Rest, run}
use Rattle.ceil_runtime.specs.Left.{Falls}
use Rattle.ceil_runtime.specs.Processing.{Follows, HasNoEffect, HoldsIn, IsRunning}
use Rattle.ceil_runtime.specs.Shown.{IsSettled}
use Rattle.task_runtime.specs.declared.task.Task.{Task}
use Rattle.ceil_runtime.specs.Stepping.{GoesOn, told_of}
use Rattle.ceil_runtime.specs.Stepping as told
use Rattle.ceil_runtime.specs.declared.processor.Phase.TheVariants.{Arriving, Use}
use Rattle.ceil_runtime.specs.Turns.{last_turn}
use Rattle.ceil_runtime.specs.declared.processor.Turn.TheVariants.{CeilingViolation, Horizon}

abbrev unit_costs : Costs
unit_costs = record { assign = 1; test = 1; turn = 1; call = 1; nothing = 1; put = 1; finish = 1 }

-- what a step tells
tells-two : told_of (told.Two (event.Arrive 3 0 None) (event.Release 3 0 None)) ≡ event.Arrive 3 0 None ∷ event.Release 3 0 None ∷ []
tells-two = refl

-- the last event of a run is its horizon alone
goes-on : GoesOn (event.Arrive 3 0 None)
goes-on = tt

goes-on-not : GoesOn (event.Horizon 3) → ⊥
goes-on-not h = h

-- a run goes on after an entry, and not after a stop at a ceiling, which is its answer
enters : GoesOn (event.Enter 3 0 1 0 [])
enters = tt

stops : GoesOn (event.Stop 3 0 1 6 5) → ⊥
stops h = h

stop-answer : last_turn (event.Stop 3 0 1 6 5) ≡ CeilingViolation 3 0 1 6 5
stop-answer = refl

horizon-answer : last_turn (event.Horizon 3) ≡ Horizon
horizon-answer = refl

-- the sleepers after arrivals, and before ticks are used: none is due, and it is not the horizon
abbrev sleeper : ℕ → Queues
sleeper time = record { size = 1; ready = []; asleep = (0, time) ∷ [] }

later-sleeper : HoldsIn Arriving 10 3 None [] (sleeper 4)
later-sleeper = (omega arith, tt)

due-sleeper : HoldsIn Arriving 10 3 None [] (sleeper 3) → ⊥
due-sleeper h = let late = h.0 in omega (arith, late)

before-horizon : HoldsIn Use 10 3 None [] (sleeper 4)
before-horizon = (omega arith, (omega arith, tt))

at-horizon : HoldsIn Use 3 3 None [] (sleeper 4) → ⊥
at-horizon h = let before = h.0 in omega (arith, before)

-- the task that has effects is one of the tasks, and the one that used the tick before
no-task : IsRunning (Some 0) (Some 0) [] → ⊥
no-task h = let known : 0 < 0 = h.1 in omega (arith, known)

another-ran : (tasks : List Task) → IsRunning (Some 0) (Some 1) tasks → ⊥
another-ran tasks h = cc h.0

-- where none has effects, no task used the tick before, or that one has no effect any more
nobody-ran : (tasks : List Task) → IsRunning None None tasks
nobody-ran tasks = tt

no-effect-of : HasNoEffect (Some 0) [] → ⊥
no-effect-of h = let known : 0 < 0 = h.0 in omega (arith, known)

-- a run that has stopped tells nothing more
abbrev idle : System
idle = record { until = 0; costs = unit_costs; libraries = []; objects = []; threads = [] }

abbrev over : State
over = record { time = 0; phase = states.Effects; ran = None; arrivals = []; stopped = true; tasks = []; orders = []; stores = [] }

abbrev at_end : Running
at_end = record { system = idle; state = over }

-- the ready tasks stand in their list while no task has effects
settled : IsSettled over
settled phase = refl

settled-not : IsSettled (record over { ran = Some 0 }) → ⊥
settled-not h = cc (h refl)

follows : Follows at_end [] at_end
follows = record { system = refl; tells = λ rest h. h; reaches = λ h. h }

tells-nothing : (n : ℕ) → (run idle n over).1 ≡ []
tells-nothing zero = refl
tells-nothing (suc n) = tells-nothing n

follows-not : Follows at_end (event.Horizon 0 ∷ []) at_end → ⊥
follows-not f = wrong (f.tells [] (record { steps = 0; stops = refl; tells = refl }))
  where
    wrong : Rest idle over (event.Horizon 0 ∷ []) → ⊥
    wrong r = cc (sym r.tells ∙ tells-nothing r.steps)

-- events that are told count only while the run goes on
falls : Falls at_end (event.Horizon 0 ∷ []) at_end
falls goes_on = absurd (cc goes_on)

falls-not : Falls at_end (event.Horizon 0 ∷ []) (record { system = idle; state = record over { stopped = false } }) → ⊥
falls-not f = let less : 0 + 1 ≤ 0 = f refl in omega (arith, less)
