-- Single steps of the processor: order numbers, the parts of a request, the data and the gate of a task at its release and at its end.
use Rattle.std.specs.Prelude.{◌≡◌, ℕ, true, false, [], ◌∷◌, map, Some, None, pos, codes}
use Rattle.std.proofs.Common.{refl}
use Rattle.seq_tree.specs.Expressions.{Number}
use Rattle.seq_tree.specs.Statements.{End}
use Rattle.seq_tree.specs.declared.tree.Costs.{Costs}
use Rattle.seq_tree.specs.declared.tree.Mode.TheVariants.{In}
use Rattle.machine.specs.Systems.{System, TaskUnit, Periodic, Requested, Request}
use Rattle.machine.specs.Pieces as piece
use Rattle.machine.specs.Deeds.{Ask, called, deed}
use Rattle.machine.specs.States.{State, Task, Waiting, Ready, Asleep, shut, first_task, opening}
use Rattle.machine.specs.Dispatch.{put_first, put_last, dispatched}
use Rattle.machine.specs.Releases.{released, serve}
use Rattle.machine.specs.Effects.{ended, keep, open_gate}

abbrev unit_costs : Costs
unit_costs = record { assign = 1; test = 1; turn = 1; call = 2; nothing = 1; put = 1; finish = 1 }

-- a sporadic thread with a parameter and a datum
abbrev thread : TaskUnit
thread = record {
  unit = 0;
  name = codes "s";
  priority = 2;
  timing = Requested (record { name = codes "start"; params = record { name = codes "v"; mode = In } ∷ [] }) 3 10 0 true;
  vars = record { name = codes "x"; value = 1 } ∷ [];
  block = End;
  durations = [];
}

abbrev task : Task
task = first_task thread

abbrev system : System
system = record { until = 10; costs = unit_costs; libraries = []; objects = []; threads = thread ∷ [] }

abbrev state : State
state = opening system []

-- the others keep their order numbers
goes_first : put_first 1 (pos 3 ∷ pos 8 ∷ pos 5 ∷ []) ≡ pos 3 ∷ pos 2 ∷ pos 5 ∷ []
goes_first = refl

goes_last : put_last 1 (pos 3 ∷ pos 1 ∷ pos 5 ∷ []) ≡ pos 3 ∷ pos 6 ∷ pos 5 ∷ []
goes_last = refl

abbrev ready : ℕ → Task
ready active = record task { readiness = Ready; active = active }

-- the greatest active priority of the ready tasks, and of these the least order number
greatest_priority : dispatched (ready 2 ∷ ready 3 ∷ record (ready 9) { readiness = Waiting } ∷ []) (pos 0 ∷ pos 7 ∷ pos 0 ∷ []) ≡ Some 1
greatest_priority = refl

least_order : dispatched (ready 2 ∷ ready 2 ∷ ready 2 ∷ []) (pos 4 ∷ pos 1 ∷ pos 3 ∷ []) ≡ Some 1
least_order = refl

none_ready : dispatched (task ∷ record (ready 9) { readiness = Asleep 3 } ∷ []) (pos 0 ∷ pos 0 ∷ []) ≡ None
none_ready = refl

-- a request keeps its value, then opens the gate, and then ends
request_in_parts : called (Request 0) (Number 7 ∷ []) [] []
    ≡ deed (Ask 0) [] (piece.Keeping 0 (Some 7) ∷ piece.Opening 0 ∷ piece.Requested 0 (Some 7) ∷ [])
request_in_parts = refl

value_kept : map (λ t. t.gate) (keep 0 (Some 7) state).tasks ≡ record { value = Some 7; open' = false } ∷ []
value_kept = refl

gate_opened : map (λ t. t.gate) (open_gate 0 state).tasks ≡ record { value = None; open' = true } ∷ []
gate_opened = refl

-- a task whose gate is shut stays as it waits
not_served : serve system 0 (keep 0 (Some 7) state) ≡ (keep 0 (Some 7) state, [])
not_served = refl

-- a release puts the parameter before the data and shuts the gate
abbrev served : Task
served = released unit_costs (record task { gate = record { value = Some 7; open' = true }; used = 9; works = 4 })

served_vars : served.vars ≡ (codes "v", 7) ∷ (codes "x", 1) ∷ []
served_vars = refl

served_gate : served.gate ≡ shut
served_gate = refl

served_counts : served.used ∷ served.works ∷ [] ≡ 0 ∷ 4 ∷ []
served_counts = refl

-- an end leaves the data alone, with their values
ended_vars : (ended ((codes "v", 7) ∷ (codes "x", 4) ∷ []) served).vars ≡ (codes "x", 4) ∷ []
ended_vars = refl

ended_waits : (ended [] served).readiness ≡ Waiting
ended_waits = refl

ended_sleeps : (ended [] (record served { thread = record thread { timing = Periodic 1 10 }; next = 21 })).readiness ≡ Asleep 21
ended_sleeps = refl
