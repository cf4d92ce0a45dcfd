-- One case for each cause by which arrivals are refused, and the durations and requests that a file hands to a run.
use Rattle.std.specs.Prelude.{◌≡◌, ℕ, Bool, true, false, List, [], ◌∷◌, map, Option, Some, None, if◌then◌else◌, codes}
use Rattle.std.proofs.Common.{refl}
use Rattle.seq_tree.specs.Statements.{End}
use Rattle.seq_tree.specs.declared.tree.Mode.TheVariants.{In}
use Rattle.ada_tree.specs.Programs.{Unit, Program, Shared, Cyclic, Sporadic}
use Rattle.arrivals_tree.specs.declared.arrivals.Arrival.{Arrival}
use Rattle.arrivals_tree.specs.declared.arrivals.Arrivals as values
use Rattle.arrivals_tree.specs.Arriving.{Durations, arrivals_of, durations}
use Rattle.arrivals_tree.specs.Acceptance.{ArrivalFault, Falling, Unknown, Unfit, Early, Far, nominal, first_fault}

-- a thread that is requested from outside, one that isn't, and a cyclic one
abbrev sporadic : Bool → Unit
sporadic external = record {
  name = codes "s";
  form = Sporadic 1 1 (record { name = codes "start"; params = record { name = codes "v"; mode = In } ∷ [] }) 500 (if external then 5
      else 0) external [] End;
}

abbrev program : Program
program = record {
  name = codes "d";
  costs = record { assign = 1; test = 1; turn = 1; call = 2; nothing = 1; put = 1; finish = 1 };
  units = sporadic true ∷ sporadic false ∷ record { name = codes "c"; form = Cyclic 1 0 10 [] End } ∷ record {
    name = codes "q";
    form = Shared 1 [] [];
  } ∷ [];
}

abbrev fault_of : ℕ → List Durations → List Arrival → Option ArrivalFault
fault_of until work items = first_fault 1000 program (record { until = until; work = work; items = items })

abbrev at : ℕ → ℕ → Option ℕ → Arrival
at time task value = record { time = time; task = task; value = value }

-- a late request moves the next nominal time
late_request : nominal 500 None (0 ∷ 700 ∷ []) ≡ Some 700
late_request = refl

-- an early one doesn't
early_request : nominal 500 None (0 ∷ 495 ∷ []) ≡ Some 500
early_request = refl

as_early_as_can_be : map (λ n. fault_of 1000 [] (at 0 0 (Some 1) ∷ at n 0 (Some 1) ∷ [])) (494 ∷ 495 ∷ []) ≡ Some Early ∷ None ∷ []
as_early_as_can_be = refl

-- two at once are early
two_at_once : fault_of 1000 [] (at 0 0 (Some 1) ∷ at 0 0 (Some 1) ∷ []) ≡ Some Early
two_at_once = refl

falling : fault_of 1000 [] (at 600 0 (Some 1) ∷ at 10 0 (Some 1) ∷ []) ≡ Some Falling
falling = refl

-- who isn't requested from outside is unknown, whatever the value
not_external : map (λ task. fault_of 1000 [] (at 0 task None ∷ [])) (0 ∷ 1 ∷ 2 ∷ 3 ∷ 4 ∷ [])
    ≡ Some Unfit ∷ Some Unknown ∷ Some Unknown ∷ Some Unknown ∷ Some Unknown ∷ []
not_external = refl

-- durations are of tasks, and of a tick at least
of_tasks : map (λ task. fault_of 1000 (record { task = task; ticks = 1 ∷ [] } ∷ []) []) (0 ∷ 2 ∷ 3 ∷ 4 ∷ [])
    ≡ None ∷ None ∷ Some Unknown ∷ Some Unknown ∷ []
of_tasks = refl

no_tick : fault_of 1000 (record { task = 2; ticks = 1 ∷ 0 ∷ [] } ∷ []) [] ≡ Some Unfit
no_tick = refl

far : map (λ until. fault_of until [] []) (1000 ∷ 1001 ∷ []) ≡ None ∷ Some Far ∷ []
far = refl

-- a task's lists are one after another, and no other's
lists_joined : durations (record {
  until = 9;
  work = record { task = 1; ticks = 3 ∷ [] } ∷ record { task = 0; ticks = 5 ∷ [] } ∷ record {
    task = 1;
    ticks = 4 ∷ [];
  } ∷ [];
  items = [];
}) 1 ≡ 3 ∷ 4 ∷ []
lists_joined = refl

-- what the program holds is what is handed to a run
seen_until : (a : values.Arrivals) → (arrivals_of a).until ≡ a.until
seen_until a = refl

seen_work : (a : values.Arrivals) → (arrivals_of a).work ≡ map (λ w. let d : Durations = record { task = w.task; ticks = w.ticks.items }
    in d) a.work.items
seen_work a = refl

seen_items : (a : values.Arrivals) → (arrivals_of a).items ≡ a.items.items
seen_items a = refl
