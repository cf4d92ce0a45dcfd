-- What programs tell that the other examples leave open: overruns, requests that wait, long durations, inner sections.
use Rattle.std.specs.Prelude.{◌≡◌, ℕ, true, List, [], ◌∷◌, Some, None, codes, map}
use Rattle.std.proofs.Common.{refl}
use Rattle.seq_tree.specs.Names.{Name}
use Rattle.seq_tree.specs.Statements.{Statement, Statements, Null, Call, Work, End, Then}
use Rattle.seq_tree.specs.Operations.{Operation}
use Rattle.seq_tree.specs.declared.tree.Costs.{Costs}
use Rattle.seq_tree.specs.declared.tree.Mode.TheVariants.{In}
use Rattle.ada_tree.specs.Programs.{Unit, Program, Passive, Shared, Cyclic, Sporadic}
use Rattle.trace_tree.specs.declared.event.Event.TheVariants as event
use Rattle.machine.specs.Meanings.{Meaning}
use Rattle.machine.specs.Systems.{Periodic, Requested, libraries_from, objects_from, request_params, threads_from}

abbrev unit_costs : Costs
unit_costs = record { assign = 1; test = 1; turn = 1; call = 2; nothing = 1; put = 1; finish = 1 }

abbrev one : Statement → Statements
one x = Then x End

abbrev two : Statement → Statement → Statements
two x y = Then x (Then y End)

abbrev program : List Unit → Program
program us = record { name = codes "d"; costs = unit_costs; units = us }

abbrev cyclic : Name → ℕ → ℕ → ℕ → Statements → Unit
cyclic n priority offset period b = record { name = n; form = Cyclic priority offset period [] b }

abbrev set : Statements → Operation
set b = record { sig = record { name = codes "set"; params = [] }; locals = []; block = b }

abbrev shared : Name → ℕ → Statements → Unit
shared n ceiling b = record { name = n; form = Shared ceiling [] (set b ∷ []) }

abbrev call : Name → Statement
call o = Call o (codes "set") []

-- an activation that outlasts its period is followed at once by the next
overrun : Meaning (program (cyclic (codes "a") 1 0 3 (one (Work 4)) ∷ [])) (record { until = 10; work = []; items = [] })
    (event.Release 0 0 None ∷ event.End 5 0 5 ∷ event.Release 5 0 None ∷ event.End 10 0 5 ∷ event.Release 10 0 None ∷ event.Horizon 10 ∷ [])
overrun = record { steps = 80; stops = refl; tells = refl }

-- a request during an activation is served at its end
waiting_request : Meaning
    (program (record {
      name = codes "s";
      form = Sporadic 1 1
          (record { name = codes "start"; params = record { name = codes "v"; mode = In } ∷ [] }) 3 0 true [] (one (Work 4));
    } ∷ []))
    (record { until = 12; work = []; items = record { time = 0; task = 0; value = Some 1 } ∷ record { time = 3; task = 0; value = Some 2 } ∷ [] })
    (event.Arrive 0 0 (Some 1) ∷ event.Release 0 0 (Some 1) ∷ event.Arrive 3 0 (Some 2) ∷ event.End 5 0 5 ∷ event.Release 5 0 (Some 2)
    ∷ event.End 10 0 5 ∷ event.Horizon 12 ∷ [])
waiting_request = record { steps = 90; stops = refl; tells = refl }

-- a duration over the number of its `work` is cut
long_duration : Meaning (program (cyclic (codes "a") 1 0 10 (one (Work 3)) ∷ []))
    (record { until = 5; work = record { task = 0; ticks = 9 ∷ [] } ∷ []; items = [] })
    (event.Release 0 0 None ∷ event.End 4 0 4 ∷ event.Horizon 5 ∷ [])
long_duration = record { steps = 50; stops = refl; tells = refl }

-- behind an inner section the priority is that of the outer one, and not the task's own
outer_priority : Meaning (program (shared (codes "q") 2 (two (call (codes "e")) (Work 2)) ∷ shared (codes "e") 3 (one (Work 1))
    ∷ cyclic (codes "l") 1 0 40 (one (call (codes "q"))) ∷ cyclic (codes "m") 2 5 40 (one Null) ∷ [])) (record { until = 12; work = []; items = [] })
    (event.Release 0 2 None ∷ event.Enter 2 2 0 0 [] ∷ event.Enter 4 2 1 0 [] ∷ event.Leave 5 2 1 0 [] ∷ event.Release 5 3 None
    ∷ event.Leave 7 2 0 0 []
    ∷ event.End 9 3 2 ∷ event.End 10 2 8 ∷ event.Horizon 12 ∷ [])
outer_priority = record { steps = 100; stops = refl; tells = refl }

-- among a task, a protected object and a passive unit, each is found alone, with its place among all
abbrev units : List Unit
units =
    cyclic (codes "a") 1 0 3 (one Null) ∷ shared (codes "k") 2 (one Null) ∷ record { name = codes "p"; form = Passive (set (one Null) ∷ []) } ∷ []

passive_units : map (λ l. l.unit) (libraries_from 4 units) ≡ 6 ∷ []
passive_units = refl

protected_objects : map (λ o. o.unit) (objects_from 4 units) ≡ 5 ∷ []
protected_objects = refl

tasks : map (λ t. t.unit) (threads_from (λ n. n ∷ []) 4 units) ≡ 4 ∷ []
tasks = refl

tasks_with_durations : map (λ t. t.durations) (threads_from (λ n. n ∷ []) 4 units) ≡ (4 ∷ []) ∷ []
tasks_with_durations = refl

no_tasks : threads_from (λ n. []) 0 (shared (codes "k") 2 (one Null) ∷ []) ≡ []
no_tasks = refl

-- a task that is requested has the parameters of its requests, and one with a period has none
params_of_requests : map (λ p. p.name) (request_params (Requested (record
    { name = codes "start"; params = record { name = codes "v"; mode = In } ∷ [] }) 3 0 0 true)) ≡ codes "v" ∷ []
params_of_requests = refl

no_params : request_params (Periodic 0 3) ≡ []
no_params = refl
