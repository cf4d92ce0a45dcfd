-- Worked examples: what small programs tell.
use Rattle.std.specs.Prelude.{◌≡◌, ℕ, Bool, true, false, List, [], ◌∷◌, Some, None, codes, refl}
use Rattle.seq_tree.specs.Names.{Name}
use Rattle.seq_tree.specs.Expressions.{Number, Variable, Binary}
use Rattle.seq_tree.specs.Statements.{Statement, Statements, Null, For, ExitWhen, Call, Work, Put, End, Then}
use Rattle.seq_tree.specs.Operations.{Operation}
use Rattle.seq_tree.specs.declared.tree.Costs.{Costs}
use Rattle.seq_tree.specs.declared.tree.Param.{Param}
use Rattle.seq_tree.specs.declared.tree.Datum.{Datum}
use Rattle.seq_tree.specs.declared.tree.Mode.TheVariants.{In}
use Rattle.seq_tree.specs.declared.tree.BinOp.TheVariants as op
use Rattle.ada_tree.specs.Programs.{Unit, Program, Shared, Cyclic, Sporadic}
use Rattle.arrivals_tree.specs.declared.arrivals.Arrival.{Arrival}
use Rattle.trace_tree.specs.declared.event.Event.TheVariants as event
use Rattle.arrivals_tree.specs.Arriving.{Arrivals}
use Rattle.arrivals_tree.specs.Acceptance.{first_fault, Early, Falling, Unfit, Far, Unknown}
use Rattle.machine.specs.Meanings.{Meaning}

-- costs of 1, but 2 for a call
abbrev unit_costs : Costs
unit_costs = record { assign = 1; test = 1; turn = 1; call = 2; nothing = 1; put = 1; finish = 1 }

abbrev a : Name
a = codes "a"

abbrev p : Name
p = codes "p"

abbrev q : Name
q = codes "q"

abbrev s : Name
s = codes "s"

abbrev one : Statement → Statements
one x = Then x End

abbrev two : Statement → Statement → Statements
two x y = Then x (Then y End)

abbrev three : Statement → Statement → Statement → Statements
three x y z = Then x (two y z)

abbrev call : Name → Name → Statement
call o f = Call o f []

abbrev cyclic : Name → ℕ → ℕ → ℕ → List Datum → Statements → Unit
cyclic n priority offset period vars b = record { name = n; form = Cyclic priority offset period vars b }

abbrev sporadic : Name → ℕ → ℕ → ℕ → ℕ → Bool → Statements → Unit
sporadic n priority ceiling separation jitter external b =
    record {
      name = n;
      form = Sporadic priority ceiling
          (record { name = codes "start"; params = record { name = codes "v"; mode = In } ∷ [] }) separation jitter external [] b;
    }

abbrev operation : Name → List Param → Statements → Operation
operation n params b = record { sig = record { name = n; params = params }; locals = []; block = b }

abbrev shared : Name → ℕ → Name → Statements → Unit
shared n ceiling f b = record { name = n; form = Shared ceiling [] (operation f [] b ∷ []) }

abbrev program : List Unit → Program
program us = record { name = codes "d"; costs = unit_costs; units = us }

abbrev until : ℕ → Arrivals
until n = record { until = n; work = []; items = [] }

-- one cyclic task
one_cyclic : Meaning (program (cyclic a 1 0 10 [] (one (Work 3)) ∷ [])) (until 20)
    (event.Release 0 0 None ∷ event.End 4 0 4 ∷ event.Release 10 0 None ∷ event.End 14 0 4 ∷ event.Release 20 0 None ∷ event.Horizon 20 ∷ [])
one_cyclic = record { steps = 120; stops = refl; tells = refl }

-- three cyclic tasks
three_cyclic : Meaning (program
    (cyclic (codes "a") 3 0 7 [] (one (Work 2)) ∷ cyclic (codes "b") 2 0 12 [] (one (Work 2)) ∷ cyclic (codes "c") 1 0 20 [] (one (Work 4))
    ∷ [])) (until 20)
    (event.Release 0 0 None ∷ event.Release 0 1 None ∷ event.Release 0 2 None ∷ event.End 3 0 3 ∷ event.End 6 1 3 ∷ event.Release 7 0 None
    ∷ event.End 10 0 3 ∷ event.Release 12 1 None ∷ event.Release 14 0 None ∷ event.End 17 0 3 ∷ event.End 18 1 3 ∷ event.End 20 2 5
    ∷ event.Release 20 2 None ∷ event.Horizon 20 ∷ [])
three_cyclic = record { steps = 150; stops = refl; tells = refl }

-- a started task
started_task : Meaning (program
    (cyclic p 1 0 50 [] (one (Call s (codes "start") (Number 7 ∷ []))) ∷ sporadic s 2 2 50 0 false (one (Work 4)) ∷ [])) (until 12)
    (event.Release 0 0 None ∷ event.Request 4 0 1 (Some 7) ∷ event.Release 4 1 (Some 7) ∷ event.End 9 1 5 ∷ event.End 10 0 5 ∷ event.Horizon 12 ∷ [])
started_task = record { steps = 100; stops = refl; tells = refl }

-- a section at an activation's end
sections_of : ℕ → Program
sections_of ceiling =
    program (shared q ceiling (codes "set") (one (Work 3)) ∷ cyclic (codes "l") 1 0 20 [] (one (call q (codes "set")))
    ∷ cyclic (codes "h") 2 3 10 [] (one (call q (codes "set"))) ∷ [])

section_at_an_end : Meaning (sections_of 2) (until 32)
    (event.Release 0 1 None ∷ event.Enter 2 1 0 0 [] ∷ event.Release 3 2 None ∷ event.Leave 5 1 0 0 [] ∷ event.Enter 7 2 0 0 []
    ∷ event.Leave 10 2 0 0 []
    ∷ event.End 11 2 6 ∷ event.End 12 1 6 ∷ event.Release 13 2 None ∷ event.Enter 15 2 0 0 [] ∷ event.Leave 18 2 0 0 [] ∷ event.End 19 2 6
    ∷ event.Release 20 1 None ∷ event.Enter 22 1 0 0 [] ∷ event.Release 23 2 None ∷ event.Leave 25 1 0 0 [] ∷ event.Enter 27 2 0 0 []
    ∷ event.Leave 30 2 0 0 []
    ∷ event.End 31 2 6 ∷ event.End 32 1 6 ∷ event.Horizon 32 ∷ [])
unfolding sections_of
section_at_an_end = record { steps = 200; stops = refl; tells = refl }

-- the release at the instant of an enter stands behind the task inside
release_at_an_enter : Meaning (program (shared (codes "q1") 3 (codes "set") (one (Work 2)) ∷ shared (codes "q2") 3 (codes "set") (one (Work 2))
    ∷ cyclic (codes "x") 3 2 40 [] (two (call (codes "q1") (codes "set")) (call (codes "q2") (codes "set")))
    ∷ cyclic (codes "y") 2 4 40 [] (one (call (codes "q2") (codes "set")))
    ∷ cyclic (codes "z") 1 0 40 [] (one (call (codes "q1") (codes "set"))) ∷ [])) (until 20)
    (event.Release 0 4 None ∷ event.Enter 2 4 0 0 [] ∷ event.Release 2 2 None ∷ event.Leave 4 4 0 0 [] ∷ event.Release 4 3 None
    ∷ event.Enter 6 2 0 0 []
    ∷ event.Leave 8 2 0 0 [] ∷ event.Enter 10 2 1 0 [] ∷ event.Leave 12 2 1 0 [] ∷ event.End 13 2 9 ∷ event.Enter 15 3 1 0 []
    ∷ event.Leave 17 3 1 0 []
    ∷ event.End 18 3 5 ∷ event.End 19 4 5 ∷ event.Horizon 20 ∷ [])
release_at_an_enter = record { steps = 130; stops = refl; tells = refl }

-- arithmetic modulo 2^32
wraps : Meaning (program (cyclic a 1 0 10 [] (one (Put (Binary op.Add (Number 4294967295) (Number 1)))) ∷ [])) (until 5)
    (event.Release 0 0 None ∷ event.Print 1 0 0 ∷ event.End 2 0 2 ∷ event.Horizon 5 ∷ [])
wraps = record { steps = 40; stops = refl; tells = refl }

-- a loop of no turn, and an exit
loops : Meaning (program (cyclic a 1 0 20 []
    (two (For (codes "i") 1 0 (one (Put (Variable (codes "i")))))
    (For (codes "j") 1 3 (two (ExitWhen (Binary op.Eq (Variable (codes "j")) (Number 1))) Null))) ∷ [])) (until 5)
    (event.Release 0 0 None ∷ event.End 3 0 3 ∷ event.Horizon 5 ∷ [])
loops = record { steps = 40; stops = refl; tells = refl }

-- requests from outside, with a jitter of 5
requests_from_outside : Meaning (program (sporadic s 1 1 500 5 true (one (Work 4)) ∷ []))
    (record { until = 600; work = []; items = record { time = 0; task = 0; value = Some 1 } ∷ record { time = 495; task = 0; value = Some 1 } ∷ [] })
    (event.Arrive 0 0 (Some 1) ∷ event.Release 0 0 (Some 1) ∷ event.End 5 0 5 ∷ event.Arrive 495 0 (Some 1) ∷ event.Release 495 0 (Some 1)
    ∷ event.End 500 0 5
    ∷ event.Horizon 600 ∷ [])
requests_from_outside = record { steps = 2450; stops = refl; tells = refl }

-- a ceiling below a caller's priority
low_ceiling : Meaning (sections_of 1) (until 32)
    (event.Release 0 1 None ∷ event.Enter 2 1 0 0 [] ∷ event.Release 3 2 None ∷ event.Stop 5 2 0 2 1 ∷ [])
unfolding sections_of
low_ceiling = record { steps = 60; stops = refl; tells = refl }

-- a duration from the arrivals
durations_given : Meaning (program (cyclic a 1 0 10 [] (one (Work 3)) ∷ []))
    (record { until = 20; work = record { task = 0; ticks = 1 ∷ [] } ∷ []; items = [] })
    (event.Release 0 0 None ∷ event.End 2 0 2 ∷ event.Release 10 0 None ∷ event.End 14 0 4 ∷ event.Release 20 0 None ∷ event.Horizon 20 ∷ [])
durations_given = record { steps = 120; stops = refl; tells = refl }

-- two tasks of one priority: the one that leaves a section goes before the one that was released meanwhile
equal_priorities : Meaning
    (program (shared q 3 (codes "set") (one (Work 2)) ∷ cyclic (codes "x") 2 0 40 [] (two (call q (codes "set")) Null)
    ∷ cyclic (codes "y") 2 3 40 [] (one Null) ∷ [])) (until 10)
    (event.Release 0 1 None ∷ event.Enter 2 1 0 0 [] ∷ event.Release 3 2 None ∷ event.Leave 4 1 0 0 [] ∷ event.End 6 1 6 ∷ event.End 8 2 2
    ∷ event.Horizon 10 ∷ [])
equal_priorities = record { steps = 80; stops = refl; tells = refl }

-- inner sections: a protected operation calls another
inner_section : Meaning (program
    (shared q 1 (codes "set") (three (Work 2) (call (codes "e") (codes "set")) (Work 1)) ∷ shared (codes "e") 2 (codes "set") (one (Work 2))
    ∷ cyclic (codes "l") 1 0 40 [] (one (call q (codes "set"))) ∷ cyclic (codes "h") 2 7 20 [] (one (call (codes "e") (codes "set"))) ∷ []))
    (until 20)
    (event.Release 0 2 None ∷ event.Enter 2 2 0 0 [] ∷ event.Enter 6 2 1 0 [] ∷ event.Release 7 3 None ∷ event.Leave 8 2 1 0 []
    ∷ event.Enter 10 3 1 0 [] ∷ event.Leave 12 3 1 0 []
    ∷ event.End 13 3 5 ∷ event.Leave 14 2 0 0 [] ∷ event.End 15 2 10 ∷ event.Horizon 20 ∷ [])
inner_section = record { steps = 130; stops = refl; tells = refl }

-- a request inside a section
request_inside : Meaning (program
    (shared q 1 (codes "set") (one (Call s (codes "start") (Number 7 ∷ []))) ∷ cyclic p 1 0 50 [] (one (call q (codes "set")))
    ∷ sporadic s 2 2 50 0 false (one (Work 4)) ∷ [])) (until 15)
    (event.Release 0 1 None ∷ event.Enter 2 1 0 0 [] ∷ event.Request 6 1 2 (Some 7) ∷ event.Release 6 2 (Some 7) ∷ event.Leave 6 1 0 0 []
    ∷ event.End 11 2 5 ∷ event.End 12 1 7 ∷ event.Horizon 15 ∷ [])
request_inside = record { steps = 100; stops = refl; tells = refl }

-- what may be wrong with arrivals
abbrev external : ℕ → Program
external jitter = program (sporadic s 1 1 500 jitter true (one (Work 4)) ∷ [])

abbrev at : ℕ → Arrival
at time = record { time = time; task = 0; value = Some 1 }

abbrev arrivals : ℕ → List Arrival → Arrivals
arrivals n items = record { until = n; work = []; items = items }

-- 499 is early after 0, where the separation is 500 and there is no jitter
early_request : first_fault 1000000 (external 0) (arrivals 600 (at 0 ∷ at 499 ∷ [])) ≡ Some Early
early_request = refl

late_request : first_fault 1000000 (external 5) (arrivals 600 (at 0 ∷ at 495 ∷ [])) ≡ None
late_request = refl

third_request : first_fault 1000000 (external 5) (arrivals 600 (at 0 ∷ at 495 ∷ at 990 ∷ [])) ≡ Some Early
third_request = refl

falling : first_fault 1000000 (external 0) (arrivals 10 (at 5 ∷ at 4 ∷ [])) ≡ Some Falling
falling = refl

unknown : first_fault 1000000 (external 0) (arrivals 10 (record { time = 5; task = 1; value = Some 1 } ∷ [])) ≡ Some Unknown
unknown = refl

unfit : first_fault 1000000 (external 0) (arrivals 10 (record { time = 5; task = 0; value = None } ∷ [])) ≡ Some Unfit
unfit = refl

far : first_fault 1000000 (external 0) (arrivals 1000001 []) ≡ Some Far
far = refl

-- a background task of period 1, released again at each of its ends
background_task : Meaning (program (shared q 2 (codes "set") (one (Work 2))
    ∷ record { name = codes "log"; form = Shared 1 [] (operation (codes "note") (record { name = codes "v"; mode = In } ∷ []) (one (Work 1)) ∷ []) }
    ∷ cyclic (codes "h") 2 0 8 [] (one (call q (codes "set")))
    ∷ cyclic (codes "idle") 1 0 1 [] (two (call q (codes "set")) (Call (codes "log") (codes "note") (Number 1 ∷ []))) ∷ [])) (until 16)
    (event.Release 0 2 None ∷ event.Release 0 3 None ∷ event.Enter 2 2 0 0 [] ∷ event.Leave 4 2 0 0 [] ∷ event.End 5 2 5
    ∷ event.Enter 7 3 0 0 [] ∷ event.Release 8 2 None
    ∷ event.Leave 9 3 0 0 [] ∷ event.Enter 11 2 0 0 [] ∷ event.Leave 13 2 0 0 [] ∷ event.End 14 2 5 ∷ event.Enter 16 3 1 0 (1 ∷ [])
    ∷ event.Release 16 2 None ∷ event.Horizon 16 ∷ [])
background_task = record { steps = 110; stops = refl; tells = refl }
