-- The mine pump: nine units, up to 100 ticks, with all its events.
use Rattle.std.specs.Prelude.{ℕ, Bool, true, false, List, [], ◌∷◌, Some, None, codes, refl}
use Rattle.seq_tree.specs.Names.{Name}
use Rattle.seq_tree.specs.Expressions.{Expression, Number, Variable, Paren, Binary}
use Rattle.seq_tree.specs.Statements.{Statement, Statements, Null, Assign, If, Call, Work, Put, End, Then, Nothing, Else, When}
use Rattle.seq_tree.specs.Operations.{Operation}
use Rattle.seq_tree.specs.declared.tree.Costs.{Costs}
use Rattle.seq_tree.specs.declared.tree.Datum.{Datum}
use Rattle.seq_tree.specs.declared.tree.Mode.{Mode}
use Rattle.seq_tree.specs.declared.tree.Mode.TheVariants.{In, Out}
use Rattle.seq_tree.specs.declared.tree.BinOp.TheVariants as op
use Rattle.ada_tree.specs.Programs.{Unit, Program, Shared, Cyclic, Sporadic}
use Rattle.arrivals_tree.specs.Arriving.{Arrivals}
use Rattle.trace_tree.specs.declared.event.Event.TheVariants as event
use Rattle.machine.specs.Meanings.{Meaning}

abbrev unit_costs : Costs
unit_costs = record { assign = 1; test = 1; turn = 1; call = 2; nothing = 1; put = 1; finish = 1 }

abbrev block : List Statement → Statements
block [] = End
block (x ∷ xs) = Then x (block xs)

abbrev v : Name
v = codes "v"

abbrev var : Name → Expression
var n = Variable n

abbrev call : Name → Name → List Expression → Statement
call = Call

abbrev zeros : List Name → List Datum
zeros [] = []
zeros (n ∷ ns) = record { name = n; value = 0 } ∷ zeros ns

abbrev operation : Name → Name → Mode → List Statement → Operation
operation n param mode b = record { sig = record { name = n; params = record { name = param; mode = mode } ∷ [] }; locals = []; block = block b }

abbrev shared : Name → ℕ → List Name → List Operation → Unit
shared n ceiling vars ops = record { name = n; form = Shared ceiling (zeros vars) ops }

abbrev cyclic : Name → ℕ → ℕ → List Name → List Statement → Unit
cyclic n priority period vars b = record { name = n; form = Cyclic priority 0 period (zeros vars) (block b) }

abbrev sporadic : Name → ℕ → ℕ → Name → Name → ℕ → ℕ → Bool → List Statement → Unit
sporadic n priority ceiling f param separation jitter external b =
    record {
      name = n;
      form = Sporadic priority ceiling
          (record { name = f; params = record { name = param; mode = In } ∷ [] }) separation jitter external [] (block b);
    }

abbrev set : Name → Expression → Statement
set = Assign

abbrev when : Expression → List Statement → List Statement → Statement
when c [] b = Null
when c (x ∷ xs) [] = If (When c (block (x ∷ xs)) Nothing)
when c (x ∷ xs) (y ∷ ys) = If (When c (block (x ∷ xs)) (Else (block (y ∷ ys))))

abbrev mine : Program
mine = record {
  name = codes "mine";
  costs = unit_costs;
  units =
      shared (codes "motor") 6 (codes "pump" ∷ codes "unsafe" ∷ [])
      (operation (codes "set_pump") (codes "want") In
      (when (Binary op.Eq (var (codes "unsafe")) (Number 0)) (set (codes "pump") (var (codes "want")) ∷ []) (set (codes "pump") (Number 0) ∷ []) ∷ [])
      ∷ operation (codes "set_safety") (codes "s") In
      (set (codes "unsafe") (var (codes "s")) ∷ when (Binary op.Eq (var (codes "s")) (Number 1)) (set (codes "pump") (Number 0) ∷ []) [] ∷ [])
      ∷ operation (codes "state") v Out (set v (var (codes "pump")) ∷ []) ∷ [])
      ∷ shared (codes "ch4_status") 6 (codes "level" ∷ [])
      (operation (codes "write") v In (set (codes "level") (var v) ∷ []) ∷ operation (codes "read") v Out (set v (var (codes "level")) ∷ []) ∷ [])
      ∷ shared (codes "data_logger") 4 (codes "count" ∷ codes "last" ∷ [])
      (operation (codes "log") v In
      (set (codes "count") (Binary op.Add (var (codes "count")) (Number 1)) ∷ set (codes "last") (var v) ∷ Work 2 ∷ []) ∷ [])
      ∷ sporadic (codes "water_handler") 2 2 (codes "water") (codes "high") 6000 5 true
      (call (codes "motor") (codes "set_pump") (var (codes "high") ∷ []) ∷ call (codes "data_logger") (codes "log") (var (codes "high") ∷ []) ∷ [])
      ∷ cyclic (codes "flow_sensor") 1 1000 (codes "p" ∷ [])
      (Work 5 ∷ call (codes "motor") (codes "state") (var (codes "p") ∷ []) ∷ call (codes "data_logger") (codes "log") (var (codes "p") ∷ []) ∷ [])
      ∷ cyclic (codes "ch4_sensor") 6 80 (codes "reading" ∷ [])
      (Work 6 ∷ set (codes "reading") (Binary op.Mod (Paren (Binary op.Add (var (codes "reading")) (Number 7))) (Number 50))
      ∷ call (codes "ch4_status") (codes "write") (var (codes "reading") ∷ [])
      ∷ when (Binary op.Ge (var (codes "reading")) (Number 40))
      (call (codes "motor") (codes "set_safety") (Number 1 ∷ []) ∷ call (codes "alarm_console") (codes "alert") (var (codes "reading") ∷ []) ∷ [])
      (call (codes "motor") (codes "set_safety") (Number 0 ∷ []) ∷ []) ∷ [])
      ∷ cyclic (codes "co_sensor") 4 100 (codes "reading" ∷ [])
      (Work 6 ∷ set (codes "reading") (Binary op.Mod (Paren (Binary op.Add (var (codes "reading")) (Number 3))) (Number 20))
      ∷ call (codes "data_logger") (codes "log") (var (codes "reading") ∷ []) ∷ [])
      ∷ cyclic (codes "air_flow") 3 100 (codes "level" ∷ [])
      (Work 4 ∷ call (codes "ch4_status") (codes "read") (var (codes "level") ∷ [])
      ∷ when (Binary op.Ge (var (codes "level")) (Number 40)) (Put (var (codes "level")) ∷ []) [] ∷ [])
      ∷ sporadic (codes "alarm_console") 5 6 (codes "alert") v 80 0 false (Put (var v) ∷ Work 4 ∷ []) ∷ [];
}

abbrev water : Arrivals
water = record { until = 100; work = []; items = record { time = 30; task = 3; value = Some 1 } ∷ [] }

-- what the mine pump tells
mine_pump : Meaning mine water
    (event.Release 0 4 None ∷ event.Release 0 5 None ∷ event.Release 0 6 None ∷ event.Release 0 7 None ∷ event.Enter 9 5 1 0 (7 ∷ [])
    ∷ event.Leave 10 5 1 0 [] ∷ event.Enter 13 5 0 1 (0 ∷ []) ∷ event.Leave 15 5 0 1 [] ∷ event.End 16 5 16 ∷ event.Enter 25 6 2 0 (3 ∷ [])
    ∷ event.Leave 29 6 2 0 [] ∷ event.End 30 6 14 ∷ event.Arrive 30 3 (Some 1) ∷ event.Release 30 3 (Some 1) ∷ event.Enter 36 7 1 1 []
    ∷ event.Leave 37 7 1 1 (7 ∷ []) ∷ event.End 39 7 9 ∷ event.Enter 41 3 0 0 (1 ∷ []) ∷ event.Leave 43 3 0 0 [] ∷ event.Enter 45 3 2 0 (1 ∷ [])
    ∷ event.Leave 49 3 2 0 [] ∷ event.End 50 3 11 ∷ event.Enter 57 4 0 2 [] ∷ event.Leave 58 4 0 2 (1 ∷ []) ∷ event.Enter 60 4 2 0 (1 ∷ [])
    ∷ event.Leave 64 4 2 0 [] ∷ event.End 65 4 15 ∷ event.Release 80 5 None ∷ event.Enter 89 5 1 0 (14 ∷ []) ∷ event.Leave 90 5 1 0 []
    ∷ event.Enter 93 5 0 1 (0 ∷ []) ∷ event.Leave 95 5 0 1 [] ∷ event.End 96 5 16 ∷ event.Release 100 6 None ∷ event.Release 100 7 None
    ∷ event.Horizon 100 ∷ [])
mine_pump = record { steps = 560; stops = refl; tells = refl }
