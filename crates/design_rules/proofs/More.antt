-- More examples of broken rules, and of what is no clash.
use Rattle.std.specs.Prelude.{◌≡◌, ℕ, zero, suc, List, [], ◌∷◌, Option, Some, None, codes, refl}
use Prim.Native.String.{String}
use Rattle.seq_tree.specs.Expressions.{Number}
use Rattle.seq_tree.specs.Statements.{Statement, Call, For, Work, Null}
use Rattle.seq_tree.specs.declared.tree.OpName.{OpName}
use Rattle.seq_tree.specs.declared.tree.Mode.{Mode}
use Rattle.seq_tree.specs.declared.tree.Mode.TheVariants.{In, Out}
use Rattle.ods_tree.specs.Designs.{Provided, Body, Object, Tree, Node, Empty, Design}
use Rattle.ods_tree.specs.declared.design.Kind.{Kind}
use Rattle.ods_tree.specs.declared.design.Kind.TheVariants.{Passive, Active, Protected, Cyclic, Sporadic}
use Rattle.ods_tree.specs.declared.design.Constraint.{Constraint}
use Rattle.ods_tree.specs.declared.design.Constraint.TheVariants.{Aser, Paer}
use Rattle.ods_tree.specs.declared.design.AttrKey.TheVariants.{Period, Deadline, ThreadBudget, ArrivalJitter}
use Rattle.ods_tree.proofs.Shared.Short.{attr, cyc, cyc_with, spo, pro, trees, group, block, call, design, several}
use Rattle.design_rules.specs.Broken.{V01, V03, V04, V05, V06, V07, V09Starts, V10, V11, V12, V15Threads, V16}
use Rattle.design_rules.specs.Clashes.{clashes}
use Rattle.design_rules.specs.Includes.{bad_includes}
use Rattle.design_rules.specs.Operations.{bad_operations}
use Rattle.design_rules.specs.Fittings.{bad_fittings}
use Rattle.design_rules.specs.Uses.{strangers, absent}
use Rattle.design_rules.specs.Sources.{bad_sources}
use Rattle.design_rules.specs.Numbers.{bad_numbers}
use Rattle.design_rules.specs.Bodies.{idle_actives}
use Rattle.design_rules.specs.Budgets.{bad_sizes}
use Rattle.design_rules.specs.Separations.{bad_separations}
use Rattle.design_rules.specs.Rules.{Offends, StartRing}

abbrev op : String → String → OpName
op object op' = record { object = codes object; op = codes op' }

abbrev start : String → Statement
start object = Call (codes object) (codes "start") (Number 1 ∷ [])

-- one loop after another may have its name, one inside another may not
abbrev loop : String → List Statement → Statement
loop name ss = For (codes name) 1 2 (block ss)

loops_apart : clashes (design (cyc (codes "a") 10 10 (loop "i" (Null ∷ []) ∷ loop "i" (Null ∷ []) ∷ []))) ≡ []
loops_apart = refl

loops_nested : clashes (design (cyc (codes "a") 10 10 (loop "i" (loop "j" (loop "i" (Null ∷ []) ∷ []) ∷ []) ∷ []))) ≡ V01 (codes "i") ∷ []
loops_nested = refl

loop_and_datum : clashes (design (cyc_with (codes "a") [] (codes "x" ∷ []) (loop "x" (Null ∷ []) ∷ []))) ≡ V01 (codes "x") ∷ []
loop_and_datum = refl

loop_and_object : clashes (design (cyc (codes "a") 10 10 (loop "a" (Null ∷ []) ∷ []))) ≡ V01 (codes "a") ∷ []
loop_and_object = refl

loop_and_parameter : clashes (design (spo (codes "s") 10 10 (loop "v" (Null ∷ []) ∷ []))) ≡ V01 (codes "v") ∷ []
loop_and_parameter = refl

object_and_design : clashes (design (cyc (codes "d") 10 10 (Null ∷ []))) ≡ V01 (codes "d") ∷ []
object_and_design = refl

-- an object by its parts
abbrev object : String → Kind → List Provided → List Body → Object
object name kind provides bodies =
    record { name = codes name; kind = kind; attrs = []; provides = provides; needs = []; vars = []; bodies = bodies; thread = None; links = [] }

abbrev provided : String → String → Mode → Option Constraint → Provided
provided name param mode constraint = record {
  sig = record { name = codes name; params = record { name = codes param; mode = mode } ∷ [] };
  constraint = constraint;
}

abbrev body : String → Body
body name = record { name = codes name; locals = []; block = block (Null ∷ []) }

-- a parameter like an operation clashes where there is a body
parameter_and_operation : clashes
    (design (Node (object "p" Passive (provided "f" "g" In None ∷ provided "g" "w" In None ∷ []) (body "f" ∷ body "g" ∷ [])) Empty))
    ≡ V01 (codes "g") ∷ []
parameter_and_operation = refl

parameter_without_body : clashes
    (design (Node (object "p" Passive (provided "f" "g" In None ∷ provided "g" "w" In None ∷ []) (body "g" ∷ [])) Empty)) ≡ []
parameter_without_body = refl

-- the thread of a sporadic object is the body of its request
parameter_of_request : clashes
    (design (Node (record (object "s" Sporadic (provided "b" "a" In (Some Aser) ∷ provided "a" "w" In (Some Aser) ∷ []) []) {
      thread
          = Some (block (Null ∷ []));
    }) Empty)) ≡ V01 (codes "a") ∷ []
parameter_of_request = refl

-- includes
cyclic_inside_sporadic : bad_includes
    (design (Node (object "m" Sporadic [] []) (trees (cyc (codes "a") 10 10 (Null ∷ []) ∷ spo (codes "s") 10 10 (Null ∷ []) ∷ []))))
    ≡ V03 (codes "m") ∷ []
cyclic_inside_sporadic = refl

-- operations
out_of_paer : bad_operations (design (Node (object "q" Protected (provided "f" "v" Out (Some Paer) ∷ []) (body "f" ∷ [])) Empty))
    ≡ V04 (codes "q") ∷ []
out_of_paer = refl

cyclic_provides : bad_operations (design (Node (object "a" Cyclic (provided "f" "v" In (Some Aser) ∷ []) []) Empty)) ≡ V04 (codes "a") ∷ []
cyclic_provides = refl

-- parts that don't fit
no_body : bad_fittings (design (Node (object "q" Protected (provided "f" "v" In (Some Paer) ∷ []) []) Empty)) ≡ V05 (codes "q") ∷ []
no_body = refl

no_link : bad_fittings (several (Node (object "m" Active (provided "f" "v" In (Some Paer) ∷ []) [])
    (trees (pro (codes "q") (codes "set") (Null ∷ []) ∷ [])) ∷ [])) ≡ V05 (codes "m") ∷ []
no_link = refl

-- required operations
stranger : strangers (design (cyc (codes "a") 10 10 (call (codes "q") (codes "set") ∷ []))) ≡ V06 (codes "a") (op "q" "set") ∷ []
stranger = refl

not_there : absent (several (cyc (codes "a") 10 10 (call (codes "q") (codes "get") ∷ []) ∷ pro (codes "q") (codes "set") (Null ∷ []) ∷ []))
    ≡ V07 (codes "a") (op "q" "get") ∷ []
not_there = refl

-- threads that start each other
abbrev starting_ring : Design
starting_ring = several (spo (codes "s") 50 50 (start "t" ∷ []) ∷ spo (codes "t") 50 50 (start "s" ∷ []) ∷ [])

starts_in_a_ring : Offends starting_ring starting_ring StartRing 0 (V09Starts (codes "s"))
starts_in_a_ring = record { thread = _; stands = refl; ring = (codes "t" ∷ [], (refl, refl)); tells = refl }

-- numbers
no_deadline : bad_numbers (design (cyc_with (codes "a") (attr Period 10 ∷ attr ThreadBudget 10 ∷ []) [] (Null ∷ []))) ≡ V11 (Some (codes "a")) ∷ []
no_deadline = refl

period_twice : bad_numbers (design (cyc_with (codes "a") (attr Period 10 ∷ attr Deadline 10 ∷ attr Period 10 ∷ attr ThreadBudget 10 ∷ []) []
    (Null ∷ []))) ≡ V11 (Some (codes "a")) ∷ []
period_twice = refl

foreign_jitter : bad_numbers (design (cyc_with (codes "a") (attr Period 10 ∷ attr Deadline 10 ∷ attr ThreadBudget 10 ∷ attr ArrivalJitter 0 ∷ []) []
    (Null ∷ []))) ≡ V11 (Some (codes "a")) ∷ []
foreign_jitter = refl

no_work : bad_numbers (design (cyc (codes "a") 10 10 (Work 0 ∷ []))) ≡ V11 (Some (codes "a")) ∷ []
no_work = refl

no_cost : bad_numbers (record {
  name = codes "d";
  version = None;
  costs = record { assign = 1; test = 1; turn = 1; call = 0; nothing = 1; put = 1; finish = 1 };
  root = cyc (codes "a") 10 11 (Null ∷ []);
}) ≡ V11 None ∷ V11 (Some (codes "a")) ∷ []
no_cost = refl

-- an active object without children
idle_active : idle_actives (several (group (codes "g") [] ∷ [])) ≡ V12 (codes "g") ∷ []
idle_active = refl

-- too many threads
abbrev copies : ℕ → List Tree
copies zero = []
copies (suc n) = cyc (codes "a") 10 10 (Null ∷ []) ∷ copies n

too_many : bad_sizes (several (copies 31)) ≡ V15Threads 31 ∷ []
too_many = refl

-- a starter that is too quick
too_quick : bad_separations (several (cyc (codes "p") 40 40 (start "s" ∷ []) ∷ spo (codes "s") 50 20 (Work 4 ∷ []) ∷ []))
    ≡ V16 (codes "p") 40 (codes "s") 50 ∷ []
too_quick = refl

-- no source at all
unsourced : bad_sources (design (spo (codes "s") 50 20 (Work 4 ∷ []))) ≡ V10 (codes "s") 0 0 ∷ []
unsourced = refl
