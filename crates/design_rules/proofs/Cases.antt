-- One design for each case of a rule that the other examples leave open.
use Rattle.std.specs.Prelude.{◌≡◌, ℕ, zero, suc, Bool, true, false, List, [], ◌∷◌, map, Option, Some, None, codes}
use Rattle.std.proofs.Common.{refl}
use Prim.Native.String.{String}
use Rattle.seq_tree.specs.Expressions.{Number, Variable}
use Rattle.seq_tree.specs.Statements.{Statement, For, Call, Work, Null, Assign, Put}
use Rattle.seq_tree.specs.Faults as fault
use Rattle.seq_tree.specs.declared.tree.OpName.{OpName}
use Rattle.seq_tree.specs.declared.tree.Param.{Param}
use Rattle.seq_tree.specs.declared.tree.Datum.{Datum}
use Rattle.seq_tree.specs.declared.tree.Mode.{Mode}
use Rattle.seq_tree.specs.declared.tree.Mode.TheVariants.{In, Out}
use Rattle.ods_tree.specs.Designs.{Provided, Body, Object, Tree, Node, Empty, Design}
use Rattle.ods_tree.specs.declared.design.Kind.{Kind}
use Rattle.ods_tree.specs.declared.design.Kind.TheVariants.{Passive, Active, Protected, Cyclic, Sporadic}
use Rattle.ods_tree.specs.declared.design.Constraint.{Constraint}
use Rattle.ods_tree.specs.declared.design.Constraint.TheVariants.{Aser, Pser, Paer, Hser}
use Rattle.ods_tree.specs.declared.design.AttrKey.TheVariants.{Period, Offset, Deadline, ThreadBudget}
use Rattle.ods_tree.specs.declared.design.Link.{Link}
use Rattle.ods_tree.specs.Walk.{is_empty}
use Rattle.ods_tree.proofs.Shared.Short.{attr, cyc, cyc_with, spo, spo_external, pro, pas, trees, block, call, design, several}
use Rattle.design_rules.specs.Broken.{V01, V02, V03, V04, V05, V06, V10, V11, V13, V15Objects, V16}
use Rattle.design_rules.specs.Clashes.{clashes}
use Rattle.ada_tree.specs.Words.{is_ada_name}
use Rattle.design_rules.specs.Words.{kept_names}
use Rattle.design_rules.specs.Includes.{bad_includes}
use Rattle.design_rules.specs.Operations.{bad_operations, may_pass_on}
use Rattle.design_rules.specs.Fittings.{bad_fittings}
use Rattle.design_rules.specs.Uses.{strangers, may_call}
use Rattle.design_rules.specs.Rings.{calls_from}
use Rattle.design_rules.specs.Sources.{bad_sources}
use Rattle.design_rules.specs.Numbers.{bad_numbers}
use Rattle.design_rules.specs.Bodies.{bad_bodies}
use Rattle.design_rules.specs.Budgets.{bad_sizes, body_cost, is_over}
use Rattle.design_rules.specs.Rules.{number_of, Version, Clash, KeptName, Include, Operation, Fitting, Stranger, Absence, Use, CallRing}
use Rattle.design_rules.specs.Rules.{ObjectRing, StartRing, Source, IdleActive, BodyFault, Budget, Size, Spacing}
use Rattle.design_rules.specs.Rules as rules
use Rattle.design_rules.specs.Separations.{bad_separations}

abbrev op : String → String → OpName
op object op' = record { object = codes object; op = codes op' }

abbrev object : String → Kind → List Provided → List Body → Object
object name kind provides bodies =
    record { name = codes name; kind = kind; attrs = []; provides = provides; needs = []; vars = []; bodies = bodies; thread = None; links = [] }

abbrev param : String → Mode → Param
param name mode = record { name = codes name; mode = mode }

abbrev provided_with : String → List Param → Option Constraint → Provided
provided_with name params constraint = record { sig = record { name = codes name; params = params }; constraint = constraint }

abbrev provided : String → String → Mode → Option Constraint → Provided
provided name p mode constraint = provided_with name (param p mode ∷ []) constraint

abbrev body_with : String → List Datum → List Statement → Body
body_with name locals ss = record { name = codes name; locals = locals; block = block ss }

abbrev body : String → Body
body name = body_with name [] (Null ∷ [])

abbrev datum : String → Datum
datum name = record { name = codes name; value = 0 }

abbrev link : String → String → String → Link
link op' child to = record { op = codes op'; to = op child to }

abbrev start : String → Statement
start object' = Call (codes object') (codes "start") (Number 1 ∷ [])

abbrev alone : Object → Design
alone o = design (Node o Empty)

abbrev with_child : Object → Tree → Design
with_child o t = design (Node o (trees (t ∷ [])))

-- includes
no_cyclic_child : bad_includes (with_child (object "m" Cyclic [] []) (pas (codes "p") (codes "f") (Null ∷ []))) ≡ V03 (codes "m") ∷ []
no_cyclic_child = refl

no_sporadic_child : bad_includes (with_child (object "m" Sporadic [] []) (pas (codes "p") (codes "f") (Null ∷ []))) ≡ V03 (codes "m") ∷ []
no_sporadic_child = refl

-- operations
two_parameters_requested : bad_operations (alone (object "s" Sporadic (provided_with "go" (param "a" In ∷ param "b" In ∷ []) (Some Aser) ∷ []) []))
    ≡ V04 (codes "s") ∷ []
two_parameters_requested = refl

nothing_requested : bad_operations (alone (object "s" Sporadic [] [])) ≡ V04 (codes "s") ∷ []
nothing_requested = refl

request_hands_out : bad_operations (alone (object "s" Sporadic (provided "go" "v" Out (Some Aser) ∷ []) [])) ≡ V04 (codes "s") ∷ []
request_hands_out = refl

plain_in_protected : bad_operations (alone (object "q" Protected (provided "f" "v" In None ∷ []) (body "f" ∷ []))) ≡ V04 (codes "q") ∷ []
plain_in_protected = refl

-- parts
two_bodies : bad_fittings (alone (object "p" Passive (provided "f" "v" In None ∷ []) (body "f" ∷ body "f" ∷ []))) ≡ V05 (codes "p") ∷ []
two_bodies = refl

body_of_nothing : bad_fittings (alone (object "p" Passive [] (body "f" ∷ []))) ≡ V05 (codes "p") ∷ []
body_of_nothing = refl

passive_data : bad_fittings (alone (record (object "p" Passive [] []) { vars = datum "x" ∷ [] })) ≡ V05 (codes "p") ∷ []
passive_data = refl

no_thread : bad_fittings (alone (object "a" Cyclic [] [])) ≡ V05 (codes "a") ∷ []
no_thread = refl

thread_of_passive : bad_fittings (alone (record (object "p" Passive [] []) { thread = Some (block (Null ∷ [])) })) ≡ V05 (codes "p") ∷ []
thread_of_passive = refl

parent_with_body : bad_fittings (with_child (object "m" Active [] (body "f" ∷ [])) (pas (codes "p") (codes "f") (Null ∷ []))) ≡ V05 (codes "m") ∷ []
parent_with_body = refl

abbrev guard : Tree
guard = Node (object "q" Protected (provided "f" "v" In (Some Paer) ∷ []) (body "f" ∷ [])) Empty

abbrev parent : Provided → List Link → Object
parent p links = record (object "m" Active (p ∷ []) []) { links = links }

one_link : bad_fittings (with_child (parent (provided "f" "v" In (Some Paer)) (link "f" "q" "f" ∷ [])) guard) ≡ []
one_link = refl

two_links : bad_fittings (with_child (parent (provided "f" "v" In (Some Paer)) (link "f" "q" "f" ∷ link "f" "q" "f" ∷ [])) guard)
    ≡ V05 (codes "m") ∷ []
two_links = refl

other_constraint : bad_fittings (with_child (parent (provided "f" "v" In (Some Pser)) (link "f" "q" "f" ∷ [])) guard) ≡ V05 (codes "m") ∷ []
other_constraint = refl

other_mode : bad_fittings (with_child (parent (provided "f" "v" Out (Some Paer)) (link "f" "q" "f" ∷ [])) guard) ≡ V05 (codes "m") ∷ []
other_mode = refl

links_of_terminal : bad_fittings (alone (record (object "p" Passive [] []) { links = link "f" "q" "f" ∷ [] })) ≡ V05 (codes "p") ∷ []
links_of_terminal = refl

-- required operations
not_by_the_parent : strangers (several (Node (object "g" Active [] []) (trees (cyc (codes "a") 10 10 (call (codes "q") (codes "set") ∷ []) ∷ []))
    ∷ pro (codes "q") (codes "set") (Null ∷ []) ∷ []))
    ≡ V06 (codes "a") (op "q" "set") ∷ []
not_by_the_parent = refl

of_itself : strangers (alone (record (object "p" Passive (provided "f" "v" In None ∷ []) (body "f" ∷ [])) { needs = op "p" "f" ∷ [] }))
    ≡ V06 (codes "p") (op "p" "f") ∷ []
of_itself = refl

-- calls are followed through links
abbrev caller : String → String → OpName → Tree
caller name op' target = Node (record (object name Passive (provided_with op' [] None ∷ [])
    (body_with op' [] (call target.object target.op ∷ []) ∷ [])) { needs = target ∷ [] }) Empty

abbrev group_of : String → String → OpName → OpName → Tree → Tree
group_of name op' to target child
    = Node (record (object name Active (provided_with op' [] None ∷ []) []) { needs = target ∷ []; links = record { op = codes op'; to = to } ∷ [] })
    (trees (child ∷ []))

abbrev round : Design
round = several (group_of "g1" "f" (op "p1" "f") (op "g2" "g") (caller "p1" "f" (op "g2" "g"))
    ∷ group_of "g2" "g" (op "p2" "g") (op "g1" "f") (caller "p2" "g" (op "g1" "f")) ∷ [])

linked_calls : calls_from round (op "p1" "f") ≡ op "p2" "g" ∷ []
linked_calls = refl

-- three starts are told as two
three_starts : bad_sources (several (cyc (codes "p") 50 50 (start "s" ∷ start "s" ∷ start "s" ∷ []) ∷ spo (codes "s") 50 20 (Work 4 ∷ []) ∷ []))
    ≡ V10 (codes "s") 1 2 ∷ []
three_starts = refl

-- numbers
jitter_of_a_separation : bad_numbers (design (spo_external (codes "s") 10 10 10 (Null ∷ []))) ≡ V11 (Some (codes "s")) ∷ []
jitter_of_a_separation = refl

abbrev many : ℕ → List Param
many zero = []
many (suc n) = param "v" In ∷ many n

nine_parameters : bad_numbers (alone (object "p" Passive (provided_with "f" (many 9) None ∷ []) (body "f" ∷ []))) ≡ V11 (Some (codes "p")) ∷ []
nine_parameters = refl

eight_parameters : bad_numbers (alone (object "p" Passive (provided_with "f" (many 8) None ∷ []) (body "f" ∷ []))) ≡ []
eight_parameters = refl

no_work_in_a_body : bad_numbers (design (pro (codes "q") (codes "set") (Work 0 ∷ []))) ≡ V11 (Some (codes "q")) ∷ []
no_work_in_a_body = refl

parent_with_attributes : bad_numbers (with_child (record (object "m" Active [] []) { attrs = attr Period 10 ∷ [] })
    (pas (codes "p") (codes "f") (Null ∷ []))) ≡ V11 (Some (codes "m")) ∷ []
parent_with_attributes = refl

-- a parameter that is handed in can't be assigned
in_assigned : bad_bodies (alone (object "p" Passive (provided "f" "v" In None ∷ []) (body_with "f" [] (Assign (codes "v") (Number 1) ∷ []) ∷ [])))
    ≡ V13 (codes "p") (Some (codes "f")) fault.Assigned ∷ []
in_assigned = refl

-- a sporadic starter has its separation
sporadic_starter : bad_separations (several (spo_external (codes "t") 40 40 0 (start "s" ∷ []) ∷ spo (codes "s") 50 20 (Work 4 ∷ []) ∷ []))
    ≡ V16 (codes "t") 40 (codes "s") 50 ∷ []
sporadic_starter = refl

-- clashes
local_and_datum : clashes (alone
    (record (object "q" Protected (provided "f" "v" In (Some Paer) ∷ []) (body_with "f" (datum "x" ∷ []) (Null ∷ []) ∷ [])) {
      vars
          = datum "x" ∷ [];
    })) ≡ V01 (codes "x") ∷ []
local_and_datum = refl

two_locals : clashes (alone (object "p" Passive (provided "f" "v" In None ∷ []) (body_with "f" (datum "x" ∷ datum "x" ∷ []) (Null ∷ []) ∷ [])))
    ≡ V01 (codes "x") ∷ []
two_locals = refl

two_parameters : clashes (alone (object "p" Passive (provided_with "f" (param "v" In ∷ param "v" In ∷ []) None ∷ []) (body "f" ∷ [])))
    ≡ V01 (codes "v") ∷ []
two_parameters = refl

parameter_and_local : clashes (alone (object "p" Passive (provided "f" "v" In None ∷ []) (body_with "f" (datum "v" ∷ []) (Null ∷ []) ∷ [])))
    ≡ V01 (codes "v") ∷ []
parameter_and_local = refl

operation_and_later_object : clashes (several (pas (codes "p") (codes "q") (Null ∷ []) ∷ pro (codes "q") (codes "set") (Null ∷ []) ∷ []))
    ≡ V01 (codes "q") ∷ []
operation_and_later_object = refl

-- a cyclic object with children doesn't wait for its callers
cyclic_passes_on : map (may_pass_on Cyclic) (None ∷ Some Aser ∷ Some Pser ∷ Some Paer ∷ Some Hser ∷ []) ≡ true ∷ true ∷ true ∷ true ∷ false ∷ []
cyclic_passes_on = refl

-- who may call what: passive objects plain operations, active ones all, the others all that don't wait for the end of an activation
abbrev calls_of : Kind → List Bool
calls_of kind = map (may_call kind) (None ∷ Some Aser ∷ Some Pser ∷ Some Paer ∷ Some Hser ∷ [])

passive_calls : calls_of Passive ≡ true ∷ false ∷ false ∷ false ∷ false ∷ []
passive_calls = refl

active_calls : calls_of Active ≡ true ∷ true ∷ true ∷ true ∷ true ∷ []
active_calls = refl

other_calls : map calls_of (Protected ∷ Cyclic ∷ Sporadic ∷ []) ≡ (true ∷ true ∷ true ∷ true ∷ false ∷ []) ∷ (true ∷ true ∷ true ∷ true ∷ false ∷ [])
    ∷ (true ∷ true ∷ true ∷ true ∷ false ∷ []) ∷ []
other_calls = refl

-- a call that its object doesn't require is on no ring
unrequired_call : calls_from (alone (object "p" Passive (provided "f" "v" In None ∷ []) (body_with "f" [] (call (codes "p") (codes "f") ∷ []) ∷ [])))
    (op "p" "f") ≡ []
unrequired_call = refl

-- attributes
offset_twice : bad_numbers (design (cyc_with (codes "a") (attr Period 10 ∷ attr Offset 1 ∷ attr Offset 1 ∷ attr Deadline 10 ∷ attr ThreadBudget 10
    ∷ []) [] (Null ∷ []))) ≡ V11 (Some (codes "a")) ∷ []
offset_twice = refl

abbrev is_right_period : ℕ → Bool
is_right_period n = is_empty (bad_numbers
    (design (cyc_with (codes "a") (attr Period n ∷ attr Deadline 1 ∷ attr ThreadBudget 10 ∷ []) [] (Null ∷ []))))

period_in_range : map is_right_period (0 ∷ 1 ∷ 1000000000 ∷ 1000000001 ∷ []) ≡ false ∷ true ∷ true ∷ false ∷ []
period_in_range = refl

-- bodies before the thread
two_bad_blocks : bad_bodies (alone (record (object "s" Sporadic [] (body_with "f" [] (Put (Variable (codes "x")) ∷ []) ∷ [])) {
  thread
      = Some (block (Put (Variable (codes "y")) ∷ []));
}))
    ≡ V13 (codes "s") (Some (codes "f")) fault.Unknown ∷ V13 (codes "s") None fault.Unknown ∷ []
two_bad_blocks = refl

-- a cost over the greatest one isn't told against a budget
over_budgets : map (is_over 10) (10 ∷ 11 ∷ 1000000000 ∷ 1000000001 ∷ []) ≡ false ∷ true ∷ true ∷ false ∷ []
over_budgets = refl

-- a cost through a link is that of what is linked
linked_cost : body_cost (several (group_of "g1" "f" (op "p1" "f") (op "g2" "g") (caller "p1" "f" (op "g2" "g"))
    ∷ group_of "g2" "g" (op "p2" "g") (op "p2" "g") (pas (codes "p2") (codes "g") (Work 5 ∷ [])) ∷ []))
    (block (call (codes "g1") (codes "f") ∷ [])) ≡ 9
linked_cost = refl

-- the number of objects
abbrev objects_of : ℕ → List Tree
objects_of zero = []
objects_of (suc n) = Node (object "p" Passive [] []) Empty ∷ objects_of n

too_many_objects : bad_sizes (several (objects_of 500)) ≡ V15Objects 501 ∷ []
too_many_objects = refl

-- a name in a thread that Ada keeps
kept_in_a_thread : kept_names (design (cyc (codes "a") 10 10 (For (codes "task") 1 2 (block (Null ∷ [])) ∷ []))) ≡ V02 (codes "task") ∷ []
unfolding is_ada_name
kept_in_a_thread = refl

-- the rules in order
in_order : map number_of (Version ∷ Clash ∷ KeptName ∷ Include ∷ Operation ∷ Fitting ∷ Stranger ∷ Absence ∷ Use ∷ CallRing ∷ ObjectRing ∷ StartRing
    ∷ Source ∷ rules.Number ∷ IdleActive ∷ BodyFault ∷ Budget ∷ Size ∷ Spacing ∷ [])
    ≡ 0 ∷ 1 ∷ 2 ∷ 3 ∷ 4 ∷ 5 ∷ 6 ∷ 7 ∷ 8 ∷ 9 ∷ 10 ∷ 11 ∷ 12 ∷ 13 ∷ 14 ∷ 15 ∷ 16 ∷ 17 ∷ 18 ∷ []
in_order = refl

-- what is allowed, in the least designs
active_includes_all : bad_includes (with_child (object "m" Active [] []) (cyc (codes "a") 10 10 (Null ∷ []))) ≡ []
active_includes_all = refl

by_the_parent : strangers (several (Node (record (object "g" Active [] []) { needs = op "q" "set" ∷ [] })
    (trees (cyc (codes "a") 10 10 (call (codes "q") (codes "set") ∷ []) ∷ [])) ∷ pro (codes "q") (codes "set") (Null ∷ []) ∷ []))
    ≡ []
by_the_parent = refl

external_source : bad_sources (design (spo_external (codes "s") 50 20 0 (Null ∷ []))) ≡ []
external_source = refl

required_call : bad_bodies (several (cyc (codes "a") 10 10 (call (codes "q") (codes "set") ∷ []) ∷ pro (codes "q") (codes "set") (Null ∷ [])
    ∷ [])) ≡ []
required_call = refl

equal_separation : bad_separations (several (cyc (codes "p") 50 50 (start "s" ∷ []) ∷ spo (codes "s") 50 20 (Work 4 ∷ []) ∷ [])) ≡ []
equal_separation = refl
