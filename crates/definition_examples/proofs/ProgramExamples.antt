-- Examples: which Ada programs are proper and keep the rules. Most differ in one thing from one that does.
use Rattle.std.specs.Prelude.{◌≡◌, ◌≤◌, ℕ, Bool, true, false, List, [], ◌∷◌, ◌++◌, map, replicate, length, Some, None, codes, refl}
use Rattle.std.specs.List.{list_any}
use Rattle.seq_tree.specs.Names.{Name}
use Rattle.seq_tree.specs.Expressions.{Number, Variable, Binary}
use Rattle.seq_tree.specs.Statements.{Statement, Null, Assign, If, For, ExitWhen, Work, Put, End, Nothing, Else, When}
use Rattle.seq_tree.specs.Operations.{Signature, Operation}
use Rattle.seq_tree.specs.Faults.{Unknown, Exit, Assigned}
use Rattle.seq_tree.specs.Proper.{Limits, within_limits}
use Rattle.seq_tree.specs.declared.tree.Costs.{Costs}
use Rattle.seq_tree.specs.declared.tree.Datum.{Datum}
use Rattle.seq_tree.specs.declared.tree.OpName.{OpName}
use Rattle.seq_tree.specs.declared.tree.BinOp.TheVariants as bin
use Rattle.seq_tree.specs.declared.tree.Param.{Param}
use Rattle.seq_tree.specs.declared.tree.Mode.{Mode}
use Rattle.seq_tree.specs.declared.tree.Mode.TheVariants.{In, Out}
use Rattle.ods_tree.proofs.Shared.Short.{row_costs, block, call}
use Rattle.ada_tree.specs.Programs.{Form, Unit, Program, Passive, Shared, Cyclic, Sporadic, is_task}
use Rattle.ada_tree.specs.Bodies.{unit_fault}
use Rattle.ada_tree.specs.Naming.{breaks_naming}
use Rattle.ada_tree.specs.Proper.{IsProperForm, IsProperProgram}
use Rattle.ada_tree.specs.Ranges.{breaks_ranges, whole_breaks}
use Rattle.ada_tree.specs.Reading.{Reads}
use Rattle.ada_tree.specs.Rules.{Naming, Uses, Rings, Bodies, Ranges, Externals, number_of, Whole, At, WholeBreaks, IsBefore}
use Rattle.ada_tree.specs.Uses.{breaks_uses, breaks_external}
use Rattle.ada_tree.specs.Words.{is_ada_name}

abbrev of_units : List Unit → Program
of_units us = record { name = codes "d"; costs = row_costs; units = us }

abbrev unit : Name → Form → Unit
unit n form = record { name = n; form = form }

abbrev param : Name → Mode → Param
param n mode = record { name = n; mode = mode }

abbrev datum : Name → Datum
datum n = record { name = n; value = 0 }

abbrev head : Name → List Param → Signature
head n params = record { name = n; params = params }

abbrev operation : Signature → List Datum → List Statement → Operation
operation sig locals ss = record { sig = sig; locals = locals; block = block ss }

abbrev passive : Name → Operation → Unit
passive n o = unit n (Passive (o ∷ []))

abbrev shared : Name → List Datum → Operation → Unit
shared n vars o = unit n (Shared 2 vars (o ∷ []))

abbrev cyclic : Name → List Datum → List Statement → Unit
cyclic n vars ss = unit n (Cyclic 1 0 10 vars (block ss))

abbrev sporadic : Name → List Param → Bool → List Statement → Unit
sporadic n params external ss = unit n (Sporadic 2 2 (head (codes "start") params) 50 0 external [] (block ss))

abbrev plain : Name → Operation
plain n = operation (head n []) [] (Null ∷ [])

-- words that are reserved, and that the text keeps; others are names
reserved : list_any is_ada_name (codes "abort" ∷ codes "abs" ∷ codes "abstract" ∷ codes "accept" ∷ codes "access" ∷ codes "aliased" ∷ codes "all"
    ∷ codes "and" ∷ codes "array" ∷ codes "at" ∷ codes "begin" ∷ codes "body" ∷ codes "case" ∷ codes "constant" ∷ codes "declare" ∷ codes "delay"
    ∷ codes "delta" ∷ codes "digits" ∷ codes "do" ∷ codes "else" ∷ codes "elsif" ∷ codes "end" ∷ codes "entry" ∷ codes "exception" ∷ codes "exit"
    ∷ codes "for" ∷ codes "function" ∷ codes "generic" ∷ codes "goto" ∷ codes "if" ∷ codes "in" ∷ codes "interface" ∷ codes "is"
    ∷ codes "limited"
    ∷ codes "loop" ∷ codes "mod" ∷ codes "new" ∷ codes "not" ∷ codes "null" ∷ codes "of" ∷ codes "or" ∷ codes "others" ∷ codes "out"
    ∷ codes "overriding" ∷ codes "package" ∷ codes "pragma" ∷ codes "private" ∷ codes "procedure" ∷ codes "protected" ∷ codes "raise"
    ∷ codes "range"
    ∷ codes "record" ∷ codes "rem" ∷ codes "renames" ∷ codes "requeue" ∷ codes "return" ∷ codes "reverse" ∷ codes "select" ∷ codes "separate"
    ∷ codes "some" ∷ codes "subtype" ∷ codes "synchronized" ∷ codes "tagged" ∷ codes "task" ∷ codes "terminate" ∷ codes "then" ∷ codes "type"
    ∷ codes "until" ∷ codes "use" ∷ codes "when" ∷ codes "while" ∷ codes "with" ∷ codes "xor" ∷ []) ≡ false
unfolding is_ada_name
reserved = refl

kept : list_any is_ada_name (codes "" ∷ codes "hrt" ∷ codes "word" ∷ codes "work" ∷ codes "put" ∷ codes "activation_end" ∷ codes "boolean"
    ∷ codes "true" ∷ codes "false" ∷ codes "ada" ∷ codes "standard" ∷ codes "system" ∷ codes "hrt_x" ∷ []) ≡ false
unfolding is_ada_name
kept = refl

free : map is_ada_name (codes "x" ∷ codes "hrtx" ∷ codes "integer" ∷ codes "natural" ∷ []) ≡ true ∷ true ∷ true ∷ true ∷ []
unfolding is_ada_name
free = refl

-- proper forms, and each with one name that is none
abbrev limits : Limits
limits = within_limits is_ada_name

taken : is_ada_name (codes "end") ≡ true → ⊥
unfolding is_ada_name
taken h = cc

fine_operation : IsProperForm limits (Passive (operation (head (codes "f") (param (codes "v") Out ∷ [])) (datum (codes "y") ∷ []) (Null ∷ []) ∷ []))
unfolding is_ada_name
fine_operation = ((refl, (refl, tt), (refl, tt), (tt, tt)), tt)

op_named_so : IsProperForm limits (Passive (plain (codes "end") ∷ [])) → ⊥
op_named_so h = taken h.0.0

param_named_so : IsProperForm limits (Passive (operation (head (codes "f") (param (codes "end") In ∷ [])) [] (Null ∷ []) ∷ [])) → ⊥
param_named_so h = taken h.0.1.0

local_named_so : IsProperForm limits (Passive (operation (head (codes "f") []) (datum (codes "end") ∷ []) (Null ∷ []) ∷ [])) → ⊥
local_named_so h = taken h.0.2.0

empty_body : IsProperForm limits (Passive (operation (head (codes "f") []) [] [] ∷ [])) → ⊥
empty_body h = h.0.3

datum_named_so : IsProperForm limits (Shared 1 (datum (codes "end") ∷ []) []) → ⊥
datum_named_so h = taken h.0.0

guarded_op_named_so : IsProperForm limits (Shared 1 [] (plain (codes "end") ∷ [])) → ⊥
guarded_op_named_so h = taken h.1.0.0

task_datum_named_so : IsProperForm limits (Cyclic 1 0 10 (datum (codes "end") ∷ []) (block (Null ∷ []))) → ⊥
task_datum_named_so h = taken h.0.0

empty_task : IsProperForm limits (Cyclic 1 0 10 [] End) → ⊥
empty_task h = h.1

request_fine : IsProperForm limits (Sporadic 1 1 (head (codes "start") (param (codes "v") In ∷ [])) 10 0 true (datum (codes "x")
    ∷ []) (block (Null ∷ [])))
unfolding is_ada_name
request_fine = (refl, (refl, tt), refl, (refl, tt), (tt, tt))

abbrev request_of : List Param → Form
request_of params = Sporadic 1 1 (head (codes "start") params) 10 0 true [] (block (Null ∷ []))

request_alone : IsProperForm limits (request_of [])
unfolding is_ada_name
request_alone = (refl, tt, tt, tt, (tt, tt))

request_named_so : IsProperForm limits (Sporadic 1 1 (head (codes "end") []) 10 0 true [] (block (Null ∷ []))) → ⊥
request_named_so h = taken h.0

request_param_named_so : IsProperForm limits (request_of (param (codes "end") In ∷ [])) → ⊥
request_param_named_so h = taken h.1.0

request_hands_out : IsProperForm limits (request_of (param (codes "v") Out ∷ [])) → ⊥
request_hands_out h = (let mode : Out ≡ In = h.2 in cc)

request_of_two : IsProperForm limits (request_of (param (codes "v") In ∷ param (codes "w") In ∷ [])) → ⊥
request_of_two h = h.2

request_datum_named_so : IsProperForm limits (Sporadic 1 1 (head (codes "start") []) 10 0 true (datum (codes "end") ∷ []) (block (Null ∷ []))) → ⊥
request_datum_named_so h = taken h.3.0

empty_sporadic : IsProperForm limits (Sporadic 1 1 (head (codes "start") []) 10 0 true [] End) → ⊥
empty_sporadic h = h.4

program_named_so : IsProperProgram limits (record (of_units []) { name = codes "end" }) → ⊥
program_named_so h = taken h.0

unit_named_so : IsProperProgram limits (of_units (unit (codes "end") (Passive []) ∷ [])) → ⊥
unit_named_so h = taken h.1.0.0

within_bytes : (text : List ℕ) (p : Program) → Reads text p → length text ≤ 16777216
within_bytes text p r = r.within

-- names: of a unit an earlier one, the program or a thing inside an earlier one has the name; of a thing inside a unit that unit or an earlier one
abbrev naming : List Unit → List Unit → Unit → Bool
naming before after u = breaks_naming (of_units (before ++ u ∷ after)) (length before) u

names_differ : naming (passive (codes "p") (plain (codes "f")) ∷ []) (cyclic (codes "z") [] (Null ∷ [])
    ∷ []) (cyclic (codes "t") (datum (codes "x") ∷ []) (For (codes "i") 1 2 (block (Null ∷ [])) ∷ call (codes "p") (codes "f") ∷ [])) ≡ false
names_differ = refl

as_earlier_unit : naming (passive (codes "p") (plain (codes "f")) ∷ []) [] (cyclic (codes "p") [] (Null ∷ [])) ≡ true
as_earlier_unit = refl

as_program : naming [] [] (cyclic (codes "d") [] (Null ∷ [])) ≡ true
as_program = refl

as_earlier_operation : naming (passive (codes "p") (plain (codes "t")) ∷ []) [] (cyclic (codes "t") [] (Null ∷ [])) ≡ true
as_earlier_operation = refl

as_earlier_datum : naming (shared (codes "q") (datum (codes "t") ∷ []) (plain (codes "f")) ∷ []) [] (cyclic (codes "t") [] (Null ∷ [])) ≡ true
as_earlier_datum = refl

as_earlier_parameter : naming (passive (codes "p") (operation (head (codes "f") (param (codes "t") In ∷ [])) [] (Null ∷ []))
    ∷ []) [] (cyclic (codes "t") [] (Null ∷ [])) ≡ true
as_earlier_parameter = refl

as_earlier_local : naming (passive (codes "p") (operation (head (codes "f") []) (datum (codes "t") ∷ []) (Null ∷ []))
    ∷ []) [] (cyclic (codes "t") [] (Null ∷ [])) ≡ true
as_earlier_local = refl

as_earlier_loop : naming (cyclic (codes "z") [] (If (When (Variable (codes "x")) (block (Null
    ∷ [])) (When (Variable (codes "x")) (block (For (codes "t") 1 2 (block (Null ∷ [])) ∷ [])) Nothing)) ∷ [])
    ∷ []) [] (cyclic (codes "t") [] (Null ∷ [])) ≡ true
as_earlier_loop = refl

datum_as_own_unit : naming [] [] (cyclic (codes "t") (datum (codes "t") ∷ []) (Null ∷ [])) ≡ true
datum_as_own_unit = refl

datum_as_earlier_unit : naming (passive (codes "p") (plain (codes "f")) ∷ []) [] (cyclic (codes "t") (datum (codes "p") ∷ []) (Null ∷ [])) ≡ true
datum_as_earlier_unit = refl

-- a later unit takes the blame
datum_as_later_unit : naming [] (passive (codes "x") (plain (codes "f")) ∷ []) (cyclic (codes "t") (datum (codes "x") ∷ []) (Null ∷ [])) ≡ false
datum_as_later_unit = refl

-- inside a unit: two operations or data, a parameter or a local as one of them, a loop as any of them or as a loop round it
two_operations : breaks_naming (of_units (unit (codes "p") (Passive (plain (codes "f") ∷ plain (codes "f") ∷ []))
    ∷ [])) 0 (unit (codes "p") (Passive (plain (codes "f") ∷ plain (codes "f") ∷ []))) ≡ true
two_operations = refl

datum_as_operation : naming [] [] (shared (codes "q") (datum (codes "f") ∷ []) (plain (codes "f"))) ≡ true
datum_as_operation = refl

local_as_parameter : naming [] [] (passive (codes "p") (operation (head (codes "f") (param (codes "v") In ∷ [])) (datum (codes "v") ∷ []) (Null
    ∷ []))) ≡ true
local_as_parameter = refl

parameter_as_datum : naming [] [] (shared (codes "q") (datum (codes "v") ∷ []) (operation (head (codes "f") (param (codes "v") In ∷ [])) [] (Null
    ∷ []))) ≡ true
parameter_as_datum = refl

loop_as_local : naming [] [] (passive (codes "p") (operation (head (codes "f") []) (datum (codes "i")
    ∷ []) (For (codes "i") 1 2 (block (Null ∷ [])) ∷ []))) ≡ true
loop_as_local = refl

loop_in_else : naming [] [] (cyclic (codes "t") (datum (codes "i") ∷ []) (If (When (Variable (codes "i")) (block (Null
    ∷ [])) (Else (block (For (codes "i") 1 2 (block (Null ∷ [])) ∷ [])))) ∷ [])) ≡ true
loop_in_else = refl

loop_in_loop : naming [] [] (cyclic (codes "t") [] (For (codes "i") 1 2 (block (For (codes "i") 1 2 (block (Null ∷ [])) ∷ [])) ∷ [])) ≡ true
loop_in_loop = refl

loops_beside : naming [] [] (cyclic (codes "t") [] (For (codes "i") 1 2 (block (Null ∷ [])) ∷ For (codes "i") 1 2 (block (Null ∷ [])) ∷ [])) ≡ false
loops_beside = refl

-- a call of what isn't offered: by its unit, or by its operation; a cyclic task offers none
abbrev calling : Name → Name → Bool
calling o f = naming (passive (codes "p") (plain (codes "f")) ∷ shared (codes "q") [] (plain (codes "g"))
    ∷ sporadic (codes "s") [] false (Null ∷ []) ∷ cyclic (codes "z") [] (Null ∷ []) ∷ []) [] (cyclic (codes "t") [] (call o f ∷ []))

offered : map (λ (n : OpName). calling n.object n.op) (record { object = codes "p"; op = codes "f" }
    ∷ record { object = codes "q"; op = codes "g" } ∷ record { object = codes "s"; op = codes "start" } ∷ []) ≡ false ∷ false ∷ false ∷ []
offered = refl

not_offered : map (λ (n : OpName). calling n.object n.op) (record { object = codes "p"; op = codes "g" }
    ∷ record { object = codes "z"; op = codes "f" } ∷ record { object = codes "z"; op = codes "start" } ∷ []) ≡ true ∷ true ∷ true ∷ []
not_offered = refl

-- what is known in a body: data, parameters and locals can be read, those that are handed in not assigned
abbrev body_of : List Statement → Unit
body_of ss = shared (codes "q") (datum (codes "x") ∷ []) (operation (head (codes "f") (param (codes "v") In ∷ param (codes "w") Out
    ∷ [])) (datum (codes "y") ∷ []) ss)

abbrev set : Name → Statement
set n = Assign n (Number 1)

assignable : map (λ n. unit_fault (of_units (body_of (set n ∷ []) ∷ [])) (body_of (set n ∷ []))) (codes "x" ∷ codes "w" ∷ codes "y" ∷ codes "v"
    ∷ codes "z" ∷ []) ≡ None ∷ None ∷ None ∷ Some Assigned ∷ Some Unknown ∷ []
assignable = refl

readable : map (λ n. unit_fault (of_units (body_of (Put (Variable n) ∷ []) ∷ [])) (body_of (Put (Variable n) ∷ []))) (codes "x" ∷ codes "w"
    ∷ codes "y" ∷ codes "v" ∷ codes "z" ∷ []) ≡ None ∷ None ∷ None ∷ None ∷ Some Unknown ∷ []
readable = refl

outside_loop : map (λ ss. unit_fault (of_units []) (cyclic (codes "t") [] ss))
    ((For (codes "i") 1 2 (block (ExitWhen (Binary bin.Eq (Variable (codes "i")) (Number 1)) ∷ [])) ∷ [])
    ∷ (ExitWhen (Binary bin.Eq (Variable (codes "i")) (Number 1)) ∷ []) ∷ []) ≡ None ∷ Some Unknown ∷ []
outside_loop = refl

exit_without_loop : unit_fault (of_units []) (cyclic (codes "t") (datum (codes "x")
    ∷ []) (ExitWhen (Binary bin.Eq (Variable (codes "x")) (Number 1)) ∷ [])) ≡ Some Exit
exit_without_loop = refl

task_data : map (λ vars. unit_fault (of_units []) (cyclic (codes "t") vars (set (codes "x") ∷ []))) ((datum (codes "x") ∷ []) ∷ [] ∷ []) ≡ None
    ∷ Some Unknown ∷ []
task_data = refl

-- the first of two faults, by order of operations
first_body : unit_fault (of_units []) (unit (codes "p") (Passive (plain (codes "f")
    ∷ operation (head (codes "g") (param (codes "v") In ∷ [])) [] (set (codes "v") ∷ [])
    ∷ operation (head (codes "h") []) [] (set (codes "z") ∷ []) ∷ []))) ≡ Some Assigned
first_body = refl

-- ranges of the numbers of each form
abbrev cyclic_numbers : ℕ → ℕ → ℕ → Bool
cyclic_numbers priority offset period = breaks_ranges (unit (codes "t") (Cyclic priority offset period [] (block (Null ∷ []))))

periods : map (cyclic_numbers 1 0) (0 ∷ 1 ∷ 1000000000 ∷ 1000000001 ∷ []) ≡ true ∷ false ∷ false ∷ true ∷ []
periods = refl

offsets : map (λ o. cyclic_numbers 1 o 10) (0 ∷ 1000000000 ∷ 1000000001 ∷ []) ≡ false ∷ false ∷ true ∷ []
offsets = refl

priorities : map (λ p. cyclic_numbers p 0 10) (0 ∷ 1 ∷ 60 ∷ 61 ∷ []) ≡ true ∷ false ∷ false ∷ true ∷ []
priorities = refl

abbrev sporadic_numbers : ℕ → ℕ → Bool → Bool
sporadic_numbers separation jitter external =
    breaks_ranges (unit (codes "s") (Sporadic 1 1 (head (codes "start") []) separation jitter external [] (block (Null ∷ []))))

separations : map (λ n. sporadic_numbers n 0 true) (0 ∷ 1 ∷ 1000000000 ∷ 1000000001 ∷ []) ≡ true ∷ false ∷ false ∷ true ∷ []
separations = refl

jitters_from_outside : map (λ j. sporadic_numbers 10 j true) (0 ∷ 9 ∷ 10 ∷ []) ≡ false ∷ false ∷ true ∷ []
jitters_from_outside = refl

jitters_from_inside : map (λ j. sporadic_numbers 10 j false) (0 ∷ 1 ∷ 10 ∷ []) ≡ false ∷ true ∷ true ∷ []
jitters_from_inside = refl

eight_parameters : map (λ n. breaks_ranges (passive (codes "p") (operation (head (codes "f") (replicate n (param (codes "v") In))) [] (Null
    ∷ [])))) (8 ∷ 9 ∷ []) ≡ false ∷ true ∷ []
eight_parameters = refl

eight_of_shared : map (λ n. breaks_ranges (shared (codes "q") [] (operation (head (codes "f") (replicate n (param (codes "v") In))) [] (Null
    ∷ [])))) (8 ∷ 9 ∷ []) ≡ false ∷ true ∷ []
eight_of_shared = refl

works : map (λ n. breaks_ranges (cyclic (codes "t") [] (If (When (Variable (codes "x")) (block (Null
    ∷ [])) (Else (block (For (codes "i") 1 2 (block (Work n ∷ [])) ∷ [])))) ∷ []))) (0 ∷ 1 ∷ 1000000000 ∷ 1000000001 ∷ []) ≡ true ∷ false ∷ false
    ∷ true ∷ []
works = refl

-- what is wrong with the whole: a cost, over 30 tasks, over 500 units
abbrev with_costs : Costs → Bool
with_costs c = whole_breaks (record (of_units []) { costs = c })

all_costs : map with_costs (row_costs ∷ record { assign = 1000; test = 1000; turn = 1000; call = 1000; nothing = 1000; put = 1000; finish = 1000 }
    ∷ record row_costs { finish = 1001 } ∷ []) ≡ false ∷ false ∷ true ∷ []
all_costs = refl

no_cost : map with_costs (record row_costs { assign = 0 } ∷ record row_costs { test = 0 } ∷ record row_costs { turn = 0 }
    ∷ record row_costs { call = 0 } ∷ record row_costs { nothing = 0 } ∷ record row_costs { put = 0 } ∷ record row_costs { finish = 0 } ∷ [])
    ≡ true ∷ true ∷ true ∷ true ∷ true ∷ true ∷ true ∷ []
no_cost = refl

tasks : map (λ n. whole_breaks (of_units (replicate 1 (passive (codes "p") (plain (codes "f")))
    ++ (replicate 1 (sporadic (codes "s") [] true (Null ∷ [])) ++ replicate n (cyclic (codes "t") [] (Null ∷ [])))))) (29 ∷ 30 ∷ []) ≡ false ∷ true
    ∷ []
tasks = refl

units : map (λ n. whole_breaks (of_units (replicate n (unit (codes "p") (Passive []))))) (500 ∷ 501 ∷ []) ≡ false ∷ true ∷ []
units = refl

-- which units have a task
with_task : map (λ u. is_task u.form) (passive (codes "p") (plain (codes "f")) ∷ shared (codes "q") [] (plain (codes "f"))
    ∷ cyclic (codes "t") [] [] ∷ sporadic (codes "s") [] true [] ∷ []) ≡ false ∷ false ∷ true ∷ true ∷ []
with_task = refl

-- passive units call passive operations alone, others what they like
abbrev callers : List Unit
callers = passive (codes "p") (operation (head (codes "f") []) [] (call (codes "q") (codes "g") ∷ []))
    ∷ passive (codes "o") (operation (head (codes "f") []) [] (call (codes "p") (codes "f") ∷ []))
    ∷ passive (codes "n") (operation (head (codes "f") []) [] (call (codes "s") (codes "start") ∷ []))
    ∷ shared (codes "q") [] (operation (head (codes "g") []) [] (call (codes "q") (codes "g") ∷ []))
    ∷ cyclic (codes "t") [] (call (codes "q") (codes "g") ∷ []) ∷ sporadic (codes "s") [] true (call (codes "q") (codes "g") ∷ []) ∷ []

confined : map (breaks_uses (of_units callers)) callers ≡ true ∷ false ∷ true ∷ false ∷ false ∷ false ∷ []
confined = refl

-- a request comes from outside exactly where no task can make it
abbrev start_s : Statement
start_s = call (codes "s") (codes "start")

abbrev told_external : List Unit → Bool → Bool
told_external before external = breaks_external (of_units (before ++ sporadic (codes "s") [] external (Null ∷ [])
    ∷ [])) (codes "s") (sporadic (codes "s") [] external (Null ∷ [])).form

asked_by_task : map (told_external (cyclic (codes "t") [] (start_s ∷ []) ∷ [])) (true ∷ false ∷ []) ≡ true ∷ false ∷ []
asked_by_task = refl

asked_by_sporadic : map (told_external (sporadic (codes "r") [] true (start_s ∷ []) ∷ [])) (true ∷ false ∷ []) ≡ true ∷ false ∷ []
asked_by_sporadic = refl

asked_by_none : map (told_external (shared (codes "q") [] (operation (head (codes "g") []) [] (start_s ∷ [])) ∷ [])) (true ∷ false ∷ []) ≡ false
    ∷ true ∷ []
asked_by_none = refl

only_requests_come_from_outside : map (λ u. breaks_external (of_units callers) u.name u.form) (passive (codes "p") (plain (codes "f"))
    ∷ shared (codes "q") [] (plain (codes "f")) ∷ cyclic (codes "t") [] [] ∷ []) ≡ false ∷ false ∷ false ∷ []
only_requests_come_from_outside = refl

-- the order of rules, and of sites under one rule
in_order : map number_of (Naming ∷ Uses ∷ Rings ∷ Bodies ∷ Ranges ∷ Externals ∷ []) ≡ 1 ∷ 2 ∷ 3 ∷ 4 ∷ 5 ∷ 6 ∷ []
in_order = refl

whole_first : IsBefore Whole (At 0)
whole_first = tt

whole_not_last : IsBefore (At 0) Whole → ⊥
whole_not_last h = h

whole_once : IsBefore Whole Whole → ⊥
whole_once h = h

ranges_alone : WholeBreaks (record (of_units []) { costs = record row_costs { put = 0 } }) Ranges
ranges_alone = refl

no_other_rule : WholeBreaks (record (of_units []) { costs = record row_costs { put = 0 } }) Naming → ⊥
no_other_rule h = h
