-- The sample designs: a board, a step, and threads in groups of five, cyclic and sporadic by turns.
-- The designs are this project's own.
use Rattle.std.specs.Prelude.{ℕ, zero, suc, ◌+◌, ◌-◌, ◌*◌, ◌/◌, ◌%◌, ◌==◌, Bool, List, [], ◌∷◌, map, min, nat_lt, Option, Some, None, codes}
use Rattle.std.specs.Prelude.{if◌then◌else◌}
use Rattle.seq_tree.specs.Names.{Name}
use Rattle.seq_tree.specs.Expressions.{Number, Variable, Binary}
use Rattle.seq_tree.specs.Statements.{Statements, Assign, Call, Work, End, Then}
use Rattle.seq_tree.specs.declared.tree.BinOp.TheVariants.{Add, Mul}
use Rattle.seq_tree.specs.declared.tree.Costs.{Costs}
use Rattle.seq_tree.specs.declared.tree.Datum.{Datum}
use Rattle.seq_tree.specs.declared.tree.Mode.{Mode}
use Rattle.seq_tree.specs.declared.tree.Mode.TheVariants.{In, Out}
use Rattle.seq_tree.specs.declared.tree.OpName.{OpName}
use Rattle.seq_tree.specs.declared.tree.Param.{Param}
use Rattle.ods_tree.specs.Designs.{Provided, Body, Object, Tree, Node, Empty, Design}
use Rattle.ods_tree.specs.Trees.{trees_of}
use Rattle.ods_tree.specs.declared.design.Attr.{Attr}
use Rattle.ods_tree.specs.declared.design.AttrKey.{AttrKey}
use Rattle.ods_tree.specs.declared.design.AttrKey.TheVariants.{Period, Separation, Deadline, ThreadBudget, ArrivalJitter}
use Rattle.ods_tree.specs.declared.design.Constraint.{Constraint}
use Rattle.ods_tree.specs.declared.design.Constraint.TheVariants.{Aser, Paer}
use Rattle.ods_tree.specs.declared.design.Kind.{Kind}
use Rattle.ods_tree.specs.declared.design.Kind.TheVariants.{Passive, Active, Protected, Cyclic, Sporadic}

-- so many numbers from one on
abbrev pub from_on : ℕ → ℕ → List ℕ
from_on first zero = []
from_on first (suc count) = first ∷ from_on (suc first) count

-- the numbers from one on that are below another
unfoldable pub from_to : ℕ → ℕ → List ℕ
from_to first end = from_on first (end - first)

-- a number below 100 in decimal
abbrev pub two_digits : ℕ → List ℕ
two_digits k = if nat_lt k 10 then (48 + k) ∷ [] else ((48 + k / 10) ∷ (48 + k % 10) ∷ [])

-- the name of a thread
abbrev pub thread_name : ℕ → Name
thread_name k = 116 ∷ two_digits k

-- the name of a group
abbrev pub group_name : ℕ → Name
group_name g = 103 ∷ two_digits g

-- a parameter
abbrev pub param : Name → Mode → Param
param name mode = record { name = name; mode = mode }

-- a variable and the value that it is written with
abbrev pub datum : Name → ℕ → Datum
datum name value = record { name = name; value = value }

-- an operation of an object, by their names
abbrev pub op_name : Name → Name → OpName
op_name object op = record { object = object; op = op }

-- an operation that an object provides
abbrev pub operation : Name → List Param → Option Constraint → Provided
operation name params constraint = record { sig = record { name = name; params = params }; constraint = constraint }

-- the body of an operation, without locals
abbrev pub body : Name → Statements → Body
body name block = record { name = name; locals = []; block = block }

-- an attribute in ticks
abbrev pub attr : AttrKey → ℕ → Attr
attr key value = record { key = key; value = value; unit = None }

-- a protected object that adds up what it is told
abbrev pub board : Tree
board = Node (record {
  name = codes "board";
  kind = Protected;
  attrs = [];
  provides = operation (codes "note") (param (codes "v") In ∷ []) (Some Paer) ∷ [];
  needs = [];
  vars = datum (codes "total") 0 ∷ [];
  bodies = body (codes "note") (Then (Assign (codes "total") (Binary Add (Variable (codes "total")) (Variable (codes "v")))) End) ∷ [];
  thread = None;
  links = [];
}) Empty

-- a passive object that takes one step
abbrev pub step : Tree
step = Node (record {
  name = codes "step";
  kind = Passive;
  attrs = [];
  provides = operation (codes "next") (param (codes "a") In ∷ param (codes "r") Out ∷ []) None ∷ [];
  needs = [];
  vars = [];
  bodies = body (codes "next") (Then (Assign (codes "r") (Binary Add (Binary Mul (Variable (codes "a")) (Number 3)) (Number 1))) End) ∷ [];
  thread = None;
  links = [];
}) Empty

-- what each thread and each group requires
abbrev pub needed : List OpName
needed = op_name (codes "step") (codes "next") ∷ op_name (codes "board") (codes "note") ∷ []

-- what each thread does
abbrev pub block : Statements
block =
    Then (Work 5)
    (Then (Call (codes "step") (codes "next") (Variable (codes "x") ∷ Variable (codes "x") ∷ []))
    (Then (Call (codes "board") (codes "note") (Variable (codes "x") ∷ [])) End))

-- whether a thread is sporadic: each second one is
abbrev pub is_sporadic : ℕ → Bool
is_sporadic k = k % 2 == 0

-- the kind of a thread
abbrev pub thread_kind : ℕ → Kind
thread_kind k = if is_sporadic k then Sporadic else Cyclic

-- the period or separation of a thread of so many, which is its deadline too
abbrev pub thread_time : ℕ → ℕ → ℕ
thread_time n k = 20 * n + 10 * k

-- the attributes of a cyclic thread
abbrev pub cyclic_attrs : ℕ → List Attr
cyclic_attrs time = attr Period time ∷ attr Deadline time ∷ attr ThreadBudget 12 ∷ []

-- the attributes of a sporadic thread
abbrev pub sporadic_attrs : ℕ → ℕ → List Attr
sporadic_attrs time jitter = attr Separation time ∷ attr Deadline time ∷ attr ThreadBudget 12 ∷ attr ArrivalJitter jitter ∷ []

-- the attributes of a thread of so many
abbrev pub thread_attrs : ℕ → ℕ → List Attr
thread_attrs n k = if is_sporadic k then sporadic_attrs (thread_time n k) k else cyclic_attrs (thread_time n k)

-- the request of a sporadic thread
abbrev pub go : Provided
go = operation (codes "go") (param (codes "v") In ∷ []) (Some Aser)

-- what a thread provides
abbrev pub thread_provides : ℕ → List Provided
thread_provides k = if is_sporadic k then go ∷ [] else []

-- a thread of so many, by itself
abbrev pub thread_object : ℕ → ℕ → Object
thread_object n k = record {
  name = thread_name k;
  kind = thread_kind k;
  attrs = thread_attrs n k;
  provides = thread_provides k;
  needs = needed;
  vars = datum (codes "x") k ∷ [];
  bodies = [];
  thread = Some block;
  links = [];
}

-- a thread of so many
abbrev pub thread : ℕ → ℕ → Tree
thread n k = Node (thread_object n k) Empty

-- an active object that has nothing of its own but what it requires and the objects inside it
abbrev pub active : Name → List OpName → List Tree → Tree
active name needs children = Node (record {
  name = name;
  kind = Active;
  attrs = [];
  provides = [];
  needs = needs;
  vars = [];
  bodies = [];
  thread = None;
  links = [];
}) (trees_of children)

-- the threads of a group, of so many in all
abbrev pub members : ℕ → ℕ → List ℕ
members n g = from_to (5 * (g - 1) + 1) (min (5 * g + 1) (n + 1))

-- a group, by its number from 1 on
abbrev pub group : ℕ → ℕ → Tree
group n g = active (group_name g) needed (map (thread n) (members n g))

-- the groups of so many threads
abbrev pub groups : ℕ → List ℕ
groups n = from_to 1 ((n + 4) / 5 + 1)

-- the object that holds all
abbrev pub plant : ℕ → Tree
plant n = active (codes "plant") [] (board ∷ step ∷ map (group n) (groups n))

-- what statements take
abbrev pub costs : Costs
costs = record { assign = 1; test = 1; turn = 1; call = 2; nothing = 1; put = 1; finish = 1 }

-- the design of so many threads
abbrev pub sample_design : ℕ → Design
sample_design n = record { name = codes "sample"; version = None; costs = costs; root = plant n }
