-- The operations that calls lead to, by their names, and which of them lead to which.
-- Units of one name are told by the first of them, and so are operations of one name.
use Rattle.std.specs.Prelude.{◌≡◌, ℕ, ◌+◌, Bool, true, false, List, [], ◌∷◌, length, if◌then◌else◌, Option, Some, None}
use Rattle.std.specs.List.{list_any}
use Rattle.seq_tree.specs.Names.{Name}
use Rattle.seq_tree.specs.Operations.{Operation}
use Rattle.seq_tree.specs.Calls.{block_calls, same_op}
use Rattle.seq_tree.specs.declared.tree.Datum.{Datum}
use Rattle.seq_tree.specs.declared.tree.OpName.{OpName}
use Rattle.machine.specs.Systems.{System, PassiveUnit, ProtectedUnit, CallTarget, Plain, Protected, Request, Unknown, callee}

-- an operation by its names
abbrev pub op_name : Name → Name → OpName
op_name object op = record { object = object; op = op }

-- systems in which each call leads to the same
abbrev pub CallsAlike : System → System → Type 0
CallsAlike y z = (unit op : Name) → callee y unit op ≡ callee z unit op

-- the operation whose body a call begins, where it begins one
abbrev pub op_by : CallTarget → Option Operation
op_by (Plain o) = Some o
op_by (Protected object op g o) = Some o
op_by (Request task) = None
op_by Unknown = None

-- the data that an object lends to a call
abbrev pub data_by : CallTarget → List Datum
data_by (Plain o) = []
data_by (Protected object op g o) = g.vars
data_by (Request task) = []
data_by Unknown = []

-- whether a call leads to something
abbrev pub is_known : CallTarget → Bool
is_known (Plain o) = true
is_known (Protected object op g o) = true
is_known (Request task) = true
is_known Unknown = false

-- what a call of this name leads to
abbrev pub target_in : System → OpName → CallTarget
target_in y c = callee y c.object c.op

-- the operation of this name, where there is one with a body
abbrev pub op_in : System → OpName → Option Operation
op_in y c = op_by (target_in y c)

-- the calls in its body
abbrev pub calls_by : Option Operation → List OpName
calls_by None = []
calls_by (Some o) = block_calls o.block

-- whether an operation is among these
abbrev pub is_in : List OpName → OpName → Bool
is_in chain c = list_any (same_op c) chain

-- an operation that leads to another, by the calls on a path
abbrev pub Leads : System → OpName → List OpName → OpName → Type 0
Leads y from [] to = is_in (calls_by (op_in y from)) to ≡ true
Leads y from (via ∷ path) to = (is_in (calls_by (op_in y from)) via ≡ true) × Leads y via path to

-- an operation that is there, and neither is one of those whose calls are under way nor leads to one
abbrev pub IsClear : System → List OpName → OpName → Type 0
IsClear y chain c =
    (is_known (target_in y c) ≡ true) × (is_in chain c ≡ false) × ((path : List OpName) (to : OpName) → Leads y c path to → is_in chain to ≡ false)

-- the room for a call: for each variable of the body, for so many data of an object, and for what is nested in it
abbrev pub call_room : ℕ → Operation → ℕ
call_room more o = length o.sig.params + length o.locals + more + 194

-- the room for calls of the operations of a unit with so many data that are not under way
abbrev pub ops_room : List OpName → Name → ℕ → List Operation → ℕ
ops_room chain object more [] = 0
ops_room chain object more (o ∷ os) = (if is_in chain (op_name object o.sig.name) then 0 else call_room more o) + ops_room chain object more os

-- the same of all units of a kind, by their names, the numbers of their data and their operations
abbrev pub units_room : {A : Type 0} → (A → Name) → (A → ℕ) → (A → List Operation) → List OpName → List A → ℕ
units_room name more ops chain [] = 0
units_room name more ops chain (u ∷ us) = ops_room chain (name u) (more u) (ops u) + units_room name more ops chain us

-- the same of all passive units, and of all protected objects
abbrev pub libraries_room : List OpName → List PassiveUnit → ℕ
libraries_room chain ls = units_room (λ l. l.name) (λ l. 0) (λ l. l.ops) chain ls

abbrev pub objects_room : List OpName → List ProtectedUnit → ℕ
objects_room chain gs = units_room (λ g. g.name) (λ g. length g.vars) (λ g. g.ops) chain gs

-- the room for calls of all operations that are not under way: each is under way at most once, since no operation leads to itself
abbrev pub calls_room : List OpName → System → ℕ
calls_room chain y = libraries_room chain y.libraries + objects_room chain y.objects
