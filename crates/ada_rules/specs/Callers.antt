-- The operations of a program with what their bodies call, and what these calls lead to.
-- An operation is told by its object and its own name, and has the place of the first of its name. Places count from 0.
use Rattle.std.specs.Prelude.{◌≡◌, ◌⊎◌, ℕ, Bool, true, false, ◌&&◌, List, map, flat_map, get_or, Option, Some, None}
use Rattle.std.specs.List.{list_any}
use Rattle.seq_tree.specs.Names.{Name}
use Rattle.seq_tree.specs.Operations.{Operation}
use Rattle.seq_tree.specs.Calls.{block_calls, same_op}
use Rattle.seq_tree.specs.Rings.{LeadsTo}
use Rattle.seq_tree.specs.declared.tree.OpName.{OpName}
use Rattle.seq_cost.specs.Different.{call_of}
use Rattle.call_graph.specs.Edges.{edges_from}
use Rattle.ada_tree.specs.Programs.{Form, Unit, Program}
use Rattle.ada_tree.specs.Uses.{passive_ops, shared_ops}
use Rattle.ada_rules.specs.declared.callers.Sort as code
use Rattle.ada_rules.specs.declared.callers.Sort.TheVariants as sort
use Rattle.ada_rules.specs.declared.callers.OpCalls.{OpCalls}

-- an operation, and what its body calls
pub record Caller : Type 0 where
  pub name : OpName
  pub calls : List OpName

-- the one that is meant
abbrev pub caller_of : OpCalls → Caller
caller_of c = record { name = call_of c.name; calls = map call_of c.calls.items }

-- an operation of an object
abbrev pub op_caller : Name → Operation → Caller
op_caller object o = record { name = record { object = object; op = o.sig.name }; calls = block_calls o.block }

-- the operations of a sort of a unit
abbrev pub ops_in : code.Sort → Form → List Operation
ops_in sort.Passive form = passive_ops form
ops_in sort.Shared form = shared_ops form

abbrev pub unit_callers : code.Sort → Unit → List Caller
unit_callers which u = map (op_caller u.name) (ops_in which u.form)

-- those of a program
abbrev pub callers : code.Sort → Program → List Caller
callers which p = flat_map (unit_callers which) p.units

-- their names
abbrev pub names : List Caller → List OpName
names cs = map (λ c. c.name) cs

-- the edges of their calls, by places
abbrev pub caller_edges : (OpName → Option ℕ) → List Caller → List (ℕ × ℕ)
caller_edges place cs = flat_map (λ c. edges_from place (place c.name) c.calls) cs

-- whether an operation has one name and calls the other
abbrev pub makes : OpName → OpName → Caller → Bool
makes from to c = same_op c.name from && list_any (same_op to) c.calls

-- an operation of these that calls another
abbrev pub Makes : List Caller → OpName → OpName → Type 0
Makes cs from to = list_any (makes from to) cs ≡ true

-- an operation that is one of those that are called at first, or that such a one leads to
abbrev pub IsFound : (OpName → OpName → Type 0) → List OpName → OpName → Type 0
IsFound Step starts n =
    (m : OpName) × (list_any (same_op m) starts ≡ true) × ((same_op n m ≡ true) ⊎ ((path : List OpName) × LeadsTo Step m path n))

-- whether a place is marked
abbrev pub is_marked : List Bool → Option ℕ → Bool
is_marked marks None = false
is_marked marks (Some place) = get_or marks place false

-- whether an operation is called by one of these at a place that is marked
abbrev pub is_led_to : (OpName → Option ℕ) → List Bool → List Caller → OpName → Bool
is_led_to place marks cs n = list_any (λ c. is_marked marks (place c.name) && list_any (λ k. same_op k n) c.calls) cs
