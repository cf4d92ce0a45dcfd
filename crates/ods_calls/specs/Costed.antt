-- What the costs of a design are worked out from: the operations that may be called, by the bodies of its graph of calls.
-- Those of passive objects stand first, then those of protected objects, then the requests of threads.
use Rattle.std.specs.Prelude.{◌++◌, flat_map, ◌≡◌, ℕ, ◌&&◌, List, [], Option, Some, None, option_map}
use Rattle.std.specs.Prelude.{option_and_then, option_to_list, min, map, filter, filter_map, if◌then◌else◌}
use Rattle.seq_tree.specs.Statements.{Statements}
use Rattle.seq_tree.specs.Dearest.{cost}
use Rattle.seq_tree.specs.declared.tree.OpName.{OpName}
use Rattle.seq_tree.specs.Operations.{Signature}
use Rattle.call_graph.specs.Entries.{Work, Entry}
use Rattle.call_graph.specs.Entries as works
use Rattle.call_graph.specs.Places.{known_by}
use Rattle.call_graph.specs.Prices.{cap}
use Rattle.ods_tree.specs.Designs.{Body, Object, Design}
use Rattle.ods_tree.specs.Walk.{Standing, is_terminal, objects}
use Rattle.ods_tree.specs.declared.design.Kind.{Kind}
use Rattle.ods_tree.specs.declared.design.Kind.TheVariants as kind
use Rattle.design_rules.specs.Lookups.{has_thread, is_sporadic}
use Rattle.design_rules.specs.Broken.{Broken}
use Rattle.design_rules.specs.Budgets.{body_cost, dear_body, dear_thread, over_budget}
use Rattle.ods_tree.specs.Links.{resolve, resolved}
use Rattle.ods_tree.specs.Flattening.{request_op}
use Rattle.ods_index.specs.Calling.{Calls, design_calls}

-- what an operation runs, its calls by what they mean
abbrev pub meant_work : Design → Work → Work
meant_work x (works.Plain b) = works.Plain (resolved x b)
meant_work x (works.Protected b) = works.Protected (resolved x b)
meant_work x works.Asked = works.Asked

-- the place of what a call means
abbrev pub meant_place : Design → (OpName → Option ℕ) → OpName → Option ℕ
meant_place x place n = place (resolve x n)

-- numbers by places are what calls count of the blocks of a design
abbrev pub ArePrices : Design → (OpName → Option ℕ) → List ℕ → Type 0
ArePrices x place prices = (b : Statements) → min cap (cost x.costs (known_by (meant_place x place) prices) b) ≡ min cap (body_cost x b)

-- what a call of an operation runs by its body, where its object is of the first kind and that is passive or protected
abbrev pub body_work : Kind → Kind → Statements → Option Work
body_work kind.Passive kind.Passive b = Some (works.Plain b)
body_work kind.Protected kind.Protected b = Some (works.Protected b)
body_work _ _ b = None

-- such an operation
abbrev pub body_entry : Kind → Calls → Option Entry
body_entry own c = option_map (λ w. record { name = c.name; work = w }) (body_work own c.kind c.block)

-- the request of an object with a thread, where it provides an operation
abbrev pub request_in : Object → List Entry
request_in o =
    option_to_list (option_and_then
    (λ (sig : Signature). option_map (λ b. record { name = record { object = o.name; op = sig.name }; work = works.Asked }) o.thread)
    (request_op o.provides))

-- that of a sporadic object without children
abbrev pub request_served : Standing → List Entry
request_served s = if is_terminal s && is_sporadic s.own.kind then request_in s.own else []

-- the operations of a design that may be called
abbrev pub services_in : Design → List Entry
services_in x =
    filter_map (body_entry kind.Passive) (design_calls x)
    ++ (filter_map (body_entry kind.Protected) (design_calls x) ++ flat_map request_served (objects x))

-- the threads over their budgets among those of an object
abbrev pub over_budgets : Design → Standing → List Broken
over_budgets x s = if is_terminal s && has_thread s.own.kind then filter_map (over_budget x s.own) (option_to_list s.own.thread) else []

-- those of these objects that run by a thread of their own
abbrev pub threads_among : List Standing → List Object
threads_among ss = map (λ s. s.own) (filter (λ s. has_thread s.own.kind) (filter is_terminal ss))

-- the body of an operation where it is too dear
abbrev pub dear_bodies : Design → Object → Body → List Broken
dear_bodies x o b = option_to_list (dear_body x o b)

-- what is too dear of an object: the bodies of its operations, then its thread
abbrev pub dear_parts : Design → Standing → List Broken
dear_parts x s =
    if is_terminal s then flat_map (dear_bodies x s.own) s.own.bodies ++ option_to_list (option_and_then (dear_thread x s.own) s.own.thread) else []
