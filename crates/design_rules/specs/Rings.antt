-- Rings: operations, protected objects and threads that call or start each other round, links followed first.
-- Without rings every cost is finite, every ceiling is reached, and every jitter is inherited from somewhere.
use Rattle.std.specs.Prelude.{◌≡◌, ℕ, zero, suc, Bool, true, ◌&&◌, List, [], ◌∷◌, length, map, filter, flat_map, option_to_list}
use Rattle.std.specs.List.{list_any}
use Rattle.seq_tree.specs.Calls.{same_op}
use Rattle.seq_tree.specs.Names.{Name, same_name}
use Rattle.seq_tree.specs.Rings.{IsOnRing}
use Rattle.seq_tree.specs.Statements.{Statements}
use Rattle.seq_tree.specs.declared.tree.OpName.{OpName}
use Rattle.ods_tree.specs.Designs.{Object, Design}
use Rattle.ods_tree.specs.Walk.{terminals}
use Rattle.ods_tree.specs.Links.{resolve}
use Rattle.ods_tree.specs.Flattening.{is_protected}
use Rattle.design_rules.specs.Lookups.{required_calls, has_thread, is_sporadic}

-- the operations of terminal objects, in flattened order and order of providing
abbrev pub terminal_ops : Design → List OpName
terminal_ops x = flat_map (λ s. map (λ p. record { object = s.own.name; op = p.sig.name }) s.own.provides) (terminals x)

-- what a block of an object calls, as it is required, links followed
abbrev pub meant_calls : Design → Object → Statements → List OpName
meant_calls x o b = map (resolve x) (required_calls o b)

-- what the body of an operation of an object calls
abbrev pub operation_calls : Design → Object → Name → List OpName
operation_calls x o op = flat_map (λ b. meant_calls x o b.block) (filter (λ b. same_name b.name op) o.bodies)

-- what a terminal operation calls
abbrev pub calls_from : Design → OpName → List OpName
calls_from x name = flat_map (λ s. operation_calls x s.own name.op) (filter (λ s. same_name s.own.name name.object) (terminals x))

-- an operation that calls another
abbrev pub CallsOp : Design → OpName → OpName → Type 0
CallsOp x from to = list_any (same_op to) (calls_from x from) ≡ true

-- an operation on a ring of calls
abbrev pub IsOnCallRing : Design → OpName → Type 0
IsOnCallRing x name = IsOnRing (CallsOp x) name

-- the terminal protected objects
abbrev pub protected_objects : Design → List Object
protected_objects x = map (λ s. s.own) (filter (λ s. is_protected s.own.kind) (terminals x))

-- whether the body of an operation of one object calls an operation of another
abbrev pub calls_object : Design → Object → Object → Bool
calls_object x from to = list_any (λ c. same_name c.object to.name) (flat_map (λ b. meant_calls x from b.block) from.bodies)

-- a protected object, by name, that calls another
abbrev pub CallsObject : Design → Name → Name → Type 0
CallsObject x from to =
    list_any (λ f. same_name f.name from && list_any (λ t. same_name t.name to && calls_object x f t) (protected_objects x))
    (protected_objects x) ≡ true

-- a protected object on a ring of calls
abbrev pub IsOnObjectRing : Design → Name → Type 0
IsOnObjectRing x name = IsOnRing (CallsObject x) name

-- what the body of a protected operation calls; other operations are passed over
abbrev pub inner_calls : Design → OpName → List OpName
inner_calls x name = flat_map (λ o. operation_calls x o name.op) (filter (λ o. same_name o.name name.object) (protected_objects x))

-- a call and what it leads to, where protected operations call each other at most so deep
abbrev pub calls_within : ℕ → Design → OpName → List OpName
calls_within zero x name = name ∷ []
calls_within (suc depth) x name = name ∷ flat_map (calls_within depth x) (inner_calls x name)

-- the terminal objects with a thread
abbrev pub thread_objects : Design → List Object
thread_objects x = map (λ s. s.own) (filter (λ s. has_thread s.own.kind) (terminals x))

-- what the thread of an object calls, itself or through protected operations; without rings no call is deeper than there are operations
abbrev pub thread_calls : Design → Object → List OpName
thread_calls x o = flat_map (calls_within (length (terminal_ops x)) x) (flat_map (meant_calls x o) (option_to_list o.thread))

-- whether the thread of an object can start that of another, which is sporadic
abbrev pub can_start : Design → Object → Object → Bool
can_start x from to = is_sporadic to.kind && list_any (λ c. same_name c.object to.name) (thread_calls x from)

-- a thread, by name, that can start another
abbrev pub StartsThread : Design → Name → Name → Type 0
StartsThread x from to =
    list_any (λ f. same_name f.name from && list_any (λ t. same_name t.name to && can_start x f t) (thread_objects x)) (thread_objects x) ≡ true

-- a thread on a ring of starts
abbrev pub IsOnStartRing : Design → Name → Type 0
IsOnStartRing x name = IsOnRing (StartsThread x) name
