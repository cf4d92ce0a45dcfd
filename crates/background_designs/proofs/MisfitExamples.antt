-- What is a client, what a server and what neither, what their hard parts are, and what is refused of them: each holds, or breaks one condition
-- alone.
use Rattle.std.specs.Prelude.{◌≡◌, true, false, List, [], ◌∷◌, map, Option, Some, None, codes, refl}
use Rattle.seq_tree.specs.Names.{Name}
use Rattle.seq_tree.specs.Statements.{Statements, Work, Null}
use Rattle.seq_tree.specs.declared.tree.OpName.{OpName}
use Rattle.seq_tree.specs.declared.tree.Mode.TheVariants.{Out}
use Rattle.seq_tree.specs.declared.tree.Param.{Param}
use Rattle.ods_tree.specs.Designs.{Provided, Object, Tree, Node, Empty, Design}
use Rattle.ods_tree.specs.Walk.{own_of}
use Rattle.ods_tree.specs.declared.design.Attr.{Attr}
use Rattle.ods_tree.specs.declared.design.Kind.{Kind}
use Rattle.ods_tree.specs.declared.design.Kind.TheVariants as kind
use Rattle.ods_tree.specs.declared.design.AttrKey.TheVariants.{Period, Deadline, ThreadBudget}
use Rattle.ods_tree.specs.declared.design.Constraint.{Constraint}
use Rattle.ods_tree.specs.declared.design.Constraint.TheVariants.{Aser, Hser, Pser, Paer}
use Rattle.ods_tree.proofs.Shared.Short.{block, attr, cyc, cyc_with, spo, pro, trees, several, design, call, v_in}
use Rattle.background_designs.specs.Clients.{is_client, is_server, clients}
use Rattle.background_designs.specs.HardParts.{softened, soft_operation, hard_object, hard_tree, hard_part}
use Rattle.background_designs.specs.Misfits.{A1, A2, A3, A4, A5, A6, misfits, requesting_clients}
use Rattle.background_designs.proofs.Shared.Examples.{client, server, waiting, waits}

-- an object without children, of any kind and with anything in it
abbrev pub object : Name → Kind → List Attr → List Provided → List OpName → Option Statements → Object
object name kind attrs provides needs thread = record {
  name = name;
  kind = kind;
  attrs = attrs;
  provides = provides;
  needs = needs;
  vars = [];
  bodies = [];
  thread = thread;
  links = [];
}

abbrev pub alone : Object → Tree
alone o = Node o Empty

abbrev thread : Option Statements
thread = Some (block (Null ∷ []))

abbrev op_of : Name → Option Constraint → Provided
op_of name constraint = record { sig = record { name = name; params = [] }; constraint = constraint }

abbrev target : Name → Name → OpName
target object op = record { object = object; op = op }

abbrev c : Name
c = codes "c"

abbrev s : Name
s = codes "s"

abbrev get : Name
get = codes "get"

-- a client has a thread and provides nothing
a_client : is_client (object c kind.Active [] [] [] thread) ≡ true
a_client = refl

not_active : is_client (object c kind.Cyclic [] [] [] thread) ≡ false
not_active = refl

no_thread : is_client (object c kind.Active [] [] [] None) ≡ false
no_thread = refl

provides_some : is_client (object c kind.Active [] (waiting get ∷ []) [] thread) ≡ false
provides_some = refl

-- a server has no thread and provides operations whose callers wait
a_server : is_server (object s kind.Active [] (waiting get ∷ waiting (codes "put") ∷ []) [] None) ≡ true
a_server = refl

protected_one : is_server (object s kind.Protected [] (waiting get ∷ []) [] None) ≡ false
protected_one = refl

server_with_thread : is_server (object s kind.Active [] (waiting get ∷ []) [] thread) ≡ false
server_with_thread = refl

provides_none : is_server (object s kind.Active [] [] [] None) ≡ false
provides_none = refl

one_asynchronous : is_server (object s kind.Active [] (waiting get ∷ op_of (codes "put") (Some Aser) ∷ []) [] None) ≡ false
one_asynchronous = refl

one_unconstrained : is_server (object s kind.Active [] (waiting get ∷ op_of (codes "put") None ∷ []) [] None) ≡ false
one_unconstrained = refl

-- an active object with children is no client, whatever it has
abbrev with_child : Design
with_child = design (Node (object (codes "r") kind.Active [] [] [] thread) (trees (client c (Null ∷ []) ∷ [])))

inner_client : map (λ o. o.name) (clients with_child) ≡ c ∷ []
inner_client = refl

-- the hard part: an operation that hands a value out is synchronous, another one asynchronous, and those without waiting callers stay
abbrev handing : List Param → Provided
handing params = record { sig = record { name = get; params = params }; constraint = Some Hser }

abbrev v_out : Param
v_out = record { name = codes "w"; mode = Out }

hands_in : (soft_operation (handing (v_in ∷ []))).constraint ≡ Some Paer
hands_in = refl

hands_out : (soft_operation (handing (v_in ∷ v_out ∷ []))).constraint ≡ Some Pser
hands_out = refl

hands_nothing : (soft_operation (handing [])).constraint ≡ Some Paer
hands_nothing = refl

stays : map (softened true) (Some Aser ∷ Some Pser ∷ Some Paer ∷ None ∷ []) ≡ Some Aser ∷ Some Pser ∷ Some Paer ∷ None ∷ []
stays = refl

-- a client is cyclic with the longest times, and what it had for attributes is gone
client_made_hard : hard_object (object c kind.Active (attr Period 7 ∷ []) [] [] thread)
    ≡ object c kind.Cyclic (attr Period 1000000000 ∷ attr Deadline 1000000000 ∷ attr ThreadBudget 1000000000 ∷ []) [] [] thread
client_made_hard = refl

server_made_hard : hard_object (object s kind.Active [] (waiting get ∷ []) [] None)
    ≡ object s kind.Protected [] (record { sig = (waiting get).sig; constraint = Some Paer } ∷ []) [] None
server_made_hard = refl

-- a hard object stays, and an object with children keeps its kind while its operations change as those of its servers
hard_stays : hard_tree (cyc c 8 8 (Null ∷ [])) ≡ cyc c 8 8 (Null ∷ [])
hard_stays = refl

parent_keeps_kind : own_of (hard_part (design (Node (object s kind.Active [] (waiting get ∷ []) [] None) (trees (client c (Null ∷ []) ∷ []))))).root
    ≡ object s kind.Active [] (record { sig = (waiting get).sig; constraint = Some Paer } ∷ []) [] None
parent_keeps_kind = refl

-- a client and a server alone, and inside active objects, are no misfits
fitting : misfits (several (client c (waits s get ∷ []) ∷ server s get (Null ∷ []) ∷ [])) ≡ []
fitting = refl

fitting_root : misfits (design (client c (Null ∷ []))) ≡ []
fitting_root = refl

-- A1: neither client nor server
nothing_there : misfits (design (alone (object c kind.Active [] [] [] None))) ≡ A1 c ∷ []
nothing_there = refl

asynchronous_server : misfits (design (alone (object s kind.Active [] (waiting get ∷ op_of (codes "put") (Some Aser) ∷ []) [] None))) ≡ A1 s ∷ []
asynchronous_server = refl

-- A1: with attributes, as a client and as a server
server_with_attributes : misfits (design (alone (object s kind.Active (attr Period 10 ∷ []) (waiting get ∷ []) [] None))) ≡ A1 s ∷ []
server_with_attributes = refl

-- A1: inside an object that isn't active
foreign_parent : misfits (design (Node (object (codes "p") kind.Passive [] [] [] None) (trees (client c (Null ∷ []) ∷ [])))) ≡ A1 c ∷ []
foreign_parent = refl

-- A1 speaks of objects without children alone, and of active ones alone
with_children : misfits (design (Node (object (codes "r") kind.Active (attr Period 10 ∷ []) [] [] None) (trees (client c (Null ∷ []) ∷ []))))
    ≡ []
with_children = refl

cyclic_with_attributes : misfits (design (cyc c 8 8 (Null ∷ []))) ≡ []
cyclic_with_attributes = refl

-- A2: any object that isn't active and requires an operation whose callers wait, with children too, in order of writing
protected_waits : misfits (several (server s get (Null ∷ []) ∷ alone (object (codes "q") kind.Protected [] [] (target s get ∷ []) None) ∷ []))
    ≡ A2 (codes "q") (target s get) ∷ []
protected_waits = refl

parent_waits : misfits (several (server s get (Null ∷ [])
    ∷ Node (object (codes "p") kind.Protected [] [] (target s get ∷ []) None) (trees (pro (codes "q") (codes "set") (Null ∷ []) ∷ [])) ∷ []))
    ≡ A2 (codes "p") (target s get) ∷ []
parent_waits = refl

waits_twice : misfits (several (server s get (Null ∷ []) ∷ server (codes "t") get (Null ∷ [])
    ∷ alone (object (codes "q") kind.Protected [] [] (target (codes "t") get ∷ target s get ∷ []) None) ∷ []))
    ≡ A2 (codes "q") (target (codes "t") get) ∷ A2 (codes "q") (target s get) ∷ []
waits_twice = refl

-- clients and groups may wait, a target that isn't there is passed over, and so is one whose callers don't wait
group_waits : misfits (several (server s get (Null ∷ [])
    ∷ Node (object (codes "g") kind.Active [] [] (target s get ∷ []) None) (trees (client c (waits s get ∷ []) ∷ [])) ∷ [])) ≡ []
group_waits = refl

no_target : misfits (several (server s get (Null ∷ []) ∷ alone (object (codes "q") kind.Protected [] [] (target s (codes "put") ∷ []) None) ∷ []))
    ≡ []
no_target = refl

other_target : misfits (several (pro s get (Null ∷ []) ∷ alone (object (codes "q") kind.Protected [] [] (target s get ∷ []) None) ∷ [])) ≡ []
other_target = refl

-- of several objects of one name the first counts, and of several operations the first
first_of_name : misfits (several (pro s get (Null ∷ []) ∷ server s get (Null ∷ [])
    ∷ alone (object (codes "q") kind.Protected [] [] (target s get ∷ []) None) ∷ [])) ≡ []
first_of_name = refl

-- A3: an object that isn't active and provides such an operation, once whatever the number of them
foreign_server : misfits (design (alone (object s kind.Protected [] (waiting get ∷ waiting (codes "put") ∷ []) [] None))) ≡ A3 s ∷ []
foreign_server = refl

foreign_group : misfits (design (Node (object (codes "p") kind.Passive [] (waiting get ∷ []) [] None) (trees (pro (codes "q") get (Null ∷ []) ∷ []))))
    ≡ A3 (codes "p") ∷ []
foreign_group = refl

active_group : misfits (design (Node (object (codes "g") kind.Active [] (waiting get ∷ []) [] None) (trees (pro (codes "q") get (Null ∷ []) ∷ []))))
    ≡ []
active_group = refl

-- A4: a server that requests a sporadic object; a hard thread may, and so may an active object with children require it
server_asks : misfits (several (spo (codes "w") 50 20 (Work 4 ∷ []) ∷ server s get (waits (codes "w") (codes "start") ∷ []) ∷ []))
    ≡ A4 s (target (codes "w") (codes "start")) ∷ []
server_asks = refl

hard_asks : misfits (several (spo (codes "w") 50 20 (Work 4 ∷ []) ∷ cyc (codes "h") 50 20 (waits (codes "w") (codes "start") ∷ []) ∷ [])) ≡ []
hard_asks = refl

group_asks : misfits (several (spo (codes "w") 50 20 (Work 4 ∷ [])
    ∷ Node (object (codes "g") kind.Active [] [] (target (codes "w") (codes "start") ∷ []) None) (trees (client c (Null ∷ []) ∷ [])) ∷ [])) ≡ []
group_asks = refl

-- A5: a sporadic thread with the deadline of clients, and one deadline of two; one tick less is none
slow_sporadic : misfits (design (spo (codes "w") 1000000000 1000000000 (Null ∷ []))) ≡ A5 (codes "w") ∷ []
slow_sporadic = refl

slow_twice : misfits (design (cyc_with (codes "h") (attr Deadline 8 ∷ attr Deadline 1000000000 ∷ []) [] (Null ∷ []))) ≡ A5 (codes "h") ∷ []
slow_twice = refl

slow_period : misfits (design (cyc (codes "h") 1000000000 999999999 (Null ∷ []))) ≡ []
slow_period = refl

slow_passive : misfits (design (alone (object (codes "p") kind.Passive (attr Deadline 1000000000 ∷ []) [] [] None))) ≡ []
slow_passive = refl

-- refusals come by number, then in flattened order
by_number : misfits (several (cyc (codes "h") 1000000000 1000000000 (waits s get ∷ []) ∷ server s get (waits (codes "w") (codes "start") ∷ [])
    ∷ spo (codes "w") 50 20 (Null ∷ []) ∷ alone (object (codes "q") kind.Protected [] (waiting get ∷ []) [] None)
    ∷ alone (object c kind.Active [] [] [] None) ∷ []))
    ≡ A1 c ∷ A2 (codes "h") (target s get) ∷ A3 (codes "q") ∷ A4 s (target (codes "w") (codes "start")) ∷ A5 (codes "h") ∷ []
by_number = refl

-- A6: each client that can request, with each sporadic object that it can, in flattened order; a hard thread may
abbrev through : Design
through = several (spo (codes "w") 50 20 (Null ∷ []) ∷ spo (codes "u") 50 20 (Null ∷ [])
    ∷ pro (codes "q") (codes "set") (waits (codes "u") (codes "start") ∷ waits (codes "w") (codes "start") ∷ [])
    ∷ cyc (codes "h") 50 20 (call (codes "q") (codes "set") ∷ [])
    ∷ client c (call (codes "q") (codes "set") ∷ []) ∷ client (codes "d") (Null ∷ []) ∷ client (codes "e") (call (codes "q") (codes "set") ∷ []) ∷ [])

all_requests : requesting_clients through
    ≡ A6 c (codes "w") ∷ A6 c (codes "u") ∷ A6 (codes "e") (codes "w") ∷ A6 (codes "e") (codes "u") ∷ []
all_requests = refl

-- a client asks through a server too
through_server : requesting_clients (several (spo (codes "w") 50 20 (Null ∷ [])
    ∷ pro (codes "q") (codes "set") (waits (codes "w") (codes "start") ∷ []) ∷ server s get (call (codes "q") (codes "set") ∷ [])
    ∷ client c (waits s get ∷ []) ∷ [])) ≡ A6 c (codes "w") ∷ []
through_server = refl
