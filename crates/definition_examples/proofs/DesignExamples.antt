-- Examples: how a design is walked, linked and flattened, and which designs are proper and well formed.
use Rattle.std.specs.Prelude.{◌≡◌, true, false, [], ◌∷◌, ◌++◌, map, flat_map, Some, None, Ok, codes, refl}
use Rattle.seq_tree.specs.Names.{Name}
use Rattle.seq_tree.specs.Expressions.{Number, Variable}
use Rattle.seq_tree.specs.Statements.{Statement, Statements, Null, Assign, If, For, ExitWhen, Call, Work, Put, End, Nothing, Else, When}
use Rattle.seq_tree.specs.Operations.{Signature, Operation}
use Rattle.seq_tree.specs.Runs as runs
use Rattle.seq_tree.specs.Lexis.{tokens, plain, tokens_after, front_by, start_of, name_front, number_front, longest}
use Rattle.seq_tree.specs.Marks.{mark_of}
use Rattle.seq_tree.specs.declared.tree.OpName.{OpName}
use Rattle.seq_tree.specs.declared.tree.Datum.{Datum}
use Rattle.seq_tree.specs.declared.tree.Mode.TheVariants.{Out}
use Rattle.ods_tree.specs.Designs.{Provided, Body, Object, Tree, Node, Empty, Design}
use Rattle.ods_tree.specs.Attributes.{attribute, attribute_or, attribute_count}
use Rattle.ods_tree.specs.Walk.{objects, terminals, own_of, only_if}
use Rattle.ods_tree.specs.Links.{link_for, resolve, resolved, tree_named}
use Rattle.ods_tree.specs.Flats.{Cyclic, Sporadic, Flat}
use Rattle.ods_tree.specs.Flattening.{operation_by, operations, timing_by, thread_by, flat}
use Rattle.ods_tree.specs.Services.{Plain, Protected, Request, flat_services, service_named, callee_by, callee_of}
use Rattle.ods_tree.specs.Spelling.{part_token, tree_lines}
use Rattle.ods_tree.specs.declared.design.Kind.TheVariants as kind
use Rattle.ods_tree.specs.declared.design.Constraint.TheVariants.{Aser, Hser, Pser}
use Rattle.ods_tree.specs.declared.design.AttrKey.TheVariants.{Period, Offset, Separation, Deadline, ThreadBudget, ArrivalJitter}
use Rattle.ods_tree.proofs.Shared.Short.{row_costs, block, call, attr, v_in, zeros, pas, pro, cyc, cyc_with, trees, design}

-- an object of a kind, alone
abbrev object : Name → Object
object n = record { name = n; kind = kind.Active; attrs = []; provides = []; needs = []; vars = []; bodies = []; thread = None; links = [] }

abbrev op : Name → Name → OpName
op object' op' = record { object = object'; op = op' }

abbrev provided : Name → Provided
provided n = record { sig = record { name = n; params = [] }; constraint = None }

abbrev linked_to : Name → OpName → Object
linked_to n to = record (object n) { provides = provided (codes "f") ∷ []; links = record { op = codes "f"; to = to } ∷ [] }

-- an object whose link goes to its second child, whose link goes to a child of its own
abbrev inner : Tree
inner = Node (linked_to (codes "g") (op (codes "p") (codes "h"))) (trees (pas (codes "p") (codes "h") (Work 1 ∷ []) ∷ []))

abbrev deep : Design
deep = design (Node (linked_to (codes "r") (op (codes "g") (codes "f"))) (trees (pas (codes "a") (codes "f") (Work 1 ∷ []) ∷ inner ∷ [])))

through_two : resolve deep (op (codes "r") (codes "f")) ≡ op (codes "p") (codes "h")
through_two = refl

through_one : resolve deep (op (codes "g") (codes "f")) ≡ op (codes "p") (codes "h")
through_one = refl

terminal_itself : resolve deep (op (codes "a") (codes "z")) ≡ op (codes "a") (codes "z")
terminal_itself = refl

-- what leads nowhere means itself: no such object, no such link, no such child
nowhere : map (resolve deep) (op (codes "x") (codes "f") ∷ op (codes "r") (codes "h") ∷ []) ≡ op (codes "x") (codes "f")
    ∷ op (codes "r") (codes "h") ∷ []
nowhere = refl

to_no_child : resolve (design (Node (linked_to (codes "r") (op (codes "z") (codes "f"))) (trees (pas (codes "a") (codes "f") []
    ∷ [])))) (op (codes "r") (codes "f")) ≡ op (codes "r") (codes "f")
to_no_child = refl

first_link : link_for (codes "f") (record { op = codes "e"; to = op (codes "a") (codes "e") }
    ∷ record { op = codes "f"; to = op (codes "b") (codes "f") } ∷ record { op = codes "f"; to = op (codes "c") (codes "f") } ∷ [])
    ≡ Some (op (codes "b") (codes "f"))
first_link = refl

-- of two objects of one name the first in flattened order
first_named : tree_named (codes "p") (Node (object (codes "r")) (trees (inner ∷ pro (codes "p") (codes "set") [] ∷ [])))
    ≡ Some (pas (codes "p") (codes "h") (Work 1 ∷ []))
first_named = refl

-- calls are read wherever they stand, and everything else stays
abbrev written : Name → Name → Statements
written o f = block (
    For (codes "i") 1 2 (block (Call o f (Variable (codes "i") ∷ []) ∷ [])) ∷ If (When (Variable (codes "x")) (block (call o f
    ∷ [])) (When (Variable (codes "y")) (block (call o f ∷ [])) (Else (block (call o f ∷ [])))))
    ∷ Assign (codes "x") (Number 1) ∷ If (When (Variable (codes "x")) (block (Null ∷ [])) Nothing) ∷ ExitWhen (Variable (codes "x"))
    ∷ Put (Number 2) ∷ Work 3 ∷ call (codes "a") (codes "f") ∷ [])

read_everywhere : resolved deep (written (codes "r") (codes "f")) ≡ written (codes "p") (codes "h")
read_everywhere = refl

-- an operation keeps its locals, and its calls are read
abbrev local : Datum
local = record { name = codes "x"; value = 7 }

abbrev head : Name → Signature
head n = record { name = n; params = v_in ∷ [] }

operation_read : operation_by deep (head (codes "k")) (record {
  name = codes "k";
  locals = local
      ∷ [];
  block = block (call (codes "r") (codes "f") ∷ []);
})
    ≡ record { sig = head (codes "k"); locals = local ∷ []; block = block (call (codes "p") (codes "h") ∷ []) }
operation_read = refl

-- operations in the order in which they are provided; one without a body is none, and of two bodies the first counts
abbrev body : Name → Statement → Body
body n s = record { name = n; locals = []; block = block (s ∷ []) }

abbrev offered : Object
offered = record (object (codes "q")) {
  provides = provided (codes "f") ∷ provided (codes "g") ∷ provided (codes "h")
      ∷ [];
  bodies = body (codes "h") (Work 3) ∷ body (codes "f") (Work 1) ∷ body (codes "f") (Work 2) ∷ [];
}

in_order_of_providing : operations deep offered
    ≡ record { sig = (provided (codes "f")).sig; locals = []; block = block (Work 1 ∷ []) }
    ∷ record { sig = (provided (codes "h")).sig; locals = []; block = block (Work 3 ∷ []) } ∷ []
in_order_of_providing = refl

-- attributes: the first of a key, another number where there is none, and how many there are
abbrev attributed : Object
attributed = record (object (codes "a")) {
  attrs = attr Offset 1 ∷ attr Period 2 ∷ attr Period 3 ∷ attr Separation 4 ∷ attr Deadline 5 ∷ attr ThreadBudget 6 ∷ attr ArrivalJitter 7 ∷ [];
}

first_of_each : map (λ k. attribute k attributed) (Offset ∷ Period ∷ Separation ∷ Deadline ∷ ThreadBudget ∷ ArrivalJitter ∷ []) ≡ Some 1 ∷ Some 2
    ∷ Some 4 ∷ Some 5 ∷ Some 6 ∷ Some 7 ∷ []
first_of_each = refl

or_another : map (λ o. attribute_or 9 Period o) (attributed ∷ object (codes "a") ∷ []) ≡ 2 ∷ 9 ∷ []
or_another = refl

how_many : map (λ k. attribute_count k attributed) (Period ∷ Offset ∷ []) ≡ 2 ∷ 1 ∷ []
how_many = refl

-- when a thread is released, by kind
abbrev requested : Object
requested = record attributed { provides = record { sig = head (codes "start"); constraint = Some Aser } ∷ provided (codes "more") ∷ [] }

by_kind : map (λ k. timing_by k requested) (kind.Cyclic ∷ kind.Sporadic ∷ kind.Passive ∷ kind.Active ∷ kind.Protected ∷ [])
    ≡ Some (Cyclic 2 1) ∷ Some (Sporadic (head (codes "start")) 4 (Some 7)) ∷ None ∷ None ∷ None ∷ []
by_kind = refl

without_attributes : map (λ k. timing_by k (record requested { attrs = [] })) (kind.Cyclic ∷ kind.Sporadic ∷ []) ≡ Some (Cyclic 0 0)
    ∷ Some (Sporadic (head (codes "start")) 0 None) ∷ []
without_attributes = refl

without_request : timing_by kind.Sporadic attributed ≡ None
without_request = refl

-- a thread, with its data, and its calls read
abbrev threaded : Object
threaded = record attributed { kind = kind.Cyclic; vars = local ∷ []; thread = Some (block (call (codes "r") (codes "f") ∷ [])) }

thread_read : thread_by deep threaded ≡ Some (record {
  name = codes "a";
  timing = Cyclic 2 1;
  deadline = 5;
  vars = local
      ∷ [];
  block = block (call (codes "p") (codes "h") ∷ []);
})
thread_read = refl

no_thread : map (thread_by deep) (record threaded { kind = kind.Protected } ∷ record threaded { thread = None } ∷ []) ≡ None ∷ None ∷ []
no_thread = refl

-- objects with those round them, each parent before its children
abbrev family : Design
family = design (Node (object (codes "r")) (trees (Node (object (codes "g")) (trees (pas (codes "p") (codes "f") []
    ∷ pro (codes "q") (codes "set") [] ∷ [])) ∷ cyc (codes "c") 10 10 [] ∷ [])))

stand_in_order : map (λ s. s.own.name) (objects family) ≡ codes "r" ∷ codes "g" ∷ codes "p" ∷ codes "q" ∷ codes "c" ∷ []
stand_in_order = refl

their_parents : map (λ s. s.parent) (objects family) ≡ None ∷ Some (object (codes "r")) ∷ Some (object (codes "g")) ∷ Some (object (codes "g"))
    ∷ Some (object (codes "r")) ∷ []
their_parents = refl

their_siblings : map (λ s. map (λ o. o.name) s.siblings) (objects family)
    ≡ (codes "r" ∷ []) ∷ (codes "g" ∷ codes "c" ∷ []) ∷ (codes "p" ∷ codes "q" ∷ []) ∷ (codes "p" ∷ codes "q" ∷ []) ∷ (codes "g" ∷ codes "c" ∷ [])
    ∷ []
their_siblings = refl

their_children : map (λ s. map (λ o. o.name) s.children) (objects family) ≡ (codes "g" ∷ codes "c" ∷ []) ∷ (codes "p" ∷ codes "q" ∷ []) ∷ [] ∷ []
    ∷ [] ∷ []
their_children = refl

without_children : map (λ s. s.own.name) (terminals family) ≡ codes "p" ∷ codes "q" ∷ codes "c" ∷ []
without_children = refl

where_true : map (λ b. only_if b (codes "a")) (true ∷ false ∷ []) ≡ Some (codes "a") ∷ None ∷ []
where_true = refl

-- a flat design has the terminal objects by sort, with their data; a protected object with a child is none of them
abbrev sorted : Design
sorted = design (Node (object (codes "r")) (trees (
    Node (record (own_of (pro (codes "w") (codes "set") [])) {
      links = record { op = codes "set"; to = op (codes "q") (codes "set") }
          ∷ [];
    }) (trees (Node (record (own_of (pro (codes "q") (codes "set") (Work 2 ∷ []))) { vars = local ∷ [] }) Empty ∷ []))
    ∷ pas (codes "p") (codes "f") (Work 1 ∷ []) ∷ cyc_with (codes "c") (attr Period 10 ∷ attr Deadline 9 ∷ []) (codes "x"
    ∷ []) (call (codes "w") (codes "set") ∷ []) ∷ [])))

abbrev no_head : Name → Signature
no_head n = record { name = n; params = [] }

by_sort : flat sorted ≡ record {
  name = codes "d";
  costs = row_costs;
  passive = record { name = codes "p"; ops = record { sig = no_head (codes "f"); locals = []; block = block (Work 1 ∷ []) } ∷ [] } ∷ [];
  shared = record {
    name = codes "q";
    vars = local ∷ [];
    ops = record { sig = no_head (codes "set"); locals = []; block = block (Work 2 ∷ []) }
        ∷ [];
  } ∷ [];
  threads = record {
    name = codes "c";
    timing = Cyclic 10 0;
    deadline = 9;
    vars = zeros (codes "x"
        ∷ []);
    block = block (call (codes "q") (codes "set") ∷ []);
  } ∷ [];
}
by_sort = refl

-- the operations that may be called: passive, then protected, then requests; of one pair of names the first
abbrev operation : Name → Operation
operation n = record { sig = no_head n; locals = []; block = block (Work 1 ∷ []) }

abbrev small : Flat
small = record {
  name = codes "d";
  costs = row_costs;
  passive = record { name = codes "p"; ops = operation (codes "f") ∷ operation (codes "g") ∷ [] } ∷ [];
  shared = record { name = codes "q"; vars = []; ops = operation (codes "f") ∷ [] } ∷ [];
  threads =
      record { name = codes "c"; timing = Cyclic 10 0; deadline = 10; vars = []; block = block (Null ∷ []) }
      ∷ record { name = codes "s"; timing = Sporadic (head (codes "start")) 10 None; deadline = 10; vars = []; block = block (Null ∷ []) } ∷ [];
}

served : map (λ s. op s.object s.op.sig.name) (flat_services small) ≡ op (codes "p") (codes "f") ∷ op (codes "p") (codes "g")
    ∷ op (codes "q") (codes "f") ∷ op (codes "s") (codes "start") ∷ []
served = refl

their_sorts : map (λ s. s.sort) (flat_services small) ≡ Plain ∷ Plain ∷ Protected ∷ Request ∷ []
their_sorts = refl

request_without_body : map (λ s. s.op) (flat_services small) ≡ operation (codes "f") ∷ operation (codes "g") ∷ operation (codes "f")
    ∷ record { sig = head (codes "start"); locals = []; block = End } ∷ []
request_without_body = refl

by_both_names : map (λ n. service_named (flat_services small) (codes "q") n) (codes "f" ∷ codes "g" ∷ [])
    ≡ Some (record { object = codes "q"; sort = Protected; op = operation (codes "f") }) ∷ None ∷ []
by_both_names = refl

called_as : map (λ s. callee_by s (record { sig = head (codes "f"); locals = local ∷ []; block = End })) (Plain ∷ Protected ∷ Request ∷ [])
    ≡ runs.Plain (record { sig = head (codes "f"); locals = local ∷ []; block = End }) ∷ runs.Protected (v_in ∷ []) ∷ runs.Asked ∷ []
called_as = refl

called_unknown : callee_of None ≡ runs.Unknown
called_unknown = refl

-- all of a tree is written: kinds, attributes, constraints, parameters, locals and objects inside
abbrev full : Tree
full = Node (linked_to (codes "r") (op (codes "p") (codes "f"))) (trees (
    Node (record (object (codes "p")) {
      kind = kind.Passive;
      provides =
          record { sig = record { name = codes "f"; params = v_in ∷ record { name = codes "w"; mode = Out } ∷ [] }; constraint = None }
          ∷ record { sig = no_head (codes "g"); constraint = Some Hser } ∷ record { sig = no_head (codes "h"); constraint = Some Pser } ∷ [];
      bodies = record { name = codes "f"; locals = local ∷ []; block = block (Null ∷ []) } ∷ [];
    }) Empty
    ∷ Node (record (object (codes "c")) { kind = kind.Cyclic; attrs = attr Period 10 ∷ attr Offset 2 ∷ [] }) Empty ∷ []))

full_spelled : Ok (flat_map (λ l. map part_token l.parts) (tree_lines 1 full))
    ≡ plain (tokens (codes "object r is active provides f; objects object p is passive provides f (v : in word; w : out word); g hser; h pser; "
    ++ codes "operation f is x : word := 7; begin null; end f; end p; object c is cyclic attributes period = 10; offset = 2; end c; "
    ++ codes "implements f by p.f; end r;"))
unfolding tokens tokens_after front_by start_of name_front number_front longest mark_of
full_spelled = refl

full_levels : map (λ l. l.level) (tree_lines 1 full) ≡ 1 ∷ 2 ∷ 3 ∷ 2 ∷ 3 ∷ 4 ∷ 5 ∷ 5 ∷ 5 ∷ 4 ∷ 5 ∷ 4 ∷ 5 ∷ 4 ∷ 3 ∷ 3 ∷ 4 ∷ 5 ∷ 5 ∷ 3 ∷ 2 ∷ 3 ∷ 1 ∷ []
full_levels = refl
