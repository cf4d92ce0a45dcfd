-- What the definitions of costs and calls hold of, and what breaks each alone.
use Rattle.std.proofs.Common.{◌≡◌, ℕ, [], ◌∷◌, Option, Some, None, map, min, refl, arith}
use Rattle.std.specs.Prelude.{codes, filter_map}
use Rattle.seq_tree.specs.Dearest.{cost}
use Rattle.seq_tree.specs.Statements.{Work}
use Rattle.seq_tree.specs.declared.tree.OpName.{OpName}
use Rattle.ods_tree.specs.Designs.{Node, Object, Tree}
use Rattle.ods_tree.specs.Flattening.{flat}
use Rattle.ods_tree.specs.Walk.{objects, own_of}
use Rattle.ods_tree.specs.declared.design.Kind.TheVariants as kind
use Rattle.ods_tree.proofs.Shared.Short.{block, call, pas, trees, design}
use Rattle.design_rules.specs.Broken.{V14, V15Cost}
use Rattle.design_rules.specs.Budgets.{body_cost}
use Rattle.call_graph.specs.Entries.{entries}
use Rattle.call_graph.specs.Entries as works
use Rattle.name_sets.specs.FirstPlaces.{op_place_from}
use Rattle.call_graph.specs.Places.{known_by}
use Rattle.call_graph.specs.Prices.{cap}
use Rattle.ods_calls.specs.Costed.{ArePrices, body_entry, body_work, dear_parts, meant_place, meant_work, over_budgets, request_in}
use Rattle.ods_calls.specs.Costed.{request_served, services_in, threads_among}
use Rattle.ods_index.specs.Calling.{design_calls}
use Rattle.ods_index.proofs.Shared.SmallDesign.{f, g, go, by_root, passive, guarded, cyclic, sporadic, root, x, alone, parent}

-- the operations that may be called: not that of the root, which has children
ops : entries (flat x)
    ≡ record { name = f; work = works.Plain (block (Work 3 ∷ [])) }
    ∷ record { name = g; work = works.Protected (block (call (codes "p") (codes "f") ∷ [])) } ∷ record { name = go; work = works.Asked } ∷ []
ops = refl

-- the same by the graph of calls
graph_ops : services_in x
    ≡ record { name = f; work = works.Plain (block (Work 3 ∷ [])) }
    ∷ record { name = g; work = works.Protected (block (call (codes "p") (codes "f") ∷ [])) } ∷ record { name = go; work = works.Asked } ∷ []
graph_ops = refl

-- those of passive objects stand before those of protected ones
behind_guarded : map (λ e. e.name) (services_in (design (Node (own_of root) (trees (guarded ∷ passive ∷ sporadic ∷ [])))))
    ≡ f ∷ g ∷ go ∷ []
behind_guarded = refl

-- what a body runs: of one kind of objects, which is passive or protected
plain_work : body_work kind.Passive kind.Passive (block []) ≡ Some (works.Plain (block []))
plain_work = refl

guarded_work : body_work kind.Protected kind.Protected (block []) ≡ Some (works.Protected (block []))
guarded_work = refl

other_work : body_work kind.Passive kind.Protected (block []) ≡ None
other_work = refl

thread_work : body_work kind.Sporadic kind.Sporadic (block []) ≡ None
thread_work = refl

guarded_entry : filter_map (body_entry kind.Protected) (design_calls x)
    ≡ record { name = g; work = works.Protected (block (call (codes "p") (codes "f") ∷ [])) } ∷ []
guarded_entry = refl

-- a call goes by what it means, in a body too
abbrev places : OpName → Option ℕ
places = op_place_from 0 (f ∷ g ∷ go ∷ [])

by_link : meant_place x places by_root ≡ Some 0
by_link = refl

by_no_link : meant_place x places go ≡ Some 2
by_no_link = refl

by_nothing : meant_place x places (record { object = codes "r"; op = codes "go" }) ≡ None
by_nothing = refl

meant_plain : meant_work x (works.Plain (block (call (codes "r") (codes "f") ∷ []))) ≡ works.Plain (block (call (codes "p") (codes "f") ∷ []))
meant_plain = refl

meant_block : meant_work x (works.Protected (block (call (codes "r") (codes "f") ∷ [])))
    ≡ works.Protected (block (call (codes "p") (codes "f") ∷ []))
meant_block = refl

meant_request : meant_work x works.Asked ≡ works.Asked
meant_request = refl

-- prices of which one is too great are not those of the design
priced_block : min cap (cost x.costs (known_by (meant_place x places) (3 ∷ 5 ∷ 2 ∷ [])) (block (call (codes "q") (codes "g") ∷ [])))
    ≡ min cap (body_cost x (block (call (codes "q") (codes "g") ∷ [])))
priced_block = refl

too_dear : ArePrices x places (3 ∷ 6 ∷ 2 ∷ []) → ⊥
too_dear h = let same : 8 ≡ 7 = h (block (call (codes "q") (codes "g") ∷ [])) in omega (arith, same)

-- requests: of an object with a thread that provides an operation
asked : request_in (own_of sporadic) ≡ record { name = go; work = works.Asked } ∷ []
asked = refl

asked_nothing : request_in (own_of cyclic) ≡ []
asked_nothing = refl

asked_no_thread : request_in (own_of passive) ≡ []
asked_no_thread = refl

-- and of a sporadic one without children
request : request_served (alone sporadic) ≡ record { name = go; work = works.Asked } ∷ []
request = refl

request_of_parent : request_served (parent sporadic) ≡ []
request_of_parent = refl

abbrev periodic : Object
periodic = record {
  name = codes "s";
  kind = kind.Cyclic;
  attrs = [];
  provides = (own_of sporadic).provides;
  needs = [];
  vars = [];
  bodies = [];
  thread = (own_of sporadic).thread;
  links = [];
}

request_of_cyclic : request_served (record { own = periodic; parent = None; siblings = []; children = [] }) ≡ []
request_of_cyclic = refl

-- an activation of 13 ticks is over a budget of 8, and not where the object has children
over : over_budgets x (alone cyclic) ≡ V14 (codes "t") 13 8 ∷ []
over = refl

over_not : over_budgets x (alone sporadic) ≡ []
over_not = refl

over_parent : over_budgets x (parent cyclic) ≡ []
over_parent = refl

with_threads : map (λ o. o.name) (threads_among (objects x)) ≡ codes "t" ∷ codes "s" ∷ []
with_threads = refl

-- a body of more than 1,000,000,000 ticks is too dear
abbrev dear : Tree
dear = pas (codes "p") (codes "f") (Work 1000000001 ∷ [])

dear_told : dear_parts (design dear) (alone dear) ≡ V15Cost (codes "p") (Some (codes "f")) ∷ []
dear_told = refl

dear_not : dear_parts x (alone passive) ≡ []
dear_not = refl

dear_parent : dear_parts (design dear) (parent dear) ≡ []
dear_parent = refl
