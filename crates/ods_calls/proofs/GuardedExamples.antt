-- The graph of calls between protected objects: what is an edge of it, and what is none.
use Rattle.std.specs.Prelude.{◌≡◌, ℕ, List, [], ◌∷◌, map, Option, Some, None, codes}
use Rattle.std.proofs.Common.{true, false, refl}
use Prim.Native.String.{String}
use Rattle.seq_tree.specs.Names.{Name}
use Rattle.seq_tree.specs.declared.tree.OpName.{OpName}
use Rattle.ods_tree.specs.Designs.{Object, Tree, Node, Design}
use Rattle.ods_tree.specs.Walk.{objects, own_of}
use Rattle.ods_tree.specs.declared.design.Kind.{Kind}
use Rattle.ods_tree.specs.declared.design.Kind.TheVariants.{Active, Protected}
use Rattle.ods_tree.proofs.Shared.Short.{block, call, design, pas, pro, several, trees}
use Rattle.ods_index.specs.Calling.{Calls, body_calls}
use Rattle.ods_calls.specs.Guarded.{guard_edges, guard_place, guards_among, guards_step}
use Rattle.name_sets.specs.FirstPlaces.{place_from}

abbrev op : String → String → OpName
op object op' = record { object = codes object; op = codes op' }

-- a passive object that calls a protected one, and two protected ones that call each other
abbrev plain : Tree
plain = pas (codes "p") (codes "f") (call (codes "q") (codes "g") ∷ [])

abbrev first : Tree
first = pro (codes "q") (codes "g") (call (codes "r") (codes "h") ∷ [])

abbrev second : Tree
second = pro (codes "r") (codes "h") (call (codes "q") (codes "g") ∷ [])

abbrev three : Design
three = several (plain ∷ first ∷ second ∷ [])

abbrev place : Name → Option ℕ
place n = place_from 0 n (codes "q" ∷ codes "r" ∷ [])

-- the protected objects without children, and none that has some
guards : map (λ o. o.name) (guards_among (objects three)) ≡ codes "q" ∷ codes "r" ∷ []
guards = refl

abbrev parent : Kind → List OpName → Object
parent kind needs =
    record {
      name = codes "m";
      kind = kind;
      attrs = [];
      provides = [];
      needs = needs;
      vars = [];
      bodies = [];
      thread = None;
      links = record
          { op = codes "f"; to = op "q" "g" } ∷ [];
    }

not_with_children : guards_among (objects (design (Node (parent Protected []) (trees (plain ∷ []))))) ≡ []
not_with_children = refl

-- the place of a body of a protected object, and none of one of another kind or name
abbrev calling : Kind → String → OpName → Calls
calling kind object n = body_calls three kind (codes object) (op "r" "h" ∷ op "p" "f" ∷ op "m" "f" ∷ [])
    (record { name = codes "g"; locals = []; block = block (call n.object n.op ∷ []) })

protected_body : guard_place place (calling Protected "q" (op "r" "h")) ≡ Some 0
protected_body = refl

plain_body : guard_place place (calling Active "q" (op "r" "h")) ≡ None
plain_body = refl

other_body : guard_place place (calling Protected "p" (op "r" "h")) ≡ None
other_body = refl

-- a call of a protected object, one that its object doesn't require, and one of a passive object
required_call : guard_edges place (calling Protected "q" (op "r" "h")) ≡ (0, 1) ∷ []
required_call = refl

unrequired_call : guard_edges place (calling Protected "q" (op "r" "g")) ≡ []
unrequired_call = refl

plain_call : guard_edges place (calling Protected "q" (op "p" "f")) ≡ []
plain_call = refl

-- a call from an object that isn't protected
call_from_plain : guard_edges place (calling Active "q" (op "r" "h")) ≡ []
call_from_plain = refl

-- a call through a link
abbrev linked : Design
linked = several (Node (parent Active []) (trees (first ∷ [])) ∷ pro (codes "r") (codes "h") (call (codes "m") (codes "f") ∷ []) ∷ [])

linked_call : guards_step linked (own_of first ∷ own_of second ∷ []) 1 0 ≡ true
linked_call = refl

-- a step goes from one of the two to the other, and from none to itself
guards_step_is : guards_step three (own_of first ∷ own_of second ∷ []) 0 1 ≡ true
guards_step_is = refl

guards_step_self : guards_step three (own_of first ∷ own_of second ∷ []) 0 0 ≡ false
guards_step_self = refl
