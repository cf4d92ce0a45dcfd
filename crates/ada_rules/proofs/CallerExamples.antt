-- Examples of operations with what they call, of what that leads to, and of the places of units, each beside what breaks it alone.
use Rattle.std.proofs.Common.{◌≡◌, ℕ, true, false, List, [], ◌∷◌, Some, None, Option, refl, inl, inr, subst, sym}
use Rattle.std.specs.List.{list_any}
use Rattle.seq_tree.specs.Calls.{same_op}
use Rattle.seq_tree.specs.Names.{Name}
use Rattle.seq_tree.specs.Operations.{Operation}
use Rattle.seq_tree.specs.Statements.{Call, End, Then}
use Rattle.seq_tree.specs.declared.tree.OpName.{OpName}
use Rattle.seq_tree.proofs.Shared.Walks.{same_op-eq}
use Rattle.name_sets.specs.FirstPlaces.{op_place_from}
use Rattle.ada_tree.specs.Programs.{Passive, Shared}
use Rattle.ada_rules.specs.Callers.{Caller, IsFound, Makes, caller_edges, is_led_to, is_marked, makes, names, op_caller, ops_in, unit_callers}
use Rattle.ada_rules.specs.UnitPlaces.{earlier, unit_at}
use Rattle.ada_rules.specs.declared.callers.Sort.TheVariants as sort

abbrev f : OpName
f = record { object = 112 ∷ []; op = 102 ∷ [] }

abbrev g : OpName
g = record { object = 113 ∷ []; op = 103 ∷ [] }

abbrev h : OpName
h = record { object = 113 ∷ []; op = 104 ∷ [] }

-- an operation with the calls of its body
abbrev calls_g : Operation
calls_g = record {
  sig = record { name = f.op; params = [] };
  locals = [];
  block = Then (Call g.object g.op []) End;
}

one_caller : op_caller f.object calls_g ≡ record { name = f; calls = g ∷ [] }
one_caller = refl

passive_of_passive : ops_in sort.Passive (Passive (calls_g ∷ [])) ≡ calls_g ∷ []
passive_of_passive = refl

passive_of_shared : ops_in sort.Passive (Shared 1 [] (calls_g ∷ [])) ≡ []
passive_of_shared = refl

shared_of_shared : ops_in sort.Shared (Shared 1 [] (calls_g ∷ [])) ≡ calls_g ∷ []
shared_of_shared = refl

shared_of_passive : ops_in sort.Shared (Passive (calls_g ∷ [])) ≡ []
shared_of_passive = refl

callers_of_unit : unit_callers sort.Shared (record { name = f.object; form = Shared 1 [] (calls_g ∷ []) })
    ≡ record { name = f; calls = g ∷ [] } ∷ []
callers_of_unit = refl

-- f calls g, which calls h and itself
abbrev cs : List Caller
cs = record { name = f; calls = g ∷ [] } ∷ record { name = g; calls = h ∷ g ∷ [] } ∷ []

abbrev place : OpName → Option ℕ
place = op_place_from 0 (names cs)

-- a call of what has no place is no edge
edges : caller_edges place cs ≡ (0, 1) ∷ (1, 1) ∷ []
edges = refl

-- who calls, and what is called
it_makes : makes f g (record { name = f; calls = g ∷ [] }) ≡ true
it_makes = refl

another_makes : makes g g (record { name = f; calls = g ∷ [] }) ≡ false
another_makes = refl

makes_another : makes f h (record { name = f; calls = g ∷ [] }) ≡ false
makes_another = refl

-- what is called at first, and what that leads to
found_first : IsFound (Makes cs) (f ∷ []) f
found_first = (f, refl, inl refl)

found_through : IsFound (Makes cs) (f ∷ []) h
found_through = (f, refl, inr (g ∷ [], (refl, refl)))

found_from_none : IsFound (Makes cs) [] f → ⊥
found_from_none (m, begins, found) = cc

found_by_none : IsFound (λ a b. ⊥) (f ∷ []) h → ⊥
found_by_none (m, begins, inl same) =
    let P : OpName → Type 0 = λ z. list_any (same_op z) (f ∷ []) ≡ true in
    let never : false ≡ true = subst P (sym (same_op-eq h m same)) begins in
    absurd (cc)
found_by_none (m, begins, inr ([], leads)) = leads
found_by_none (m, begins, inr (via ∷ path, leads)) = leads.0

-- a place that is marked, one that isn't, and none
marked : is_marked (false ∷ true ∷ []) (Some 1) ≡ true
marked = refl

not_marked : is_marked (false ∷ true ∷ []) (Some 0) ≡ false
not_marked = refl

none_marked : is_marked (true ∷ []) None ≡ false
none_marked = refl

-- h is called at a place that is marked, and not at another
led_to : is_led_to place (false ∷ true ∷ []) cs h ≡ true
led_to = refl

not_led_to : is_led_to place (true ∷ false ∷ []) cs h ≡ false
not_led_to = refl

-- the unit of the operation at a place
abbrev unit : Name → Option ℕ
unit n = op_place_from 0 (g ∷ f ∷ []) (record { object = n; op = 102 ∷ [] })

unit_there : unit_at unit cs (Some 0) ≡ Some 1
unit_there = refl

unit_of_none : unit_at unit cs None ≡ None
unit_of_none = refl

unit_past_the_last : unit_at unit cs (Some 2) ≡ None
unit_past_the_last = refl

-- the earlier of two places
earlier_one : earlier (Some 1) (Some 2) ≡ Some 1
earlier_one = refl

earlier_other : earlier (Some 2) (Some 1) ≡ Some 1
earlier_other = refl

earlier_alone : earlier (Some 2) None ≡ Some 2
earlier_alone = refl

earlier_other_alone : earlier None (Some 1) ≡ Some 1
earlier_other_alone = refl

earlier_of_none : earlier None None ≡ None
earlier_of_none = refl
