-- Examples: the lines of a trace. Each event has a line of its own words, with the names of the units and operations at its places.
use Rattle.std.specs.Prelude.{◌≡◌, true, [], ◌∷◌, ◌++◌, map, None, Some, codes, decimal, refl}
use Rattle.std.specs.List.{join_with_byte}
use Rattle.std.proofs.Common.{arith, lit≤}
use Rattle.seq_tree.specs.Operations.{Signature, Operation}
use Rattle.seq_tree.specs.Statements.{End}
use Rattle.seq_tree.specs.declared.tree.Mode.TheVariants.{In}
use Rattle.ods_tree.proofs.Shared.Short.{row_costs}
use Rattle.ada_tree.specs.Programs.{Program, Shared, Cyclic, Sporadic}
use Rattle.trace_tree.specs.declared.event.Event.TheVariants as event
use Rattle.trace_tree.specs.Lines.{line, lines, words, unit_name, unit_ops, op_name}
use Rattle.trace_tree.specs.Placed.{IsPlaced}

abbrev start : Signature
start = record { name = codes "start"; params = record { name = codes "v"; mode = In } ∷ [] }

abbrev put : Operation
put = record { sig = record { name = codes "put"; params = [] }; locals = []; block = End }

abbrev get : Operation
get = record { sig = record { name = codes "get"; params = [] }; locals = []; block = End }

-- a cyclic unit, a protected one with two operations, and a sporadic one
abbrev units : Program
units = record {
  name = codes "main";
  costs = row_costs;
  units = record { name = codes "a"; form = Cyclic 2 0 10 [] End } ∷ record { name = codes "q"; form = Shared 2 [] (put ∷ get ∷ []) }
      ∷ record { name = codes "s"; form = Sporadic 1 2 start 50 0 true [] End } ∷ [];
}

released : words units (event.Release 0 0 None) ≡ decimal 0 ∷ codes "release" ∷ codes "a" ∷ []
unfolding words unit_name
released = refl

released_with : words units (event.Release 12 2 (Some 7)) ≡ decimal 12 ∷ codes "release" ∷ codes "s" ∷ decimal 7 ∷ []
unfolding words unit_name
released_with = refl

arrived : words units (event.Arrive 3 2 (Some 7)) ≡ decimal 3 ∷ codes "arrive" ∷ codes "s" ∷ decimal 7 ∷ []
unfolding words unit_name
arrived = refl

arrived_without : words units (event.Arrive 3 2 None) ≡ decimal 3 ∷ codes "arrive" ∷ codes "s" ∷ []
unfolding words unit_name
arrived_without = refl

entered : words units (event.Enter 4 0 1 1 (5 ∷ 6 ∷ [])) ≡ decimal 4 ∷ codes "enter" ∷ codes "a" ∷ codes "q.get" ∷ decimal 5 ∷ decimal 6 ∷ []
unfolding words unit_name unit_ops op_name
entered = refl

left : words units (event.Leave 5 0 1 0 (8 ∷ [])) ≡ decimal 5 ∷ codes "leave" ∷ codes "a" ∷ codes "q.put" ∷ decimal 8 ∷ []
unfolding words unit_name unit_ops op_name
left = refl

-- the operation of a sporadic unit is that of its requests
entered_start : words units (event.Enter 4 0 2 0 []) ≡ decimal 4 ∷ codes "enter" ∷ codes "a" ∷ codes "s.start" ∷ []
unfolding words unit_name unit_ops op_name
entered_start = refl

requested : words units (event.Request 6 0 2 (Some 7)) ≡ decimal 6 ∷ codes "request" ∷ codes "a" ∷ codes "s" ∷ decimal 7 ∷ []
unfolding words unit_name
requested = refl

printed : words units (event.Print 6 2 7) ≡ decimal 6 ∷ codes "put" ∷ codes "s" ∷ decimal 7 ∷ []
unfolding words unit_name
printed = refl

ended : words units (event.End 9 0 5) ≡ decimal 9 ∷ codes "end" ∷ codes "a" ∷ codes "used" ∷ decimal 5 ∷ []
unfolding words unit_name
ended = refl

stopped : words units (event.Stop 9 0 1 3 2) ≡ decimal 9 ∷ codes "stop" ∷ codes "a" ∷ codes "q" ∷ codes "priority" ∷ decimal 3 ∷ codes "ceiling"
    ∷ decimal 2 ∷ []
unfolding words unit_name
stopped = refl

horizon : words units (event.Horizon 10) ≡ decimal 10 ∷ codes "horizon" ∷ []
unfolding words
horizon = refl

-- a line is its words with a space between them, and one line stands behind another
spaced : line units (event.Horizon 10) ≡ join_with_byte 32 (decimal 10 ∷ codes "horizon" ∷ []) ++ codes "\n"
unfolding line words
spaced = refl

told : lines units (event.End 9 0 5 ∷ event.Horizon 10 ∷ []) ≡ line units (event.End 9 0 5) ++ (line units (event.Horizon 10) ++ [])
told = refl

-- no unit stands at this place, and no such operation
nameless : map (unit_name units) (2 ∷ 3 ∷ []) ≡ codes "s" ∷ [] ∷ []
unfolding unit_name
nameless = refl

no_operation : op_name units 1 2 ≡ codes "q."
unfolding op_name unit_name unit_ops
no_operation = refl

-- places of the program, and one behind the last unit, and one behind the last operation
placed : IsPlaced units (event.Enter 4 0 1 1 [])
unfolding unit_ops
placed = (lit≤ tt, lit≤ tt, lit≤ tt)

other_task : IsPlaced units (event.Enter 4 3 1 1 []) → ⊥
other_task h = omega (arith, h.0)

other_unit : IsPlaced units (event.Enter 4 0 3 0 []) → ⊥
other_unit h = omega (arith, h.1)

other_operation : IsPlaced units (event.Leave 4 0 1 2 []) → ⊥
unfolding unit_ops
other_operation h = omega (arith, h.2)

other_target : IsPlaced units (event.Request 4 0 3 None) → ⊥
other_target h = omega (arith, h.1)
