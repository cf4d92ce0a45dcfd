-- Examples: which events a line can hold: numbers at the ends of their types, eight values and nine, and places of a program.
use Rattle.std.specs.Prelude.{◌≡◌, ℕ, [], ◌∷◌, length, Some, None, codes, refl}
use Rattle.std.proofs.Common.{arith}
use Rattle.seq_tree.specs.Statements.{Then, End, Null}
use Rattle.seq_tree.specs.declared.tree.Costs.{Costs}
use Rattle.seq_tree.specs.Operations.{Operation}
use Rattle.ada_tree.specs.Programs.{Program, Shared, Cyclic}
use Rattle.trace_tree.specs.declared.event.Event.TheVariants.{Release, Arrive, Enter, Leave, Request, Print, Stop, Horizon}
use Rattle.trace_tree.specs.declared.event.Event.TheVariants as event
use Rattle.trace_tree.specs.Lines.{unit_ops}
use Rattle.law_traces.specs.Told.{IsTicks, IsWord, IsWordWhere, AreWords, HasItsNumbers, IsEvent}

-- NUMBERS AT THEIR ENDS
greatest_ticks : IsTicks 18446744073709551615
greatest_ticks = omega arith

more_ticks : IsTicks 18446744073709551616 → ⊥
more_ticks h = omega (arith, h)

greatest_word : IsWord 4294967295
greatest_word = omega arith

more_than_a_word : IsWord 4294967296 → ⊥
more_than_a_word h = omega (arith, h)

no_value : IsWordWhere None
no_value = tt

large_value : IsWordWhere (Some 4294967296) → ⊥
large_value h = omega (arith, h)

eight : AreWords (1 ∷ 2 ∷ 3 ∷ 4 ∷ 5 ∷ 6 ∷ 7 ∷ 4294967295 ∷ [])
eight = (omega arith, (omega arith, (omega arith, (omega arith, (omega arith, (omega arith, (omega arith, (omega arith, (omega arith, tt)))))))))

nine : AreWords (1 ∷ 2 ∷ 3 ∷ 4 ∷ 5 ∷ 6 ∷ 7 ∷ 8 ∷ 9 ∷ []) → ⊥
nine h = omega (arith, h.0)

second_is_none : AreWords (1 ∷ 4294967296 ∷ []) → ⊥
second_is_none h = omega (arith, h.1.1.0)

-- BY EVENTS
last_tick : HasItsNumbers (Horizon 18446744073709551615)
last_tick = omega arith

behind_it : HasItsNumbers (Horizon 18446744073709551616) → ⊥
behind_it h = omega (arith, h)

module _ (task unit op : ℕ) where
  release : HasItsNumbers (Release 0 task (Some 4294967295))
  release = (omega arith, omega arith)

  late_release : HasItsNumbers (Release 18446744073709551616 task None) → ⊥
  late_release h = omega (arith, h.0)

  large_release : HasItsNumbers (Release 0 task (Some 4294967296)) → ⊥
  large_release h = omega (arith, h.1)

  large_arrival : HasItsNumbers (Arrive 0 task (Some 4294967296)) → ⊥
  large_arrival h = omega (arith, h.1)

  large_request : HasItsNumbers (Request 0 task unit (Some 4294967296)) → ⊥
  large_request h = omega (arith, h.1)

  large_print : HasItsNumbers (Print 0 task 4294967296) → ⊥
  large_print h = omega (arith, h.1)

  late_end : HasItsNumbers (event.End 0 task 18446744073709551616) → ⊥
  late_end h = omega (arith, h.1)

  end_used : HasItsNumbers (event.End 0 task 4294967296)
  end_used = (omega arith, omega arith)

  nine_into : HasItsNumbers (Enter 0 task unit op (1 ∷ 2 ∷ 3 ∷ 4 ∷ 5 ∷ 6 ∷ 7 ∷ 8 ∷ 9 ∷ [])) → ⊥
  nine_into h = omega (arith, h.1.0)

  nine_out : HasItsNumbers (Leave 0 task unit op (1 ∷ 2 ∷ 3 ∷ 4 ∷ 5 ∷ 6 ∷ 7 ∷ 8 ∷ 9 ∷ [])) → ⊥
  nine_out h = omega (arith, h.1.0)

  high_priority : HasItsNumbers (Stop 0 task unit 4294967296 1) → ⊥
  high_priority h = omega (arith, h.1)

  high_ceiling : HasItsNumbers (Stop 0 task unit 1 4294967296) → ⊥
  high_ceiling h = omega (arith, h.2)

-- PLACES OF A PROGRAM
abbrev costs : Costs
costs = record { assign = 1; test = 1; turn = 1; call = 2; nothing = 1; put = 1; finish = 1 }

abbrev setting : Operation
setting = record { sig = record { name = codes "set"; params = [] }; locals = []; block = Then Null End }

-- an object of one operation, and a task
abbrev two : Program
two = record {
  name = codes "d";
  costs = costs;
  units = record { name = codes "q"; form = Shared 1 [] (setting ∷ []) } ∷ record { name = codes "a"; form = Cyclic 1 0 10 [] (Then Null End) } ∷ [];
}

one_operation : length (unit_ops two 0) ≡ 1
unfolding unit_ops
one_operation = refl

enters : IsEvent two (Enter 2 1 0 0 [])
enters = ((omega arith, omega arith, omega (arith, one_operation)), (omega arith, (omega arith, tt)))

no_such_task : IsEvent two (Enter 2 2 0 0 []) → ⊥
no_such_task h = omega (arith, h.0.0)

no_such_unit : IsEvent two (Enter 2 1 2 0 []) → ⊥
no_such_unit h = omega (arith, h.0.1)

no_such_operation : IsEvent two (Enter 2 1 0 1 []) → ⊥
no_such_operation h = omega (arith, h.0.2, one_operation)

no_such_value : IsEvent two (Enter 2 1 0 0 (4294967296 ∷ [])) → ⊥
no_such_value h = omega (arith, h.1.1.1.0)

released_nowhere : IsEvent two (Release 0 2 None) → ⊥
released_nowhere h = omega (arith, h.0)

-- the horizon has no place
horizon : IsEvent two (Horizon 10)
horizon = (tt, omega arith)
