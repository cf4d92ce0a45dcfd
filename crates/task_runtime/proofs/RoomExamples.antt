-- Examples: the room of bodies that call nothing and of one that calls another, calls that are under way, and the room that is known of operations.
use Rattle.std.proofs.Common.{◌≡◌, ◌≤◌, ◌<◌, ℕ, zero, suc, ◌+◌, ◌-◌, true, false, [], ◌∷◌, Some, None, length, map, refl, ap, sym, ◌∙◌, arith}
use Rattle.std.specs.Prelude.{slice_get}
use Rattle.linker.specs.Callees.{OpBody, body_of}
use Rattle.linker.specs.declared.code.Ins.TheVariants as ins
use Rattle.linker.specs.declared.program.LinkedUnits.{LinkedUnits}
use Rattle.task_runtime.specs.Framed.{AreThere, IsInnermost, there}
use Rattle.task_runtime.specs.Reserving.{AreKnown, CalleeFits, CallsFit, Extent, HasRoom, HaveRoom, IsRoomed, IsWithin, TellsEnd}
use Rattle.task_runtime.specs.Reserving.{extent_of}
use Rattle.task_runtime.specs.declared.piece.Frame.{Frame}
use Rattle.task_runtime.specs.declared.reserve.Room.{Room}

-- a body that calls nothing does with its own slots, and with no fewer; there is one body at least
bare_room : (c : LinkedUnits) (e : Extent)
    → ((at place first outs : ℕ) → slice_get c.code.ins.items at ≡ Some (ins.Call place first outs) → ⊥) → HasRoom c 1 e.slots e
bare_room c e none = (omega arith, λ at place first outs b start from to is there starts. absurd (none at place first outs is))

fewer_slots : (c : LinkedUnits) (bodies slots : ℕ) (e : Extent) → slots < e.slots → HasRoom c bodies slots e → ⊥
fewer_slots c zero slots e lt h = h
fewer_slots c (suc bodies) slots e lt h = let le = h.0 in omega (arith, lt, le)

no_body : (c : LinkedUnits) (slots : ℕ) (e : Extent) → HasRoom c 0 slots e → ⊥
no_body c slots e h = h

-- a body that calls another needs a body more, and the slots of both
module _ (c : LinkedUnits) (e : Extent) (b : OpBody) (at place first outs start : ℕ) (from : e.start ≤ at) (to : at < e.start + e.len)
    (is : slice_get c.code.ins.items at ≡ Some (ins.Call place first outs)) (there : slice_get (map body_of c.ops.items) place ≡ Some b)
    (starts : slice_get c.starts.items place ≡ Some start) where
  one_body : (slots : ℕ) → HasRoom c 1 slots e → ⊥
  one_body slots h = h.1 at place first outs b start from to is there starts

  slots_of_one : HasRoom c 2 e.slots e → ⊥
  slots_of_one h =
      fewer_slots c 1 (e.slots - e.slots) (extent_of b start) (omega arith) (h.1 at place first outs b start from to is there starts)

  -- the call fits where its operation does, and it does not where that has no room
  no_call_fits : CallsFit c (record { bodies = 0; slots = 9 }) e.start (e.start + e.len) → ⊥
  no_call_fits h = h at place first outs from to is b start there starts

  no_callee_fits : CalleeFits c (record { bodies = 0; slots = 9 }) (ins.Call place first outs) → ⊥
  no_callee_fits h = h b start there starts

  not_known : AreKnown c (Some (record { bodies = 0; slots = 9 }) ∷ []) → place ≡ 0 → ⊥
  not_known h first' = h 0 (record { bodies = 0; slots = 9 }) refl b start
      (ap (slice_get (map body_of c.ops.items)) (sym first') ∙ there) (ap (slice_get c.starts.items) (sym first') ∙ starts)

other_fits : (c : LinkedUnits) (room : Room) → CalleeFits c room ins.Null
other_fits c room = tt

nothing_known : (c : LinkedUnits) → AreKnown c (None ∷ [])
nothing_known c zero room is = absurd cc
nothing_known c (suc place) room is = absurd cc

no_calls : (c : LinkedUnits) (room : Room) (from : ℕ) → CallsFit c room from from
no_calls c room from = λ at place first outs lo hi is. absurd (omega (arith, lo, hi))

-- calls that are under way have room where each body has; one more than there are bodies has none
none_under_way : (c : LinkedUnits) (bodies slots : ℕ) (e : Extent) → HasRoom c bodies slots e → HaveRoom c bodies slots e []
none_under_way c bodies slots e h = h

too_many : (c : LinkedUnits) (slots : ℕ) (e : Extent) (f : Frame) → HaveRoom c 1 slots e (f ∷ []) → ⊥
too_many c slots e f h = h.1

-- the last instructions of bodies, and another one
return_ends : TellsEnd true ins.Return
return_ends = λ k. k

null_ends_none : TellsEnd false ins.Null
null_ends_none = tt

null_does_not : TellsEnd true ins.Null → ⊥
null_does_not h = h tt

-- rooms within others, and with a body more
within : IsWithin (record { bodies = 1; slots = 200 }) (record { bodies = 2; slots = 200 })
within = record { bodies = omega arith; slots = omega arith }

too_few_bodies : IsWithin (record { bodies = 2; slots = 200 }) (record { bodies = 1; slots = 400 }) → ⊥
too_few_bodies h = let le = h.bodies in omega (arith, le)

too_few_slots : IsWithin (record { bodies = 1; slots = 400 }) (record { bodies = 2; slots = 200 }) → ⊥
too_few_slots h = let le = h.slots in omega (arith, le)

one_more : IsRoomed (record { bodies = 1; slots = 200 }) 194 (record { bodies = 2; slots = 394 })
one_more = (refl, refl)

no_body_more : IsRoomed (record { bodies = 1; slots = 200 }) 194 (record { bodies = 1; slots = 394 }) → ⊥
no_body_more h = let e = h.0 in omega (arith, e)

no_slots_more : IsRoomed (record { bodies = 1; slots = 200 }) 194 (record { bodies = 2; slots = 200 }) → ⊥
no_slots_more h = let e = h.1 in omega (arith, e)

-- places that each hold a call, and one that holds none; the innermost of two
two_there : (f g : Frame) → AreThere (Some f ∷ Some g ∷ [])
two_there f g = tt

empty_place : (f : Frame) → AreThere (Some f ∷ None ∷ []) → ⊥
empty_place f h = h

both : (f g : Frame) → there (Some f ∷ Some g ∷ []) ≡ f ∷ g ∷ []
both f g = refl

inner_one : (f g : Frame) → IsInnermost (f ∷ g ∷ []) (Some g)
inner_one f g = (f ∷ [], refl)

some_innermost : (f : Frame) → IsInnermost (f ∷ []) None → ⊥
some_innermost f h = let e = ap length h in omega (arith, e)
