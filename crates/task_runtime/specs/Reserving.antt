-- How much room a body needs with all that its calls lead to: so many bodies one inside another, and so many slots.
-- It is read off linked code: the calls in a body are the instructions between its start and its end.
use Rattle.std.specs.Prelude.{◌≡◌, ℕ, zero, suc, ◌+◌, ◌-◌, ◌≤◌, ◌<◌, Bool, true, false, List, [], ◌∷◌, length, map, Option, Some, slice_get, ⊤}
use Rattle.law_flat_code.specs.Codes.{block_size}
use Rattle.linker.specs.Callees.{OpBody, body_of}
use Rattle.linker.specs.Programs.{op_part}
use Rattle.linker.specs.declared.code.Ins.{Ins}
use Rattle.linker.specs.declared.code.Ins.TheVariants as ins
use Rattle.linker.specs.declared.program.LinkedUnits.{LinkedUnits}
use Rattle.task_runtime.specs.Bodies.{Body, size_of}
use Rattle.task_runtime.specs.declared.piece.Frame.{Frame}
use Rattle.task_runtime.specs.declared.reserve.Room.{Room}

-- an instruction that is no last one of a body
abbrev pub IsInner : Ins → Type 0
IsInner ins.Return = ⊥
IsInner ins.Finish = ⊥
IsInner _ = ⊤

-- whether it is one
abbrev pub TellsEnd : Bool → Ins → Type 0
TellsEnd true i = IsInner i → ⊥
TellsEnd false i = IsInner i

-- where a body stands in code, how many instructions it has before its last one, and how many slots
pub record Extent : Type 0 where
  pub start : ℕ
  pub len : ℕ
  pub slots : ℕ

abbrev pub extent_of : OpBody → ℕ → Extent
extent_of b start = record { start = start; len = block_size b.op.block; slots = length (op_part b).names + 194 }

abbrev pub extent_in : Body → Extent
extent_in r = record { start = r.start; len = block_size r.block; slots = size_of r }

-- a body and all that its calls lead to do with so many bodies one inside another, and with so many slots
abbrev pub HasRoom : LinkedUnits → ℕ → ℕ → Extent → Type 0
HasRoom c zero slots e = ⊥
HasRoom c (suc bodies) slots e = (e.slots ≤ slots) × ((at place first outs : ℕ) (b : OpBody) (start : ℕ) → e.start ≤ at → at < e.start + e.len
    → slice_get c.code.ins.items at ≡ Some (ins.Call place first outs) → slice_get (map body_of c.ops.items) place ≡ Some b
    → slice_get c.starts.items place ≡ Some start → HasRoom c bodies (slots - e.slots) (extent_of b start))

-- the same of a body and of each body that is called inside it, by the calls that are under way
abbrev pub HaveRoom : LinkedUnits → ℕ → ℕ → Extent → List Frame → Type 0
HaveRoom c bodies slots e [] = HasRoom c bodies slots e
HaveRoom c zero slots e (f ∷ fs) = ⊥
HaveRoom c (suc bodies) slots e (f ∷ fs) = HasRoom c (suc bodies) slots e
    × HaveRoom c bodies (slots - f.away) (extent_of (body_of f.body) f.start) fs

-- the body of the operation at a place does with so much
abbrev pub OpFits : LinkedUnits → Room → ℕ → Type 0
OpFits c room place = (b : OpBody) (start : ℕ) → slice_get (map body_of c.ops.items) place ≡ Some b → slice_get c.starts.items place ≡ Some start
    → HasRoom c room.bodies room.slots (extent_of b start)

-- so does each that is called between two places of code
abbrev pub CallsFit : LinkedUnits → Room → ℕ → ℕ → Type 0
CallsFit c room from to = (at place first outs : ℕ) → from ≤ at → at < to → slice_get c.code.ins.items at ≡ Some (ins.Call place first outs)
    → OpFits c room place

-- so does each that is called from a place on, before the next last instruction of a body
abbrev pub InnersFit : LinkedUnits → Room → ℕ → Type 0
InnersFit c room from = (to : ℕ) → ((at : ℕ) (x : Ins) → from ≤ at → at < to → slice_get c.code.ins.items at ≡ Some x → IsInner x)
    → CallsFit c room from to

-- what is known of the room of operations, by their places
abbrev pub AreKnown : LinkedUnits → List (Option Room) → Type 0
AreKnown c rooms = (place : ℕ) (room : Room) → slice_get rooms place ≡ Some (Some room) → OpFits c room place

-- the greater of two in each number
pub record IsWithin (small great : Room) : Type 0 where
  pub bodies : small.bodies ≤ great.bodies
  pub slots : small.slots ≤ great.slots

-- the callee of an instruction, where it is a call, does with so much
abbrev pub CalleeFits : LinkedUnits → Room → Ins → Type 0
CalleeFits c room (ins.Call place first outs) = OpFits c room place
CalleeFits c room _ = ⊤

-- a body more, which has so many slots
abbrev pub IsRoomed : Room → ℕ → Room → Type 0
IsRoomed calls slots room = (room.bodies ≡ suc calls.bodies) × (room.slots ≡ calls.slots + slots)
