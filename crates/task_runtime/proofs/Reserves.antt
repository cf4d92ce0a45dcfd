-- Room for bodies that run one inside another: what the first one has is enough for each, and a call takes its part of it.
use Rattle.std.proofs.Common.{◌≡◌, ◌≤◌, ◌<◌, ℕ, zero, suc, ◌+◌, ◌-◌, List, [], ◌∷◌, ◌++◌, Some, length, map, refl, sym, subst}
use Rattle.std.proofs.Common.{◌^◌, arith}
use Rattle.std.specs.Prelude.{slice_get, take, drop}
use Rattle.linker.specs.Callees.{OpBody, body_of}
use Rattle.linker.specs.Standing.{lists_of}
use Rattle.linker.specs.declared.code.Ins.TheVariants as ins
use Rattle.linker.specs.declared.program.LinkedUnits.{LinkedUnits}
use Rattle.task_runtime.specs.Written.{reserve, system_of}
use Rattle.task_runtime.specs.Bodies.{Body, first_body, into, running, size_of}
use Rattle.task_runtime.specs.Lefts.{running_of}
use Rattle.task_runtime.specs.Reserving.{Extent, HasRoom, HaveRoom, extent_in, extent_of}
use Rattle.task_runtime.specs.Sounds.{IsStacked, slots_count}
use Rattle.task_runtime.specs.declared.piece.Frame.{Frame}
use Rattle.task_runtime.specs.declared.stack.Stack.{Stack}
use Rattle.task_runtime.proofs.Stacks.{room_away, room_by}

-- the innermost of some bodies
abbrev pub inner_by : Extent → List Frame → Extent
inner_by e [] = e
inner_by e (f ∷ fs) = inner_by (extent_of (body_of f.body) f.start) fs

running_extent : (r : Body) (fs : List Frame) (away : List ℕ) → extent_in (running r fs away) ≡ inner_by (extent_in r) fs
running_extent r [] away = refl
running_extent r (f ∷ fs) away = running_extent (into r f (take f.away away)) fs (drop f.away away)

module _ (c : LinkedUnits) where
  -- a body has its slots
  pub own_room : (bodies slots : ℕ) (e : Extent) → HasRoom c bodies slots e → e.slots ≤ slots
  own_room zero slots e h = absurd h
  own_room (suc bodies) slots e h = h.0

  -- and there is one at least
  pub some_body : (bodies slots : ℕ) (e : Extent) → HasRoom c bodies slots e → 0 < bodies
  some_body zero slots e h = absurd h
  some_body (suc bodies) slots e h = omega arith

  -- more is enough, too
  pub more_room : (bodies bodies' slots slots' : ℕ) (e : Extent) → HasRoom c bodies slots e → bodies ≤ bodies' → slots ≤ slots'
      → HasRoom c bodies' slots' e
  more_room zero bodies' slots slots' e h m n = absurd h
  more_room (suc bodies) zero slots slots' e h m n = absurd (omega (arith, m))
  more_room (suc bodies) (suc bodies') slots slots' e h m n =
      let le = h.0 in (
        omega (arith, le, n),
        λ at place first outs b start from to is there starts.
            more_room bodies bodies' (slots - e.slots) (slots' - e.slots) (extent_of b start)
            (h.1 at place first outs b start from to is there starts) (omega (arith, m)) (omega (arith, n)),
      )

  -- what is left of the room for the innermost body
  pub record RoomLeft (bodies slots : ℕ) (e : Extent) (fs : List Frame) : Type 0 where
    pub left : ℕ
    pub count : left + length fs ≡ bodies
    pub room : HasRoom c left (room_by slots fs) (inner_by e fs)

  pub room_left : (bodies slots : ℕ) (e : Extent) (fs : List Frame) → HaveRoom c bodies slots e fs → RoomLeft bodies slots e fs
  room_left bodies slots e [] h = record { left = bodies; count = omega arith; room = h }
  room_left zero slots e (f ∷ fs) h = absurd h
  room_left (suc bodies) slots e (f ∷ fs) h =
      let k = room_left bodies (slots - f.away) (extent_of (body_of f.body) f.start) fs h.1 in
      record { left = k.left; count = (let n = k.count in omega (arith, n)); room = k.room }

  -- a call more
  pub room_called : (bodies slots : ℕ) (e : Extent) (fs : List Frame) (f : Frame) (left : ℕ) → HaveRoom c bodies slots e fs
      → suc (left + length fs) ≡ bodies → HasRoom c left (room_by slots fs - f.away) (extent_of (body_of f.body) f.start)
      → HaveRoom c bodies slots e (fs ++ f ∷ [])
  room_called zero slots e fs f left h n r = absurd (omega (arith, n))
  room_called (suc bodies) slots e [] f left h n r =
      let same : left ≡ bodies = omega (arith, n) in
      (h, subst (λ k. HasRoom c k (slots - f.away) (extent_of (body_of f.body) f.start)) same r)
  room_called (suc bodies) slots e (g ∷ fs) f left h n r =
      (h.0, room_called bodies (slots - g.away) (extent_of (body_of g.body) g.start) fs f left h.1 (omega (arith, n)) r)

  -- a call less
  pub room_back : (bodies slots : ℕ) (e : Extent) (fs : List Frame) (f : Frame) → HaveRoom c bodies slots e (fs ++ f ∷ [])
      → HaveRoom c bodies slots e fs
  room_back zero slots e [] f h = absurd h
  room_back zero slots e (g ∷ fs) f h = absurd h
  room_back (suc bodies) slots e [] f h = h.0
  room_back (suc bodies) slots e (g ∷ fs) f h =
      (h.0, room_back bodies (slots - g.away) (extent_of (body_of g.body) g.start) fs f h.1)

  -- the callee of an instruction of a body
  pub inner_room : (bodies slots : ℕ) (e : Extent) → HasRoom c bodies slots e → (at place first outs : ℕ) (b : OpBody) (start : ℕ)
      → e.start ≤ at → at < e.start + e.len → slice_get c.code.ins.items at ≡ Some (ins.Call place first outs)
      → slice_get (map body_of c.ops.items) place ≡ Some b → slice_get c.starts.items place ≡ Some start
      → (left : ℕ) × (suc left ≡ bodies) × HasRoom c left (slots - e.slots) (extent_of b start)
  inner_room zero slots e h at place first outs b start from to is there starts = absurd h
  inner_room (suc bodies) slots e h at place first outs b start from to is there starts =
      (bodies, refl, h.1 at place first outs b start from to is there starts)

module _ (c : LinkedUnits) (s : Stack) (h : IsStacked c s) where
  abbrev first : Extent
  first = extent_in (first_body s.thread s.start)

  abbrev k : RoomLeft c h.bodies (slots_count s) first s.frames.items
  k = room_left c h.bodies (slots_count s) first s.frames.items h.room

  slots_left : room_by (slots_count s) s.frames.items ≡ length s.slots.here
  slots_left =
      let e = room_away (system_of s.thread) h.linked.leads (lists_of c.code) (slots_count s) ins.Finish (reserve s.thread)
      (first_body s.thread s.start) s.frames.items s.slots.away h.sound in
      omega (arith, e)

  -- of the body that runs
  pub room_running : HasRoom c k.left (length s.slots.here) (extent_in (running_of s))
  room_running =
      subst (HasRoom c k.left (length s.slots.here)) (sym (running_extent (first_body s.thread s.start) s.frames.items s.slots.away))
      (subst (λ n. HasRoom c k.left n (inner_by first s.frames.items)) slots_left k.room)

  pub own_slots : size_of (running_of s) ≤ length s.slots.here
  own_slots = own_room c k.left (length s.slots.here) (extent_in (running_of s)) room_running

  pub few_slots : size_of (running_of s) < 2 ^ 63
  few_slots = let le = own_slots in let lt = h.small in omega (arith, le, lt)

  -- there is room for a call more
  pub frame_fits : length s.frames.items < s.frames.room
  frame_fits =
      let some = some_body c k.left (length s.slots.here) (extent_in (running_of s)) room_running in
      let count = k.count in
      let le = h.frames_room in
      omega (arith, some, count, le)

  -- a call at a place of the body that runs
  module _ (at place first' outs : ℕ) (b : OpBody) (start : ℕ) (from : (running_of s).start ≤ at)
      (to : at < (extent_in (running_of s)).start + (extent_in (running_of s)).len)
      (is : slice_get c.code.ins.items at ≡ Some (ins.Call place first' outs)) (there : slice_get (map body_of c.ops.items) place ≡ Some b)
      (starts : slice_get c.starts.items place ≡ Some start) where
    abbrev callee : (left : ℕ) × (suc left ≡ k.left) × HasRoom c left (length s.slots.here - size_of (running_of s)) (extent_of b start)
    callee = inner_room c k.left (length s.slots.here) (extent_in (running_of s)) room_running at place first' outs b start from to is there starts

    pub callee_slots : size_of (running_of s) + (extent_of b start).slots ≤ length s.slots.here
    callee_slots =
        let own = own_slots in
        let le = own_room c callee.0 (length s.slots.here - size_of (running_of s)) (extent_of b start) callee.2 in
        omega (arith, own, le)

    pub room_inside : (f : Frame) → body_of f.body ≡ b → f.start ≡ start → f.away ≡ size_of (running_of s)
        → HaveRoom c h.bodies (slots_count s) first (s.frames.items ++ f ∷ [])
    room_inside f same_body same_start same_size =
        let left = slots_left in
        let e : length s.slots.here - size_of (running_of s) ≡ room_by (slots_count s) s.frames.items - f.away = omega (arith, left, same_size) in
        room_called c h.bodies (slots_count s) first s.frames.items f callee.0 h.room
        (let a = callee.1 in let n = k.count in omega (arith, a, n))
        (subst (λ n. HasRoom c callee.0 n (extent_of (body_of f.body) f.start)) e
        (subst (λ n. HasRoom c callee.0 (length s.slots.here - size_of (running_of s)) (extent_of (body_of f.body) n)) (sym same_start)
        (subst (λ d. HasRoom c callee.0 (length s.slots.here - size_of (running_of s)) (extent_of d start)) (sym same_body) callee.2)))
