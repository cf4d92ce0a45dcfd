-- The stacks of a task with one call more, and what its body has left as it begins.
use Rattle.std.proofs.Common.{◌≡◌, ◌<◌, ℕ, ◌+◌, ◌-◌, true, List, [], ◌∷◌, ◌++◌, Some, length, ap, sym, subst, ◌∙◌, arith}
use Rattle.std.specs.Prelude.{drop, slice_get, take}
use Rattle.std.proofs.lemmas.List.{length-append, length-drop, length-take-le}
use Rattle.machine.specs.Pieces.{pieces}
use Rattle.law_flat_code.specs.Codes.{block_size}
use Rattle.law_flat_code.specs.Withins.{scope_within, within}
use Rattle.law_flat_code.proofs.Shared.Begins.{begins_within, scope_begins}
use Rattle.linker.specs.Slots.{vars_at}
use Rattle.linker.specs.Callees.{body_of}
use Rattle.linker.specs.Scopes.{slots_of}
use Rattle.linker.specs.Standing.{lists_of}
use Rattle.linker.specs.declared.code.Ins.TheVariants as ins
use Rattle.linker.specs.declared.program.LinkedUnits.{LinkedUnits}
use Rattle.task_runtime.specs.Written.{reserve, system_of}
use Rattle.task_runtime.specs.Bodies.{Body, first_body, left_at, running, size_of, turn_at, vars_here}
use Rattle.task_runtime.specs.Framed.{Framed}
use Rattle.task_runtime.specs.Lefts.{running_of}
use Rattle.task_runtime.specs.Reserving.{HaveRoom, extent_in}
use Rattle.task_runtime.specs.Settling.{IsAmid}
use Rattle.task_runtime.specs.Slotted.{Slotted}
use Rattle.task_runtime.specs.Sounds.{AreSound, IsStacked, slots_count}
use Rattle.task_runtime.specs.declared.piece.Frame.{Frame}
use Rattle.task_runtime.specs.declared.stack.Stack.{Stack}
use Rattle.task_runtime.proofs.Calls.{CallAt, began, inner, into_is, into_sound, is_call, long_here}
use Rattle.task_runtime.proofs.Reserves.{room_inside}
use Rattle.task_runtime.proofs.Stacks.{running_pushed, sound_pushed}

-- a body as it begins: its block is left, and its names are its variables
module _ (r : Body) (slots : List ℕ) where
  first_place : r.start - r.start ≡ 0
  first_place = omega arith

  pub begins_left : left_at r true r.start slots ≡ pieces r.block r.behind
  begins_left =
      ap (λ k. within r.block k true 0 (turn_at r.names slots) r.behind) first_place ∙ begins_within r.block true 0 (turn_at r.names slots) r.behind

  pub begins_vars : vars_here r true r.start slots ≡ vars_at (slots_of r.names) slots
  begins_vars =
      ap (λ k. vars_at (scope_within r.block k true (slots_of r.names)) slots) first_place
      ∙ ap (λ c. vars_at c slots) (scope_begins r.block true (slots_of r.names))

  pub begins_amid : IsAmid r.start r.block r.start
  begins_amid = record { from = omega arith; to = omega arith }

-- stacks whose slots are others, as many as before
module _ (c : LinkedUnits) (s : Stack) (h : IsStacked c s) (slots' : Slotted) (away : slots'.away ≡ s.slots.away)
    (long : length slots'.here ≡ length s.slots.here) where
  abbrev pub with_slots : Stack
  with_slots = record s { slots = slots' }

  same_count : slots_count s ≡ slots_count with_slots
  same_count = let e = ap length away in omega (arith, e, long)

  pub slots_running : running_of with_slots ≡ running_of s
  slots_running = ap (running (first_body s.thread s.start) s.frames.items) away

  pub slots_stacked : IsStacked c with_slots
  slots_stacked = record {
    linked = h.linked;
    works = h.works;
    sound = subst (AreSound (system_of s.thread) h.linked.leads (lists_of c.code) ins.Finish (reserve s.thread) (first_body s.thread s.start)
        s.frames.items) (sym away) h.sound;
    bodies = h.bodies;
    room = subst (λ n. HaveRoom c h.bodies n (extent_in (first_body s.thread s.start)) s.frames.items) same_count h.room;
    frames_room = h.frames_room;
    small = (let e = same_count in let lt = h.small in omega (arith, e, lt));
  }

-- stacks with one call more
module _ (c : LinkedUnits) (s : Stack) (h : IsStacked c s) (at place first outs : ℕ) (amid : IsAmid (running_of s).start (running_of s).block at)
    (is : slice_get (lists_of c.code).ins at ≡ Some (ins.Call place first outs)) (f : Frame) (k : CallAt c s h at place first outs)
    (same_body : body_of f.body ≡ k.body) (same_start : f.start ≡ k.start) (same_at : f.at ≡ at) (same_size : f.away ≡ size_of (running_of s))
    (slots' : Slotted) (frames' : Framed) (away : slots'.away ≡ s.slots.away ++ take f.away s.slots.here)
    (long : length slots'.here ≡ length (drop f.away s.slots.here)) (items : frames'.items ≡ s.frames.items ++ f ∷ [])
    (room : frames'.room ≡ s.frames.room) where
  abbrev pub with_call : Stack
  with_call = record s { slots = slots'; frames = frames' }

  abbrev r : Body
  r = running_of s

  before_end : at < r.start + block_size r.block
  before_end =
      let lt = inner c s h at (ins.Call place first outs) amid is tt in
      let from = amid.from in
      omega (arith, lt, from)

  call_count : slots_count s ≡ slots_count with_call
  call_count =
      let le = long_here c s h in
      let e = ap length away in
      let f' = length-append s.slots.away (take f.away s.slots.here) in
      let g = length-take-le f.away s.slots.here (omega (arith, le, same_size)) in
      let d = length-drop f.away s.slots.here in
      omega (arith, e, f', g, d, long, le, same_size)

  pub call_running : running_of with_call ≡ began c s h at place first outs amid is f k same_body same_start same_at same_size
  call_running =
      ap (λ fs. running (first_body s.thread s.start) fs slots'.away) items
      ∙ ap (running (first_body s.thread s.start) (s.frames.items ++ f ∷ [])) away
      ∙ running_pushed (system_of s.thread) h.linked.leads (lists_of c.code) ins.Finish (reserve s.thread)
      (first_body s.thread s.start) s.frames.items f
      s.slots.away (take f.away s.slots.here) h.sound
      (length-take-le f.away s.slots.here (let le = long_here c s h in omega (arith, le, same_size)))
      ∙ into_is c s h at place first outs amid is f k same_body same_start same_at same_size

  call_sound : AreSound (system_of s.thread) h.linked.leads (lists_of c.code) ins.Finish (reserve s.thread) (first_body s.thread s.start)
      (s.frames.items ++ f ∷ []) (s.slots.away ++ take f.away s.slots.here)
  call_sound =
      sound_pushed (system_of s.thread) h.linked.leads (lists_of c.code) ins.Finish (reserve s.thread) (first_body s.thread s.start) s.frames.items f
      s.slots.away (take f.away s.slots.here) h.sound (is_call c s h at place first outs amid is f k same_body same_start same_at same_size)
      (into_sound c s h at place first outs amid is f k same_body same_start same_at same_size)

  pub call_stacked : IsStacked c with_call
  call_stacked = record {
    linked = h.linked;
    works = h.works;
    sound = subst (λ fs. AreSound (system_of s.thread) h.linked.leads (lists_of c.code) ins.Finish (reserve s.thread)
        (first_body s.thread s.start) fs slots'.away) (sym items)
        (subst (AreSound (system_of s.thread) h.linked.leads (lists_of c.code) ins.Finish (reserve s.thread) (first_body s.thread s.start)
        (s.frames.items ++ f ∷ [])) (sym away) call_sound);
    bodies = h.bodies;
    room = subst (HaveRoom c h.bodies (slots_count with_call) (extent_in (first_body s.thread s.start))) (sym items)
        (subst (λ n. HaveRoom c h.bodies n (extent_in (first_body s.thread s.start)) (s.frames.items ++ f ∷ [])) call_count
        (room_inside c s h at place first outs k.body k.start amid.from before_end is k.there k.starts f same_body same_start same_size));
    frames_room = (let le = h.frames_room in omega (arith, le, room));
    small = (let e = call_count in let lt = h.small in omega (arith, e, lt));
  }
