-- The end of a body: the innermost call is taken off, and its caller goes on behind it.
use Rattle.std.proofs.Common.{◌≡◌, ◌⊎◌, inl, inr, ◌<◌, ◌≤◌, ℕ, ◌+◌, ◌-◌, true, List, [], ◌∷◌, ◌++◌, Some, length, ap, sym, subst, ◌∙◌, arith}
use Rattle.std.specs.Prelude.{drop, slice_get, take}
use Rattle.std.proofs.lemmas.List.{length-append}
use Rattle.std.proofs.lemmas.Option.{same_Some}
use Rattle.std.proofs.Math.Seq.{drop-append_seam, take-append_seam}
use Rattle.seq_tree.specs.Names.{Name}
use Rattle.seq_tree.specs.Expressions.{Expression}
use Rattle.machine.specs.Pieces.{Piece, Calling}
use Rattle.machine.specs.Systems.{System, CallTarget, Plain, Protected, Unknown, callee}
use Rattle.machine.specs.Systems as to
use Rattle.law_flat_code.specs.Codes.{block_size}
use Rattle.law_flat_code.specs.Withins.{scope_within, within}
use Rattle.law_flat_code.proofs.Shared.Ends.{block_ends, scope_ends}
use Rattle.linker.specs.Slots.{vars_at}
use Rattle.linker.specs.Callees.{OpBody, body_of}
use Rattle.linker.specs.Scopes.{slots_of}
use Rattle.linker.specs.Standing.{Lists, lists_of}
use Rattle.linker.specs.declared.code.Ins.TheVariants as ins
use Rattle.linker.specs.declared.program.LinkedUnits.{LinkedUnits}
use Rattle.task_runtime.specs.Written.{reserve, system_of}
use Rattle.task_runtime.specs.Bodies.{Body, behind_call, ended, first_body, into, left_at, running, size_of, turn_at, vars_here}
use Rattle.task_runtime.specs.Framed.{Framed}
use Rattle.task_runtime.specs.Reserving.{HaveRoom, extent_in}
use Rattle.task_runtime.specs.Lefts.{running_of}
use Rattle.task_runtime.specs.Settling.{IsAmid}
use Rattle.task_runtime.specs.Slotted.{Slotted}
use Rattle.task_runtime.specs.Sounds.{AreSound, IsBodyOf, IsCall, IsSound, IsStacked, slots_count}
use Rattle.task_runtime.specs.declared.piece.Frame.{Frame}
use Rattle.task_runtime.specs.declared.stack.Stack.{Stack}
use Rattle.task_runtime.proofs.Arrivals.{sound_running}
use Rattle.task_runtime.proofs.Belows.{joined_same, left_below, vars_below}
use Rattle.task_runtime.proofs.Calls.{CallAt, call_at, long_here}
use Rattle.task_runtime.proofs.Orders.{order}
use Rattle.task_runtime.proofs.Reserves.{room_back}
use Rattle.task_runtime.proofs.Stacks.{Popped, last_by, room_by, running_pushed, sound_popped}
use Rattle.task_runtime.proofs.Steps.{as_there}

-- one operation to which a call leads
one_body : (k : CallTarget) (b d : OpBody) → IsBodyOf k b → IsBodyOf k d → b ≡ d
one_body (Plain o) b d h i = h ∙ sym i
one_body (Protected object op g o) b d h i = h ∙ sym i
one_body (to.Request task) b d h i = absurd h
one_body Unknown b d h i = absurd h

calling_parts : (unit op unit' op' : Name) (as' bs : List Expression) (ps qs : List Piece) → Calling unit op as' ∷ ps ≡ Calling unit' op' bs ∷ qs
    → (unit ≡ unit') × (op ≡ op') × (as' ≡ bs) × (ps ≡ qs)
calling_parts unit op unit' op' as' bs ps qs h = (cc, cc, cc, cc)

no_last : ins.Finish ≡ ins.Return → ⊥
no_last h = cc

-- the last instruction of a body
module _ (c : LinkedUnits) (s : Stack) (h : IsStacked c s) (at : ℕ) (amid : IsAmid (running_of s).start (running_of s).block at)
    (is : slice_get (lists_of c.code).ins at ≡ Some ins.Return) where
  abbrev r : Body
  r = running_of s

  pub at_end : at - r.start ≡ block_size r.block
  at_end = by (order (at - r.start) (block_size r.block))
    where
      by : (at - r.start < block_size r.block) ⊎ (block_size r.block ≤ at - r.start) → at - r.start ≡ block_size r.block
      by (inl lt) = absurd (as_there (system_of s.thread) h.linked.leads (lists_of c.code) (last_by ins.Finish s.frames.items)
          (room_by (reserve s.thread) s.frames.items) r (sound_running c s h) s.slots.here (long_here c s h) at amid.from true lt ins.Return is)
      by (inr ge) = let le = amid.to in omega (arith, ge, le)

  pub end_left : left_at r true at s.slots.here ≡ r.behind
  end_left =
      ap (λ k. within r.block k true 0 (turn_at r.names s.slots.here) r.behind) at_end
      ∙ block_ends r.block true 0 (turn_at r.names s.slots.here) r.behind

  pub end_vars : vars_here r true at s.slots.here ≡ vars_at (slots_of r.names) s.slots.here
  end_vars =
      ap (λ k. vars_at (scope_within r.block k true (slots_of r.names)) s.slots.here) at_end
      ∙ ap (λ k. vars_at k s.slots.here) (scope_ends r.block true (slots_of r.names))

  pub some_call : s.frames.items ≡ [] → ⊥
  some_call none =
      let from = amid.from in
      let e = at_end in
      let end : r.start + block_size r.block ≡ at = omega (arith, from, e) in
      let last = same_Some (last_by ins.Finish s.frames.items) ins.Return
      (sym (sound_running c s h).ends ∙ ap (slice_get (lists_of c.code).ins) end ∙ is) in
      no_last (sym (ap (last_by ins.Finish) none) ∙ last)

-- parts of joined lists
module _ (xs ys zs : List ℕ) (n : ℕ) (whole : zs ≡ xs ++ ys) (long : length ys ≡ n) where
  before_long : length zs - n ≡ length xs
  before_long = let e = ap length whole in let f = length-append xs ys in omega (arith, e, f, long)

  pub first_part : take (length zs - n) zs ≡ xs
  first_part = ap (λ k. take k zs) before_long ∙ ap (take (length xs)) whole ∙ take-append_seam xs ys

  pub last_part : drop (length zs - n) zs ≡ ys
  last_part = ap (λ k. drop k zs) before_long ∙ ap (drop (length xs)) whole ∙ drop-append_seam xs ys

-- the innermost call taken off
module _ (c : LinkedUnits) (s : Stack) (h : IsStacked c s) (fs : List Frame) (f : Frame) (items : s.frames.items ≡ fs ++ f ∷ []) where
  abbrev y : System
  y = system_of s.thread

  abbrev t : Lists
  t = lists_of c.code

  abbrev first : Body
  first = first_body s.thread s.start

  pub popped : Popped y h.linked.leads t ins.Finish (reserve s.thread) first fs f s.slots.away
  popped =
      sound_popped y h.linked.leads t ins.Finish (reserve s.thread) first fs f s.slots.away
      (subst (λ gs. AreSound y h.linked.leads t ins.Finish (reserve s.thread) first gs s.slots.away) items h.sound)

  pub away_fits : f.away ≤ length s.slots.away
  away_fits =
      let e = ap length popped.parts in
      let g = length-append popped.before popped.slots in
      let l = popped.call.long in
      omega (arith, e, g, l)

  module _ (slots' : Slotted) (frames' : Framed) (away : slots'.away ≡ take (length s.slots.away - f.away) s.slots.away)
      (here : slots'.here ≡ drop (length s.slots.away - f.away) s.slots.away ++ s.slots.here) (left : frames'.items ≡ fs)
      (room : frames'.room ≡ s.frames.room) where
    abbrev pub without_call : Stack
    without_call = record s { slots = slots'; frames = frames' }

    back_away : slots'.away ≡ popped.before
    back_away = away ∙ first_part popped.before popped.slots s.slots.away f.away popped.parts popped.call.long

    back_here : slots'.here ≡ popped.slots ++ s.slots.here
    back_here = here ∙ ap (λ z. z ++ s.slots.here) (last_part popped.before popped.slots s.slots.away f.away popped.parts popped.call.long)

    back_count : slots_count s ≡ slots_count without_call
    back_count =
        let a = ap length back_away in
        let b = ap length back_here in
        let d = length-append popped.slots s.slots.here in
        let e = ap length popped.parts in
        let g = length-append popped.before popped.slots in
        omega (arith, a, b, d, e, g)

    pub back_stacked : IsStacked c without_call
    back_stacked = record {
      linked = h.linked;
      works = h.works;
      sound = subst (λ gs. AreSound y h.linked.leads t ins.Finish (reserve s.thread) first gs slots'.away) (sym left)
          (subst (AreSound y h.linked.leads t ins.Finish (reserve s.thread) first fs) (sym back_away) popped.sound);
      bodies = h.bodies;
      room = subst (λ n. HaveRoom c h.bodies n (extent_in first) frames'.items) back_count
          (subst (HaveRoom c h.bodies (slots_count s) (extent_in first)) (sym left)
          (room_back c h.bodies (slots_count s) (extent_in first) fs f
          (subst (HaveRoom c h.bodies (slots_count s) (extent_in first)) items h.room)));
      frames_room = (let le = h.frames_room in omega (arith, le, room));
      small = (let e = back_count in let lt = h.small in omega (arith, e, lt));
    }

    abbrev pub caller : Body
    caller = running_of without_call

    back_running : caller ≡ running first fs popped.before
    back_running = ap (λ gs. running first gs slots'.away) left ∙ ap (running first fs) back_away

    pub its_call : IsCall y t caller f popped.slots
    its_call = subst (λ b. IsCall y t b f popped.slots) (sym back_running) popped.call

    pub call_amid : IsAmid caller.start caller.block f.at
    call_amid = record { from = its_call.from; to = (let lt = its_call.to in omega (arith, lt)) }

    pub caller_call : CallAt c without_call back_stacked f.at its_call.place its_call.first its_call.outs
    caller_call = call_at c without_call back_stacked f.at its_call.place its_call.first its_call.outs call_amid its_call.call_is

    sound_caller : IsSound y back_stacked.linked.leads t (last_by ins.Finish frames'.items) (room_by (reserve s.thread) frames'.items) caller
    sound_caller = sound_running c without_call back_stacked

    long_call : size_of caller ≤ length popped.slots
    long_call = let e = its_call.size in let l = its_call.long in omega (arith, e, l)

    -- what the caller has left from the call on, over its slots alone and with the others behind them
    joined_left : left_at caller true f.at slots'.here ≡ left_at caller true f.at popped.slots
    joined_left =
        ap (left_at caller true f.at) back_here
        ∙ left_below y back_stacked.linked.leads t (last_by ins.Finish frames'.items) (room_by (reserve s.thread) frames'.items) caller sound_caller
        popped.slots (popped.slots ++ s.slots.here) long_call
        (λ j lt. joined_same popped.slots s.slots.here j (omega (arith, lt, long_call))) f.at call_amid

    joined_vars : vars_here caller true f.at slots'.here ≡ vars_here caller true f.at popped.slots
    joined_vars =
        ap (vars_here caller true f.at) back_here
        ∙ vars_below y back_stacked.linked.leads t (last_by ins.Finish frames'.items) (room_by (reserve s.thread) frames'.items) caller sound_caller
        popped.slots (popped.slots ++ s.slots.here) long_call
        (λ j lt. joined_same popped.slots s.slots.here j (omega (arith, lt, long_call))) f.at call_amid

    same_call : (its_call.unit ≡ caller_call.unit) × (its_call.op ≡ caller_call.op) × (its_call.actuals ≡ caller_call.actuals)
        × (its_call.rest ≡ left_at caller true (f.at + 1) slots'.here)
    same_call =
        calling_parts its_call.unit its_call.op caller_call.unit caller_call.op its_call.actuals caller_call.actuals its_call.rest
        (left_at caller true (f.at + 1) slots'.here) (sym its_call.calls ∙ sym joined_left ∙ caller_call.calls)

    pub same_op : body_of f.body ≡ caller_call.body
    same_op =
        one_body (callee y caller_call.unit caller_call.op) (body_of f.body) caller_call.body
        (subst (λ n. IsBodyOf (callee y n caller_call.op) (body_of f.body)) same_call.0
        (subst (λ n. IsBodyOf (callee y its_call.unit n) (body_of f.body)) same_call.1 its_call.body)) caller_call.is_body

    -- the body that has ended is the one of that call
    pub ended_is : running_of s ≡ into caller f popped.slots
    ended_is =
        ap (λ gs. running first gs s.slots.away) items ∙ ap (running first (fs ++ f ∷ [])) popped.parts
        ∙ running_pushed y h.linked.leads t ins.Finish (reserve s.thread) first fs f popped.before popped.slots popped.sound popped.call.long
        ∙ ap (λ b. into b f popped.slots) (sym back_running)

    pub behind_is : (running_of s).behind
        ≡ ended caller_call.body caller_call.actuals (vars_here caller true f.at slots'.here) ∷ left_at caller true (f.at + 1) slots'.here
    behind_is =
        ap (λ b. b.behind) ended_is
        ∙ ap (behind_call (body_of f.body) (vars_here caller true f.at popped.slots)) (sym joined_left ∙ caller_call.calls)
        ∙ ap (λ b. ended b caller_call.actuals (vars_here caller true f.at popped.slots) ∷ left_at caller true (f.at + 1) slots'.here) same_op
        ∙ ap (λ vs. ended caller_call.body caller_call.actuals vs ∷ left_at caller true (f.at + 1) slots'.here) (sym joined_vars)
