-- A task whose innermost call has ended, by what its methods did to its slots and frames.
use Rattle.std.proofs.Common.{◌≡◌, ◌<◌, ℕ, ◌+◌, ◌-◌, true, false, List, [], ◌∷◌, ◌++◌, Option, Some, None, length, set, refl, ap, sym}
use Rattle.std.proofs.Common.{◌∙◌, arith}
use Rattle.std.specs.Prelude.{drop, slice_get, take}
use Rattle.seq_tree.specs.Names.{Name}
use Rattle.seq_tree.specs.Operations.{out_names}
use Rattle.seq_tree.specs.Variables.{Variables, reads, stored, targets}
use Rattle.law_flat_code.specs.Codes.{next_slot}
use Rattle.law_flat_code.specs.Following.{AgreeBelow}
use Rattle.linker.specs.Slots.{set_all, vars_at}
use Rattle.linker.proofs.Shared.Placing.{stores}
use Rattle.linker.specs.Callees.{body_of}
use Rattle.linker.specs.Programs.{op_part}
use Rattle.linker.specs.Scopes.{slots_of}
use Rattle.linker.specs.Standing.{lists_of, target_slot}
use Rattle.linker.specs.declared.code.Ins.TheVariants as ins
use Rattle.linker.specs.declared.program.LinkedUnits.{LinkedUnits}
use Rattle.task_runtime.specs.Written.{data_names, reserve, system_of}
use Rattle.task_runtime.specs.Bodies.{Body, counter_of, left_at, scope_at, turn_at, vars_here}
use Rattle.task_runtime.specs.Doings.{EndsBody}
use Rattle.task_runtime.specs.Framed.{Framed}
use Rattle.task_runtime.specs.Goings.{GoesOnAt, HasReturned}
use Rattle.task_runtime.specs.Handing.{target_slots}
use Rattle.task_runtime.specs.Lefts.{pieces_by, running_of, vars_by}
use Rattle.task_runtime.specs.Slotted.{Slotted}
use Rattle.task_runtime.specs.Sounds.{IsAtWork, IsPieceAt, IsStacked, owner_by}
use Rattle.task_runtime.specs.declared.piece.Frame.{Frame}
use Rattle.task_runtime.specs.declared.piece.Piece as piece
use Rattle.task_runtime.specs.declared.piece.Piece.TheVariants as is
use Rattle.task_runtime.specs.declared.progress.Progress.{Progress}
use Rattle.task_runtime.specs.declared.stack.Stack.{Stack}
use Rattle.task_runtime.proofs.Arrivals.{sound_running}
use Rattle.task_runtime.proofs.Calls.{CallAt, long_here}
use Rattle.task_runtime.proofs.Entries.{slots_running}
use Rattle.task_runtime.proofs.Returns.{back_stacked, behind_is, call_amid, caller_call, end_left, end_vars, ended_is, its_call, same_op, without_call}
use Rattle.task_runtime.proofs.Shapes.{Shape, set_apart, shape_at, target_apart}
use Rattle.task_runtime.proofs.Stacks.{last_by, owner_pushed, room_by}
use Rattle.task_runtime.proofs.Steps.{few, left_stays}

-- the counts of the turns around stay where values are stored in names
stores_stay : (ns : List Name) (scope : Variables) (h : Shape ns scope) (names : List Name) (values slots : List ℕ)
    → AgreeBelow h.level (turn_at ns slots) (turn_at ns (set_all (target_slots scope names) values slots))
stores_stay ns scope h [] values slots k lt = refl
stores_stay ns scope h (n ∷ names) [] slots k lt = refl
stores_stay ns scope h (n ∷ names) (v ∷ values) slots k lt =
    stores_stay ns scope h names values (set slots (target_slot n scope) v) k lt
    ∙ set_apart slots (target_slot n scope) (counter_of ns k) v (λ e. target_apart ns scope h n k lt (sym e))

-- the end of a body is an instruction of its own
pub end_there : (c : LinkedUnits) (p : Progress) → IsAtWork c p → EndsBody p.piece → slice_get (lists_of c.code).ins p.at ≡ Some ins.Return
end_there c p h = by p.piece h.piece
  where
    by : (q : Option piece.Piece) → IsPieceAt (lists_of c.code) p.stack p.at q → EndsBody q
        → slice_get (lists_of c.code).ins p.at ≡ Some ins.Return
    by (Some (is.Here ins.Return)) k e = k.0
    by (Some is.Close) k e = k.0
    by (Some (is.Here ins.Null)) k e = absurd e
    by (Some (is.Here (ins.Work ticks))) k e = absurd e
    by (Some (is.Here (ins.Assign slot v))) k e = absurd e
    by (Some (is.Here (ins.Put v))) k e = absurd e
    by (Some (is.Here (ins.Test v other))) k e = absurd e
    by (Some (is.Here (ins.Exit v to))) k e = absurd e
    by (Some (is.Here (ins.Jump to))) k e = absurd e
    by (Some (is.Here (ins.Begin counter low))) k e = absurd e
    by (Some (is.Here (ins.Next counter last start))) k e = absurd e
    by (Some (is.Here (ins.Call op actuals outs))) k e = absurd e
    by (Some (is.Here (ins.Request task value))) k e = absurd e
    by (Some (is.Here ins.Nowhere)) k e = absurd e
    by (Some (is.Here ins.Finish)) k e = absurd e
    by (Some (is.Turn counter start)) k e = absurd e
    by (Some (is.Keep q)) k e = absurd e
    by (Some (is.Open q)) k e = absurd e
    by (Some (is.Requested q)) k e = absurd e
    by None k e = absurd e

-- what a piece that ends a body has left
pub end_by_left : (q : Option piece.Piece) (r : Body) (at : ℕ) (slots : List ℕ) → EndsBody q → pieces_by q r at slots ≡ left_at r true at slots
end_by_left (Some (is.Here i)) r at slots e = refl
end_by_left (Some is.Close) r at slots e = refl
end_by_left (Some (is.Turn counter start)) r at slots e = absurd e
end_by_left (Some (is.Keep q)) r at slots e = absurd e
end_by_left (Some (is.Open q)) r at slots e = absurd e
end_by_left (Some (is.Requested q)) r at slots e = absurd e
end_by_left None r at slots e = absurd e

pub end_by_vars : (q : Option piece.Piece) (ns : List Name) (r : Body) (at : ℕ) (slots : List ℕ) → EndsBody q
    → vars_by q ns r at slots ≡ vars_here r true at slots
end_by_vars (Some (is.Here i)) ns r at slots e = refl
end_by_vars (Some is.Close) ns r at slots e = refl
end_by_vars (Some (is.Turn counter start)) ns r at slots e = absurd e
end_by_vars (Some (is.Keep q)) ns r at slots e = absurd e
end_by_vars (Some (is.Open q)) ns r at slots e = absurd e
end_by_vars (Some (is.Requested q)) ns r at slots e = absurd e
end_by_vars None ns r at slots e = absurd e

module _ (c : LinkedUnits) (p : Progress) (h : IsAtWork c p) (e : EndsBody p.piece) (fs : List Frame) (f : Frame)
    (items : p.stack.frames.items ≡ fs ++ f ∷ []) (slots' : Slotted) (frames' : Framed)
    (away : slots'.away ≡ take (length p.stack.slots.away - f.away) p.stack.slots.away)
    (here : slots'.here ≡ drop (length p.stack.slots.away - f.away) p.stack.slots.away ++ p.stack.slots.here) (left : frames'.items ≡ fs)
    (room : frames'.room ≡ p.stack.frames.room) where
  abbrev s : Stack
  s = p.stack

  abbrev back : Stack
  back = without_call c s h.stacked fs f items slots' frames' away here left room

  abbrev back_is : IsStacked c back
  back_is = back_stacked c s h.stacked fs f items slots' frames' away here left room

  abbrev cc' : CallAt c back back_is f.at
      ((its_call c s h.stacked fs f items slots' frames' away here left room).place)
      ((its_call c s h.stacked fs f items slots' frames' away here left room).first)
      ((its_call c s h.stacked fs f items slots' frames' away here left room).outs)
  cc' = caller_call c s h.stacked fs f items slots' frames' away here left room

  abbrev caller : Body
  caller = running_of back

  module _ (slots'' : Slotted) (same_away : slots''.away ≡ slots'.away) (same_long : length slots''.here ≡ length slots'.here) (values : List ℕ)
      (out : values ≡ reads (out_names (body_of f.body).op.sig.params) (vars_at (slots_of (op_part (body_of f.body)).names) s.slots.here))
      (put : slots''.here
      ≡ set_all (target_slots (scope_at caller false f.at) (targets cc'.body.op.sig.params cc'.actuals)) values slots'.here)
      (p' : Progress) (on : GoesOnAt c (record back { slots = slots'' }) (f.at + 1) p') where
    shape : Shape caller.names (scope_at caller false f.at)
    shape = shape_at caller.names caller.block (f.at - caller.start) false

    same_running : running_of (record back { slots = slots'' }) ≡ caller
    same_running = slots_running c back back_is slots'' same_away same_long

    store_left : left_at caller true (f.at + 1) slots''.here ≡ left_at caller true (f.at + 1) slots'.here
    store_left =
        ap (left_at caller true (f.at + 1)) put
        ∙ left_stays (system_of s.thread) back_is.linked.leads (lists_of c.code) (last_by ins.Finish frames'.items)
        (room_by (reserve s.thread) frames'.items) caller
        (sound_running c back back_is) slots'.here
        (long_here c back back_is) f.at
        (call_amid c s h.stacked fs f items slots' frames' away here left room).from
        (f.at + 1) (set_all (target_slots (scope_at caller false f.at) (targets cc'.body.op.sig.params cc'.actuals)) values slots'.here)
        shape.level cc'.amid_behind (ap next_slot cc'.behind ∙ shape.next)
        (stores_stay caller.names (scope_at caller false f.at) shape (targets cc'.body.op.sig.params cc'.actuals) values slots'.here)

    spare : next_slot (scope_at caller false f.at) < length slots'.here
    spare =
        let n = few (system_of s.thread) back_is.linked.leads (lists_of c.code) (last_by ins.Finish frames'.items)
        (room_by (reserve s.thread) frames'.items) caller
        (sound_running c back back_is) slots'.here
        (long_here c back back_is) f.at
        (call_amid c s h.stacked fs f items slots' frames' away here left room).from false (f.at - caller.start) in
        let long = long_here c back back_is in
        omega (arith, n, long)

    store_vars : vars_here caller true (f.at + 1) slots''.here
        ≡ stored (targets cc'.body.op.sig.params cc'.actuals) values (vars_here caller true f.at slots'.here)
    store_vars =
        ap (λ k. vars_at k slots''.here) cc'.behind ∙ ap (vars_at (scope_at caller false f.at)) put
        ∙ stores (targets cc'.body.op.sig.params cc'.actuals) values (next_slot (scope_at caller false f.at)) (scope_at caller false f.at) slots'.here
        shape.slots spare
        ∙ ap (λ k. stored (targets cc'.body.op.sig.params cc'.actuals) values (vars_at k slots'.here)) (sym cc'.shown)

    pub has_returned : HasReturned c p values p'
    has_returned = record {
      at_work = on.at_work;
      thread = ap (λ k. k.thread) on.stack;
      room = ap (λ k. k.frames.room) on.stack ∙ room;
      actuals = cc'.actuals;
      caller = vars_here caller true f.at slots'.here;
      rest = left_at caller true (f.at + 1) slots'.here;
      body = cc'.body;
      first = end_by_left p.piece (running_of s) p.at s.slots.here e ∙ end_left c s h.stacked p.at h.amid (end_there c p h e)
          ∙ behind_is c s h.stacked fs f items slots' frames' away here left room;
      owner = ap (owner_by None) items ∙ owner_pushed None fs f ∙ ap (λ b. b.owner) (same_op c s h.stacked fs f items slots' frames' away here left
          room);
      values' = out
          ∙ ap (λ b. reads (out_names b.op.sig.params) (vars_at (slots_of (op_part (body_of f.body)).names) s.slots.here))
          (same_op c s h.stacked fs f items slots' frames' away here left room)
          ∙ ap (λ ns. reads (out_names cc'.body.op.sig.params) (vars_at (slots_of ns) s.slots.here))
          (sym (ap (λ b. b.names) (ended_is c s h.stacked fs f items slots' frames' away here left room)))
          ∙ ap (reads (out_names cc'.body.op.sig.params)) (sym (end_by_vars p.piece (data_names s.thread) (running_of s) p.at s.slots.here e
          ∙ end_vars c s h.stacked p.at h.amid (end_there c p h e)));
      vars = on.vars ∙ ap (λ k. vars_here k true (f.at + 1) slots''.here) same_running ∙ store_vars;
      pieces' = on.pieces ∙ ap (λ k. left_at k true (f.at + 1) slots''.here) same_running ∙ store_left;
    }
