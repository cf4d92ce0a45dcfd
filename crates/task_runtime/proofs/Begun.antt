-- A task that has begun a call, and one whose call has ended, by what its methods did to its slots and frames.
use Rattle.std.proofs.Common.{◌≡◌, ℕ, ◌+◌, true, false, List, [], ◌∷◌, ◌++◌, Some, length, ap, sym, subst, ◌∙◌, append_assoc}
use Rattle.std.specs.Prelude.{drop, slice_get, take}
use Rattle.seq_tree.specs.Values.{handed}
use Rattle.seq_tree.specs.Variables.{Variables, entered, written}
use Rattle.machine.specs.Pieces.{pieces}
use Rattle.linker.specs.Slots.{vars_at}
use Rattle.linker.specs.Callees.{OpBody, body_of}
use Rattle.linker.specs.Programs.{op_part}
use Rattle.linker.specs.Scopes.{slots_of}
use Rattle.linker.specs.Standing.{lists_of, values_in}
use Rattle.linker.specs.declared.code.Ins.{Ins}
use Rattle.linker.specs.declared.code.Ins.TheVariants as ins
use Rattle.linker.specs.declared.program.LinkedUnits.{LinkedUnits}
use Rattle.task_runtime.specs.Written.{data_names}
use Rattle.task_runtime.specs.Bodies.{Body, ended, left_at, size_of, vars_here}
use Rattle.task_runtime.specs.Framed.{Framed}
use Rattle.task_runtime.specs.Goings.{GoesOnAt, HasCalled}
use Rattle.task_runtime.specs.Handing.{values_of}
use Rattle.task_runtime.specs.Lefts.{pieces_by, pieces_left, running_of, vars_by, vars_left}
use Rattle.task_runtime.specs.Slotted.{Slotted}
use Rattle.task_runtime.specs.Sounds.{IsAtWork, IsPieceAt}
use Rattle.task_runtime.specs.declared.piece.Frame.{Frame}
use Rattle.task_runtime.specs.declared.piece.Piece.TheVariants as is
use Rattle.task_runtime.specs.declared.progress.Progress.{Progress}
use Rattle.task_runtime.specs.declared.stack.Stack.{Stack}
use Rattle.task_runtime.proofs.Calls.{CallAt, began, call_at}
use Rattle.task_runtime.proofs.Entries.{begins_left, begins_vars, call_running, with_call}
use Rattle.task_runtime.proofs.Handed.{entered_same, handed_same}

-- the instruction of a piece stands in code
pub ins_there : (c : LinkedUnits) (p : Progress) → IsAtWork c p → (x : Ins) → p.piece ≡ Some (is.Here x)
    → slice_get (lists_of c.code).ins p.at ≡ Some x
ins_there c p h x e = (subst (IsPieceAt (lists_of c.code) p.stack p.at) e h.piece).0

pub left_here : (p : Progress) (x : Ins) → p.piece ≡ Some (is.Here x)
    → pieces_left p ≡ left_at (running_of p.stack) true p.at p.stack.slots.here
left_here p x e = ap (λ q. pieces_by q (running_of p.stack) p.at p.stack.slots.here) e

pub here_vars : (p : Progress) (x : Ins) → p.piece ≡ Some (is.Here x)
    → vars_left p ≡ vars_here (running_of p.stack) true p.at p.stack.slots.here
here_vars p x e = ap (λ q. vars_by q (data_names p.stack.thread) (running_of p.stack) p.at p.stack.slots.here) e

module _ (c : LinkedUnits) (p : Progress) (h : IsAtWork c p) (place first outs : ℕ) (e : p.piece ≡ Some (is.Here (ins.Call place first outs))) where
  abbrev s : Stack
  s = p.stack

  abbrev r : Body
  r = running_of s

  abbrev here : List ℕ
  here = s.slots.here

  pub called_there : slice_get (lists_of c.code).ins p.at ≡ Some (ins.Call place first outs)
  called_there = ins_there c p h (ins.Call place first outs) e

  pub the_call : CallAt c s h.stacked p.at place first outs
  the_call = call_at c s h.stacked p.at place first outs h.amid called_there

  same_vars : vars_here r true p.at here ≡ vars_here r false p.at here
  same_vars = ap (λ k. vars_at k here) the_call.shown

  module _ (f : Frame) (same_body : body_of f.body ≡ the_call.body) (same_start : f.start ≡ the_call.start) (same_at : f.at ≡ p.at)
      (same_size : f.away ≡ size_of r) (slots' : Slotted) (frames' : Framed)
      (away : slots'.away ≡ s.slots.away ++ take f.away here) (long : length slots'.here ≡ length (drop f.away here))
      (items : frames'.items ≡ s.frames.items ++ f ∷ []) (room : frames'.room ≡ s.frames.room)
      (values : List ℕ) (lent : Variables)
      (hand : values ≡ values_of (values_in the_call.body.op.sig.params the_call.actuals) (vars_here r false p.at here))
      (vars : vars_at (slots_of (op_part the_call.body).names) slots'.here
      ≡ entered the_call.body.op.sig.params values ++ (written the_call.body.op.locals ++ lent))
      (p' : Progress)
      (on : GoesOnAt c (with_call c s h.stacked p.at place first outs h.amid called_there f the_call same_body same_start same_at same_size slots'
      frames' away long items room) the_call.start p') where
    abbrev b : OpBody
    b = the_call.body

    abbrev bare : Body
    bare = began c s h.stacked p.at place first outs h.amid called_there f the_call same_body same_start same_at same_size

    is_began : running_of (with_call c s h.stacked p.at place first outs h.amid called_there f the_call same_body same_start same_at same_size slots'
        frames' away long items room) ≡ bare
    is_began = call_running c s h.stacked p.at place first outs h.amid called_there f the_call same_body same_start same_at same_size slots' frames'
        away long items room

    given : entered b.op.sig.params values ≡ entered b.op.sig.params (handed b.op.sig.params the_call.actuals (vars_left p))
    given =
        ap (entered b.op.sig.params) hand ∙ sym (entered_same b.op.sig.params the_call.actuals (vars_here r false p.at here))
        ∙ ap (λ vs. entered b.op.sig.params (handed b.op.sig.params the_call.actuals vs))
        (sym (here_vars p (ins.Call place first outs) e ∙ same_vars))

    pub has_called : HasCalled c p place lent values p'
    has_called = record {
      at_work = on.at_work;
      thread = ap (λ k. k.thread) on.stack;
      room = ap (λ k. k.frames.room) on.stack ∙ room;
      unit = the_call.unit;
      op = the_call.op;
      actuals = the_call.actuals;
      rest = left_at r true (p.at + 1) here;
      body = b;
      first = left_here p (ins.Call place first outs) e ∙ the_call.calls;
      is_body = the_call.is_body;
      there = the_call.there;
      values' = λ full. hand ∙ sym (handed_same b.op.sig.params the_call.actuals (vars_here r false p.at here) full)
          ∙ ap (handed b.op.sig.params the_call.actuals) (sym (here_vars p (ins.Call place first outs) e ∙ same_vars));
      vars = on.vars ∙ ap (λ k. vars_here k true the_call.start slots'.here) is_began ∙ begins_vars bare slots'.here ∙ vars
          ∙ sym (append_assoc (entered b.op.sig.params values) (written b.op.locals) lent)
          ∙ ap (λ vs. (vs ++ written b.op.locals) ++ lent) given;
      pieces' = on.pieces ∙ ap (λ k. left_at k true the_call.start slots'.here) is_began ∙ begins_left bare slots'.here
          ∙ ap (λ vs. pieces b.op.block (ended b the_call.actuals vs ∷ left_at r true (p.at + 1) here))
          (sym (here_vars p (ins.Call place first outs) e));
    }
