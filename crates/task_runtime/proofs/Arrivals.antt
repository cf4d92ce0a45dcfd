-- A task that goes on at a place of its body is at work there, behind jumps.
use Rattle.std.proofs.Common.{◌≡◌, ℕ, true, List, [], ◌∷◌, Option, Some, None, refl, ap, sym, subst, ◌∙◌}
use Rattle.std.specs.Prelude.{slice_get}
use Rattle.seq_tree.specs.Names.{Name}
use Rattle.linker.specs.Slots.{vars_at}
use Rattle.linker.specs.Scopes.{slots_of}
use Rattle.linker.specs.Standing.{Lists, lists_of}
use Rattle.linker.specs.declared.code.Ins.{Ins}
use Rattle.linker.specs.declared.code.Ins.TheVariants as ins
use Rattle.linker.specs.declared.program.LinkedUnits.{LinkedUnits}
use Rattle.task_runtime.specs.Written.{data_names, reserve, system_of}
use Rattle.task_runtime.specs.Bodies.{Body, first_body, left_at, turn_at, vars_here}
use Rattle.task_runtime.specs.Doings.{piece_of}
use Rattle.task_runtime.specs.Goings.{GoesOnAt}
use Rattle.task_runtime.specs.Lefts.{pieces_by, running_of, vars_by}
use Rattle.task_runtime.specs.Settling.{IsAmid, IsSomewhere, Settles, Still, Stood}
use Rattle.task_runtime.specs.Sounds.{IsPieceAt, IsSound, IsStacked, owner_of}
use Rattle.task_runtime.specs.declared.piece.Frame.{Frame}
use Rattle.task_runtime.specs.declared.piece.Piece as piece
use Rattle.task_runtime.specs.declared.stack.Stack.{Stack}
use Rattle.task_runtime.proofs.Stacks.{last_by, room_by, sound_here}

pub last_still : (last : Ins) (fs : List Frame) → Still (Some last) → Still (Some (last_by last fs))
last_still last [] h = h
last_still last (f ∷ fs) h = last_still ins.Return fs tt

-- the body that runs
module _ (c : LinkedUnits) (s : Stack) (h : IsStacked c s) where
  pub sound_running : IsSound (system_of s.thread) h.linked.leads (lists_of c.code) (last_by ins.Finish s.frames.items)
      (room_by (reserve s.thread) s.frames.items) (running_of s)
  sound_running =
      sound_here (system_of s.thread) h.linked.leads (lists_of c.code) ins.Finish (reserve s.thread) (first_body s.thread s.start) s.frames.items
      s.slots.away h.sound

  abbrev pub stood : Stood (lists_of c.code)
  stood = record {
    leads = h.linked.leads;
    scope = slots_of (running_of s).names;
    start = (running_of s).start;
    block = (running_of s).block;
    stands = sound_running.stands;
    ends = subst Still (sym sound_running.ends) (last_still ins.Finish s.frames.items tt);
  }

  pub somewhere : (at : ℕ) → IsAmid (running_of s).start (running_of s).block at → IsSomewhere (lists_of c.code) at
  somewhere at amid = (stood, amid)

-- what an instruction is as a piece
pieces_of_piece : (o : Option (ℕ × ℕ)) (x : Ins) (r : Body) (at : ℕ) (slots : List ℕ)
    → pieces_by (Some (piece_of o x)) r at slots ≡ left_at r true at slots
pieces_of_piece None ins.Return r at slots = refl
pieces_of_piece (Some owner) ins.Return r at slots = refl
pieces_of_piece o ins.Null r at slots = refl
pieces_of_piece o (ins.Work ticks) r at slots = refl
pieces_of_piece o (ins.Assign slot v) r at slots = refl
pieces_of_piece o (ins.Put v) r at slots = refl
pieces_of_piece o (ins.Test v other) r at slots = refl
pieces_of_piece o (ins.Exit v to) r at slots = refl
pieces_of_piece o (ins.Jump to) r at slots = refl
pieces_of_piece o (ins.Begin counter low) r at slots = refl
pieces_of_piece o (ins.Next counter last start) r at slots = refl
pieces_of_piece o (ins.Call op actuals outs) r at slots = refl
pieces_of_piece o (ins.Request task value) r at slots = refl
pieces_of_piece o ins.Nowhere r at slots = refl
pieces_of_piece o ins.Finish r at slots = refl

vars_of_piece : (o : Option (ℕ × ℕ)) (x : Ins) (ns : List Name) (r : Body) (at : ℕ) (slots : List ℕ)
    → vars_by (Some (piece_of o x)) ns r at slots ≡ vars_here r true at slots
vars_of_piece None ins.Return ns r at slots = refl
vars_of_piece (Some owner) ins.Return ns r at slots = refl
vars_of_piece o ins.Null ns r at slots = refl
vars_of_piece o (ins.Work ticks) ns r at slots = refl
vars_of_piece o (ins.Assign slot v) ns r at slots = refl
vars_of_piece o (ins.Put v) ns r at slots = refl
vars_of_piece o (ins.Test v other) ns r at slots = refl
vars_of_piece o (ins.Exit v to) ns r at slots = refl
vars_of_piece o (ins.Jump to) ns r at slots = refl
vars_of_piece o (ins.Begin counter low) ns r at slots = refl
vars_of_piece o (ins.Next counter last start) ns r at slots = refl
vars_of_piece o (ins.Call op actuals outs) ns r at slots = refl
vars_of_piece o (ins.Request task value) ns r at slots = refl
vars_of_piece o ins.Nowhere ns r at slots = refl
vars_of_piece o ins.Finish ns r at slots = refl

stands_by : (t : Lists) (s : Stack) (at : ℕ) (x : Ins) (o : Option (ℕ × ℕ)) → owner_of s ≡ o → slice_get t.ins at ≡ Some x → Still (Some x)
    → IsPieceAt t s at (Some (piece_of o x))
stands_by t s at ins.Return None e there still = (there, tt, e)
stands_by t s at ins.Return (Some owner) e there still = (there, owner, e)
stands_by t s at ins.Null o e there still = (there, tt, tt)
stands_by t s at (ins.Work ticks) o e there still = (there, tt, tt)
stands_by t s at (ins.Assign slot v) o e there still = (there, tt, tt)
stands_by t s at (ins.Put v) o e there still = (there, tt, tt)
stands_by t s at (ins.Test v other) o e there still = (there, tt, tt)
stands_by t s at (ins.Exit v to) o e there still = (there, tt, tt)
stands_by t s at (ins.Jump to) o e there still = absurd still
stands_by t s at (ins.Begin counter low) o e there still = (there, tt, tt)
stands_by t s at (ins.Next counter last start) o e there still = (there, tt, tt)
stands_by t s at (ins.Call op actuals outs) o e there still = (there, tt, tt)
stands_by t s at (ins.Request task value) o e there still = (there, tt, tt)
stands_by t s at ins.Nowhere o e there still = (there, tt, tt)
stands_by t s at ins.Finish o e there still = (there, tt, tt)

-- a task at a place to which it was led
pub goes_on_at : (c : LinkedUnits) (s : Stack) (at to : ℕ) (x : Ins) (q : piece.Piece) → IsStacked c s
    → IsAmid (running_of s).start (running_of s).block at → Settles (lists_of c.code) at to → Still (slice_get c.code.ins.items to)
    → slice_get c.code.ins.items to ≡ Some x → q ≡ piece_of (owner_of s) x
    → GoesOnAt c s at (record { stack = s; at = to; piece = Some q })
goes_on_at c s at to x q h amid settles still there same =
    let r = running_of s in
    let l = settles (stood c s h) amid in
    record {
      stack = refl;
      at_work = record {
        stacked = h;
        amid = l.amid;
        piece = subst (λ z. IsPieceAt (lists_of c.code) s to (Some z)) (sym same)
            (stands_by (lists_of c.code) s to x (owner_of s) refl there (subst Still there still));
      };
      pieces = ap (λ z. pieces_by (Some z) r to s.slots.here) same ∙ pieces_of_piece (owner_of s) x r to s.slots.here
          ∙ sym (l.pieces (turn_at r.names s.slots.here) r.behind);
      vars = ap (λ z. vars_by (Some z) (data_names s.thread) r to s.slots.here) same
          ∙ vars_of_piece (owner_of s) x (data_names s.thread) r to s.slots.here ∙ ap (λ k. vars_at k s.slots.here) (sym l.scope);
    }
