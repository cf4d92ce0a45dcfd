-- Where it goes on after a piece.
use Rattle.std.proofs.Common.{◌≡◌, inl, inr, ℕ, zero, suc, ◌+◌, Bool, true, false, List, [], ◌∷◌, refl, ap, sym, subst}
use Rattle.std.specs.Prelude.{nat_le, drop, if◌then◌else◌}
use Rattle.seq_tree.specs.Names.{Name}
use Rattle.seq_tree.specs.Expressions.{Expression}
use Rattle.seq_tree.specs.Statements.{Statements, Branches, When}
use Rattle.seq_tree.specs.Variables.{Variables}
use Rattle.seq_tree.specs.Values.{holds}
use Rattle.machine.specs.Systems.{System}
use Rattle.machine.specs.Pieces.{Piece, pieces, branch_pieces, turns, after_loop}
use Rattle.machine.specs.Pieces as piece
use Rattle.machine.specs.Deeds.{deed, Silent}
use Rattle.law_flat_code.specs.Codes.{Code, BranchesStand, block_size}
use Rattle.law_flat_code.specs.Codes as ins
use Rattle.law_flat_code.specs.Aheads.{Ahead, Context, in_loop, IsLoop, Jumps, Turns}
use Rattle.law_flat_code.specs.Steps.{GoesOn, HasTurn, IsInside, IsOwn, TurnEnds, goes_to}
use Rattle.law_flat_code.proofs.Shared.Entering.{entered_block, entered_branches, jumped}

-- what is behind the innermost loop is ahead of where that is left to
record Behind (code : Code) (before : Context) (left : List Piece) : Type 0 where
  out : Context
  scoped : out.scope ≡ drop 1 before.scope
  backs : out.backs ≡ before.backs
  ahead : Ahead code out left before.to

behind_loop : (code : Code) (out : Context) (ps : List Piece) (pc : ℕ) → HasTurn ps → Ahead code out ps pc
    → Behind code out (after_loop ps)
behind_loop code out [] pc has h = absurd has
behind_loop code out (piece.Turned name at last body ∷ rest) pc has h =
    let s = h.3 in record {
      out = s.1;
      scoped = sym (ap (λ z. drop 1 z.scope) s.4);
      backs = sym (ap (λ z. z.backs) s.4);
      ahead = subst (Ahead code s.1 rest) (sym (ap (λ z. z.to) s.4)) s.5;
    }
behind_loop code out (piece.Idle ∷ rest) pc has h = behind_loop code out rest (suc h.1) has h.3.1
behind_loop code out (piece.Store target e ∷ rest) pc has h = behind_loop code out rest (suc h.1) has h.3.1
behind_loop code out (piece.Leaving c ∷ rest) pc has h = behind_loop code out rest (suc h.1) has h.3.1
behind_loop code out (piece.Calling object op actuals ∷ rest) pc has h = behind_loop code out rest (suc h.1) has h.3.1
behind_loop code out (piece.Working n ∷ rest) pc has h = behind_loop code out rest (suc h.1) has h.3.1
behind_loop code out (piece.Printing e ∷ rest) pc has h = behind_loop code out rest (suc h.1) has h.3.1
behind_loop code out (piece.Testing c b others ∷ rest) pc has h = let s = h.3 in behind_loop code out rest s.0 has s.2
behind_loop code out (piece.Turning name at last body ∷ rest) pc has h =
    let s = h.3 in behind_loop code out rest (suc (s.0 + block_size body)) has s.3
behind_loop code out (piece.Returning outs stores caller ∷ rest) pc has h = absurd has
behind_loop code out (piece.Closing object op vs outs stores caller ∷ rest) pc has h = absurd has
behind_loop code out (piece.Keeping task v ∷ rest) pc has h = behind_loop code out rest h.1 has h.3
behind_loop code out (piece.Opening task ∷ rest) pc has h = behind_loop code out rest h.1 has h.3
behind_loop code out (piece.Requested task v ∷ rest) pc has h = behind_loop code out rest h.1 has h.3
behind_loop code out (piece.Finishing ∷ rest) pc has h = behind_loop code out rest (suc h.1) has h.3.1

-- by whether a condition holds: the block, or the other branches
chosen : (b : Bool) (code : Code) (out : Context) (end q : ℕ) (c : Expression) (block : Statements) (others : Branches) (rest : List Piece)
    → BranchesStand code out.scope out.to end q (When c block others) → Ahead code out rest end
    → Ahead code out (if b then pieces block rest else branch_pieces others rest) (goes_to (ins.Test c (suc (suc q + block_size block))) b q)
chosen true code out end q c block others rest h after =
    entered_block block code out (suc q) rest h.1 (jumped code out rest (suc q + block_size block) end (inl h.2) after)
chosen false code out end q c block others rest h after =
    entered_branches others code out end (suc (suc q + block_size block)) rest h.3 after

-- by whether a condition holds: behind the loop, or the next piece
record Left (code : Code) (before : Context) (scope : Variables) (ps : List Piece) (to : ℕ) : Type 0 where
  out : Context
  scoped : out.scope ≡ scope
  backs : out.backs ≡ before.backs
  ahead : Ahead code out ps to

left_by : (b : Bool) (code : Code) (out : Context) (q : ℕ) (c : Expression) (vars : Variables) (rest : List Piece) → HasTurn rest
    → Ahead code out rest (suc q)
    → Left code out (if b then drop 1 out.scope else out.scope)
    ((if b then deed Silent (drop 1 vars) (after_loop rest) else deed Silent vars rest).pieces) (goes_to (ins.Exit c out.to) b q)
left_by true code out q c vars rest has h =
    let o = behind_loop code out rest (suc q) has h in record { out = o.out; scoped = o.scoped; backs = o.backs; ahead = o.ahead }
left_by false code out q c vars rest has h = record { out = out; scoped = refl; backs = refl; ahead = h }

-- the body of a turn
turned : (code : Code) (out : Context) (start : ℕ) (name : Name) (at last : ℕ) (body : Statements) (rest : List Piece)
    → IsLoop code out.scope start name last body → Ahead code out rest (suc (start + block_size body))
    → Ahead code (in_loop out name (suc (start + block_size body))) (pieces body (piece.Turned name at last body ∷ rest)) start
turned code out start name at last body rest loop after =
    entered_block body code (in_loop out name (suc (start + block_size body))) start (piece.Turned name at last body ∷ rest) loop.stands
    (zero, start + block_size body, refl, (start, out, loop, refl, refl, after))

turning : (y : System) (code : Code) (out : Context) (pc n q start : ℕ) (name : Name) (at last : ℕ) (body : Statements) (vars : Variables)
    (rest : List Piece) → Jumps n code out.scope pc q → Turns code out.scope q start name last → IsLoop code out.scope start name last body
    → Ahead code out rest (suc (start + block_size body)) → GoesOn y code out pc (piece.Turning name at last body) vars rest
turning y code out pc n q start name at last body vars rest j (inl first) loop after = record {
  jumps = n;
  place = q;
  there = j;
  ins = ins.Begin name first.0 last first.1;
  is = first.2;
  out = in_loop out name (suc (start + block_size body));
  scoped = refl;
  backs = refl;
  ahead = subst (Ahead code (in_loop out name (suc (start + block_size body))) (pieces body (piece.Turned name at last body ∷ rest))) first.3
      (turned code out start name at last body rest loop after);
}
turning y code out pc n q start name at last body vars rest j (inr again) loop after = record {
  jumps = n;
  place = q;
  there = j;
  ins = ins.Next name last start;
  is = again;
  out = in_loop out name (suc (start + block_size body));
  scoped = refl;
  backs = refl;
  ahead = turned code out start name at last body rest loop after;
}

pub pieces_go_on : (y : System) (code : Code) (out : Context) (pc : ℕ) (p : Piece) (vars : Variables) (rest : List Piece) → IsOwn p → IsInside p rest
    → Ahead code out (p ∷ rest) pc → GoesOn y code out pc p vars rest
pieces_go_on y code out pc piece.Idle vars rest own in' h =
    record { jumps = h.0; place = h.1; there = h.2; ins = ins.Idle; is = h.3.0; out = out; scoped = refl; backs = refl; ahead = h.3.1 }
pieces_go_on y code out pc (piece.Store target e) vars rest own in' h =
    record { jumps = h.0; place = h.1; there = h.2; ins = ins.Store target e; is = h.3.0; out = out; scoped = refl; backs = refl; ahead = h.3.1 }
pieces_go_on y code out pc (piece.Leaving c) vars rest own in' h =
    let l = left_by (holds c vars) code out h.1 c vars rest in' h.3.1 in
    record {
      jumps = h.0;
      place = h.1;
      there = h.2;
      ins = ins.Exit c out.to;
      is = h.3.0;
      out = l.out;
      scoped = l.scoped;
      backs = l.backs;
      ahead =
          l.ahead;
    }
pieces_go_on y code out pc (piece.Working n) vars rest own in' h =
    record { jumps = h.0; place = h.1; there = h.2; ins = ins.Working n; is = h.3.0; out = out; scoped = refl; backs = refl; ahead = h.3.1 }
pieces_go_on y code out pc (piece.Printing e) vars rest own in' h =
    record { jumps = h.0; place = h.1; there = h.2; ins = ins.Printing e; is = h.3.0; out = out; scoped = refl; backs = refl; ahead = h.3.1 }
pieces_go_on y code out pc (piece.Testing c block others) vars rest own in' h =
    let s = h.3 in record {
      jumps = h.0;
      place = h.1;
      there = h.2;
      ins = ins.Test c (suc (suc h.1 + block_size block));
      is = s.1.0;
      out = out;
      scoped = refl;
      backs = refl;
      ahead = chosen (holds c vars) code out s.0 h.1 c block others rest s.1 s.2;
    }
pieces_go_on y code out pc (piece.Turning name at last body) vars rest own in' h =
    let s = h.3 in turning y code out pc h.0 h.1 s.0 name at last body vars rest h.2 s.1 s.2 s.3
pieces_go_on y code out pc (piece.Calling object op actuals) vars rest own in' h = absurd own
pieces_go_on y code out pc (piece.Turned name at last body) vars rest own in' h = absurd own
pieces_go_on y code out pc (piece.Returning outs stores caller) vars rest own in' h = absurd own
pieces_go_on y code out pc (piece.Closing object op vs outs stores caller) vars rest own in' h = absurd own
pieces_go_on y code out pc (piece.Keeping task v) vars rest own in' h = absurd own
pieces_go_on y code out pc (piece.Opening task) vars rest own in' h = absurd own
pieces_go_on y code out pc (piece.Requested task v) vars rest own in' h = absurd own
pieces_go_on y code out pc piece.Finishing vars rest own in' h = absurd own

-- the end of a turn, by whether another one follows
next_turn : (b : Bool) (code : Code) (outer : Context) (q start : ℕ) (name : Name) (at last : ℕ) (body : Statements) (rest : List Piece)
    → code outer.scope q (ins.Next name last start) → IsLoop code outer.scope start name last body → q ≡ start + block_size body
    → Ahead code outer rest (suc q)
    → Ahead code outer (if b then piece.Turning name (suc at) last body ∷ rest else rest) (if b then q else suc q)
next_turn true code outer q start name at last body rest here loop e after =
    (zero, q, refl, (start, inr here, loop, subst (λ z. Ahead code outer rest (suc z)) e after))
next_turn false code outer q start name at last body rest here loop e after = after

pub turns_end : (code : Code) (out : Context) (pc : ℕ) (name : Name) (at last : ℕ) (body : Statements) (rest : List Piece)
    → Ahead code out (piece.Turned name at last body ∷ rest) pc → TurnEnds code out pc name at last body rest
turns_end code out pc name at last body rest h =
    let s = h.3 in
    let here : code s.1.scope h.1 (ins.Next name last s.0) = subst (λ z. code s.1.scope z (ins.Next name last s.0)) (sym s.3) s.2.ends in record {
      jumps = h.0;
      place = h.1;
      there = h.2;
      start = s.0;
      out = s.1;
      inside = s.4;
      is = here;
      ahead = next_turn (nat_le (suc at) last) code s.1 h.1 s.0 name at last body rest here s.2 s.3 s.5;
    }
