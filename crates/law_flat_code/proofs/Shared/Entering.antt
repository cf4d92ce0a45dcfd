-- Ahead of a block stand its pieces.
use Rattle.std.proofs.Common.{◌≡◌, inl, inr, ℕ, zero, suc, ◌+◌, Bool, true, false, List, [], ◌∷◌, refl, sym, subst, arith}
use Rattle.std.specs.Prelude.{nat_le}
use Rattle.seq_tree.specs.Names.{Name}
use Rattle.seq_tree.specs.Statements.{Statement, Statements, Branches, Null, Assign, If, For, ExitWhen, Call, Work, Put, End, Then, Nothing}
use Rattle.seq_tree.specs.Statements.{Else, When}
use Rattle.machine.specs.Pieces.{Piece, pieces, pieces_of, branch_pieces, turns}
use Rattle.machine.specs.Pieces as piece
use Rattle.law_flat_code.specs.Codes.{Code, Stands, BlockStands, BranchesStand, size, block_size, branch_size}
use Rattle.law_flat_code.specs.Aheads.{Ahead, Context, IsLoop, Leads, Stays, Turns}

-- what is ahead of a place to which another one leads is ahead of that one
pub jumped : (code : Code) (out : Context) (ps : List Piece) (pc to : ℕ) → Leads code out.scope pc to → Ahead code out ps to → Ahead code out ps pc
jumped code out [] pc to l h = tt
jumped code out (p ∷ rest) pc to l h = (suc h.0, h.1, (to, l, h.2), h.3)

-- a piece that stands here
here : (code : Code) (out : Context) (p : Piece) (rest : List Piece) (pc : ℕ) → Stays code out p pc (λ o next. Ahead code o rest next)
    → Ahead code out (p ∷ rest) pc
here code out p rest pc h = (zero, pc, refl, h)

moved : (code : Code) (out : Context) (ps : List Piece) (pc to : ℕ) → pc ≡ to → Ahead code out ps pc → Ahead code out ps to
moved code out ps pc to e h = subst (Ahead code out ps) e h

one : (code : Code) (out : Context) (ps : List Piece) (pc : ℕ) → Ahead code out ps (pc + 1) → Ahead code out ps (suc pc)
one code out ps pc h = moved code out ps (pc + 1) (suc pc) (omega arith) h

-- a loop, by whether it has a turn
entered_loop : (b : Bool) (code : Code) (out : Context) (pc : ℕ) (name : Name) (low high : ℕ) (body : Statements) (rest : List Piece)
    → nat_le low high ≡ b → Stands code out.scope out.to pc (For name low high body) → Ahead code out rest (suc (suc pc + block_size body))
    → Ahead code out (turns name low high body rest) pc
entered_loop true code out pc name low high body rest e h after =
    let loop : IsLoop code out.scope (suc pc) name high body = record { stands = h.1; ends = h.2 } in
    let first : Turns code out.scope pc (suc pc) name high = inl (low, suc (suc pc + block_size body), h.0, refl) in
    let whole : Ahead code out (piece.Turning name low high body ∷ rest) pc =
    here code out (piece.Turning name low high body) rest pc (suc pc, first, loop, after) in
    simp e whole
entered_loop false code out pc name low high body rest e h after =
    let whole : Ahead code out rest pc = jumped code out rest pc (suc (suc pc + block_size body)) (inr (name, low, high, h.0, e)) after in
    simp e whole

mutual
  pub entered : (s : Statement) (code : Code) (out : Context) (pc : ℕ) (rest : List Piece) → Stands code out.scope out.to pc s
      → Ahead code out rest (pc + size s) → Ahead code out (pieces_of s rest) pc
  entered Null code out pc rest h after = here code out piece.Idle rest pc (h, one code out rest pc after)
  entered (Assign target e) code out pc rest h after = here code out (piece.Store target e) rest pc (h, one code out rest pc after)
  entered (If branches) code out pc rest h after = entered_branches branches code out (pc + branch_size branches) pc rest h after
  entered (For name low high body) code out pc rest h after =
      entered_loop (nat_le low high) code out pc name low high body rest refl h
      (moved code out rest (pc + suc (suc (block_size body))) (suc (suc pc + block_size body)) (omega arith) after)
  entered (ExitWhen condition) code out pc rest h after = here code out (piece.Leaving condition) rest pc (h, one code out rest pc after)
  entered (Call object op actuals) code out pc rest h after =
      here code out (piece.Calling object op actuals) rest pc (h, one code out rest pc after)
  entered (Work ticks) code out pc rest h after = here code out (piece.Working ticks) rest pc (h, one code out rest pc after)
  entered (Put e) code out pc rest h after = here code out (piece.Printing e) rest pc (h, one code out rest pc after)

  pub entered_block : (b : Statements) (code : Code) (out : Context) (pc : ℕ) (rest : List Piece) → BlockStands code out.scope out.to pc b
      → Ahead code out rest (pc + block_size b) → Ahead code out (pieces b rest) pc
  entered_block End code out pc rest h after = moved code out rest (pc + 0) pc (omega arith) after
  entered_block (Then first others) code out pc rest h after =
      entered first code out pc (pieces others rest) h.0
      (entered_block others code out (pc + size first) rest h.1
      (moved code out rest (pc + (size first + block_size others)) (pc + size first + block_size others) (omega arith) after))

  pub entered_branches : (bs : Branches) (code : Code) (out : Context) (end pc : ℕ) (rest : List Piece)
      → BranchesStand code out.scope out.to end pc bs → Ahead code out rest end → Ahead code out (branch_pieces bs rest) pc
  entered_branches Nothing code out end pc rest h after = moved code out rest end pc (sym h) after
  entered_branches (Else block) code out end pc rest h after =
      entered_block block code out pc rest h.0 (moved code out rest end (pc + block_size block) (sym h.1) after)
  entered_branches (When condition block others) code out end pc rest h after =
      here code out (piece.Testing condition block others) rest pc (end, h, after)

pub block_is_ahead : (code : Code) (out : Context) (pc : ℕ) (b : Statements) (rest : List Piece) → BlockStands code out.scope out.to pc b
    → Ahead code out rest (pc + block_size b) → Ahead code out (pieces b rest) pc
block_is_ahead code out pc b rest h after = entered_block b code out pc rest h after
