-- How many sections a task is inside: their ends are no pieces of statements.
use Rattle.std.proofs.Common.{◌≡◌, ℕ, Bool, true, false, List, refl, ◌∙◌}
use Rattle.std.specs.Prelude.{nat_le}
use Rattle.seq_tree.specs.Names.{Name}
use Rattle.seq_tree.specs.Statements.{Statement, Statements, Branches, Null, Assign, If, For, ExitWhen, Call, Work, Put, End, Then, Nothing}
use Rattle.seq_tree.specs.Statements.{Else, When}
use Rattle.machine.specs.Pieces.{Piece, branch_pieces, pieces, pieces_of, turns}
use Rattle.task_runtime.specs.Effort.{sections_among}

-- no ends of sections are among the pieces of statements
sections_turns : (b : Bool) (name : Name) (at last : ℕ) (body : Statements) (rest : List Piece) → nat_le at last ≡ b
    → sections_among (turns name at last body rest) ≡ sections_among rest
sections_turns true name at last body rest e = rw e refl
sections_turns false name at last body rest e = rw e refl

mutual
  sections-statement : (s : Statement) (rest : List Piece) → sections_among (pieces_of s rest) ≡ sections_among rest
  sections-statement Null rest = refl
  sections-statement (Assign target e) rest = refl
  sections-statement (If branches) rest = sections-branches branches rest
  sections-statement (For name low high body) rest = sections_turns (nat_le low high) name low high body rest refl
  sections-statement (ExitWhen condition) rest = refl
  sections-statement (Call object op actuals) rest = refl
  sections-statement (Work ticks) rest = refl
  sections-statement (Put e) rest = refl

  pub sections-pieces : (ss : Statements) (rest : List Piece) → sections_among (pieces ss rest) ≡ sections_among rest
  sections-pieces End rest = refl
  sections-pieces (Then first others) rest = sections-statement first (pieces others rest) ∙ sections-pieces others rest

  sections-branches : (bs : Branches) (rest : List Piece) → sections_among (branch_pieces bs rest) ≡ sections_among rest
  sections-branches Nothing rest = refl
  sections-branches (Else block) rest = sections-pieces block rest
  sections-branches (When condition block others) rest = refl
