-- The pieces that a task has left: whether they stand inside a loop, and what does not depend on those that a loop that is left passes over.
use Rattle.std.specs.Prelude.{◌≡◌, ℕ, Bool, true, false, List, [], ◌∷◌, nat_le, if◌then◌else◌, refl}
use Rattle.std.proofs.Common.{sym, ◌∙◌, ap}
use Rattle.std.proofs.lemmas.Bool.{false≢true}
use Rattle.seq_tree.specs.Names.{Name}
use Rattle.seq_tree.specs.Statements.{Statement, Statements, Branches, Null, Assign, If, For, ExitWhen, Call, Work, Put, End, Then, Nothing}
use Rattle.seq_tree.specs.Statements.{Else, When}
use Rattle.machine.specs.Pieces.{Piece, Turning, Turned, Returning, Closing, Requested, Finishing, turns, pieces_of, pieces, branch_pieces}
use Rattle.machine.specs.Pieces.{after_loop}

-- what a piece is to a loop that is left: passed over, the end of a turn, or the end of a body or of a request
pub data Kind : Type 0 where
  Step TurnEnd BodyEnd : Kind

abbrev pub kind : Piece → Kind
kind (Turned name at last body) = TurnEnd
kind (Returning outs stores caller) = BodyEnd
kind (Closing object op vars outs stores caller) = BodyEnd
kind (Requested task v) = BodyEnd
kind Finishing = BodyEnd
kind _ = Step

-- whether the innermost body is inside a loop, by a piece and by the pieces behind it
abbrev pub in_loop_by : Kind → Bool → Bool
in_loop_by Step others = others
in_loop_by TurnEnd others = true
in_loop_by BodyEnd others = false

abbrev pub in_loop : List Piece → Bool
in_loop [] = false
in_loop (x ∷ xs) = in_loop_by (kind x) (in_loop xs)

-- what does not depend on pieces that a loop passes over does not depend on the pieces of a block
module _ {ℓ} {T : Type ℓ} (F : List Piece → T) (past : (x : Piece) (xs : List Piece) → kind x ≡ Step → F (x ∷ xs) ≡ F xs) where
  pub past_turns : (name : Name) (at last : ℕ) (body : Statements) (rest : List Piece) → F (turns name at last body rest) ≡ F rest
  past_turns name at last body rest = by (nat_le at last)
    where
      by : (b : Bool) → F (if b then Turning name at last body ∷ rest else rest) ≡ F rest
      by true = past (Turning name at last body) rest refl
      by false = refl

  mutual
    pub past_statement : (s : Statement) (rest : List Piece) → F (pieces_of s rest) ≡ F rest
    past_statement Null rest = past _ rest refl
    past_statement (Assign target e) rest = past _ rest refl
    past_statement (If branches) rest = past_branches branches rest
    past_statement (For name low high body) rest = past_turns name low high body rest
    past_statement (ExitWhen condition) rest = past _ rest refl
    past_statement (Call object op actuals) rest = past _ rest refl
    past_statement (Work ticks) rest = past _ rest refl
    past_statement (Put e) rest = past _ rest refl

    pub past_block : (b : Statements) (rest : List Piece) → F (pieces b rest) ≡ F rest
    past_block End rest = refl
    past_block (Then first others) rest = past_statement first (pieces others rest) ∙ past_block others rest

    pub past_branches : (b : Branches) (rest : List Piece) → F (branch_pieces b rest) ≡ F rest
    past_branches Nothing rest = refl
    past_branches (Else block) rest = past_block block rest
    past_branches (When condition block others) rest = past _ rest refl

  -- nor on the loop itself, where it does not depend on the end of a turn
  pub past_loop : ((name : Name) (at last : ℕ) (body : Statements) (xs : List Piece) → F (Turned name at last body ∷ xs) ≡ F xs)
      → (ps : List Piece) → in_loop ps ≡ true → F (after_loop ps) ≡ F ps
  past_loop ends [] e = absurd (false≢true e)
  past_loop ends (Turned name at last body ∷ rest) e = sym (ends name at last body rest)
  past_loop ends (Returning outs stores caller ∷ rest) e = absurd (false≢true e)
  past_loop ends (Closing object op vars outs stores caller ∷ rest) e = absurd (false≢true e)
  past_loop ends (Requested task v ∷ rest) e = absurd (false≢true e)
  past_loop ends (Finishing ∷ rest) e = absurd (false≢true e)
  past_loop ends (_ ∷ rest) e = past_loop ends rest e ∙ sym (past _ rest refl)

-- whether pieces stand inside a loop doesn't depend on those of a block before them
past_in_loop : (x : Piece) (xs : List Piece) → kind x ≡ Step → in_loop (x ∷ xs) ≡ in_loop xs
past_in_loop x xs e = ap (λ k. in_loop_by k (in_loop xs)) e

pub in_loop-block : (b : Statements) (rest : List Piece) → in_loop (pieces b rest) ≡ in_loop rest
in_loop-block = past_block in_loop past_in_loop
