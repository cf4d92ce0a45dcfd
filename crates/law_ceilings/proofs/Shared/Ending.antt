-- The ends of protected bodies among the pieces of a task name the data that are written of their objects.
use Rattle.std.specs.Prelude.{◌≡◌, ℕ, suc, List, [], ◌∷◌, drop, nat_le, slice_get, Some, ⊤, refl}
use Rattle.std.proofs.Common.{ap, subst}
use Rattle.seq_tree.specs.Names.{Name}
use Rattle.seq_tree.specs.Statements.{Statement, Statements, Branches, Null, Assign, If, For, ExitWhen, Call, Work, Put, End, Then, Nothing}
use Rattle.seq_tree.specs.Statements.{Else, When}
use Rattle.seq_tree.specs.Expressions.{Expression}
use Rattle.seq_tree.specs.Values.{holds}
use Rattle.seq_tree.specs.Variables.{Variables, kept, written}
use Rattle.seq_tree.specs.declared.tree.Datum.{Datum}
use Rattle.machine.specs.Systems.{System, ProtectedUnit, CallTarget, Plain, Protected, Request, Unknown, callee}
use Rattle.machine.specs.Pieces.{Piece, Idle, Store, Leaving, Calling, Working, Printing, Testing, Turning, Turned, Returning, Closing, Keeping}
use Rattle.machine.specs.Pieces.{Opening, Requested, Finishing, turns, pieces_of, pieces, branch_pieces, after_loop}
use Rattle.machine.specs.Deeds.{Act, Silent, Leave, deed, called, done}
use Rattle.law_ceilings.proofs.Shared.Excluding.{callee-object}
use Rattle.law_ceilings.proofs.Shared.Fitting.{either-way}
use Rattle.law_ceilings.specs.Homes.{AreAsWritten}

-- data that are kept, and those that are written, have the names of the data
pub kept-names : (data' : List Datum) (vars : Variables) → AreAsWritten data' (kept data' vars)
kept-names [] vars = refl
kept-names (d ∷ ds) vars = ap (λ names. d.name ∷ names) (kept-names ds vars)

pub written-names : (data' : List Datum) → AreAsWritten data' (written data')
written-names [] = refl
written-names (d ∷ ds) = ap (λ names. d.name ∷ names) (written-names ds)

-- the end of a body of an object that is there, which takes the object's data back
abbrev pub IsEnd : System → Piece → Type 0
IsEnd y (Closing object op vars outs stores caller) = (g : ProtectedUnit) × (slice_get y.objects object ≡ Some g) × (vars ≡ g.vars)
IsEnd y _ = ⊤

abbrev pub AreEnds : System → List Piece → Type 0
AreEnds y [] = ⊤
AreEnds y (p ∷ ps) = IsEnd y p × AreEnds y ps

module _ (y : System) where
  turns-end : (name : Name) (at last : ℕ) (body : Statements) (rest : List Piece) → AreEnds y rest → AreEnds y (turns name at last body rest)
  turns-end name at last body rest h = either-way (AreEnds y) (nat_le at last) (Turning name at last body ∷ rest) rest (tt, h) h

  -- the pieces of statements have no such ends of their own
  mutual
    statement-ends : (s : Statement) (rest : List Piece) → AreEnds y rest → AreEnds y (pieces_of s rest)
    statement-ends Null rest h = (tt, h)
    statement-ends (Assign target e) rest h = (tt, h)
    statement-ends (If branches) rest h = branches-end branches rest h
    statement-ends (For name low high body) rest h = turns-end name low high body rest h
    statement-ends (ExitWhen condition) rest h = (tt, h)
    statement-ends (Call object op actuals) rest h = (tt, h)
    statement-ends (Work ticks) rest h = (tt, h)
    statement-ends (Put e) rest h = (tt, h)

    pub block-ends : (b : Statements) (rest : List Piece) → AreEnds y rest → AreEnds y (pieces b rest)
    block-ends End rest h = h
    block-ends (Then first others) rest h = statement-ends first (pieces others rest) (block-ends others rest h)

    branches-end : (b : Branches) (rest : List Piece) → AreEnds y rest → AreEnds y (branch_pieces b rest)
    branches-end Nothing rest h = h
    branches-end (Else block) rest h = block-ends block rest h
    branches-end (When condition block others) rest h = (tt, h)

  -- what is left when a loop is left
  after-ends : (ps : List Piece) → AreEnds y ps → AreEnds y (after_loop ps)
  after-ends [] h = h
  after-ends (Idle ∷ ps) h = after-ends ps h.1
  after-ends (Store target value ∷ ps) h = after-ends ps h.1
  after-ends (Leaving condition ∷ ps) h = after-ends ps h.1
  after-ends (Calling unit op actuals ∷ ps) h = after-ends ps h.1
  after-ends (Working ticks ∷ ps) h = after-ends ps h.1
  after-ends (Printing value ∷ ps) h = after-ends ps h.1
  after-ends (Testing condition block others ∷ ps) h = after-ends ps h.1
  after-ends (Turning name at last body ∷ ps) h = after-ends ps h.1
  after-ends (Turned name at last body ∷ ps) h = h.1
  after-ends (Returning outs stores caller ∷ ps) h = after-ends ps h.1
  after-ends (Closing object op vars outs stores caller ∷ ps) h = after-ends ps h.1
  after-ends (Keeping task value ∷ ps) h = after-ends ps h.1
  after-ends (Opening task ∷ ps) h = after-ends ps h.1
  after-ends (Requested task value ∷ ps) h = after-ends ps h.1
  after-ends (Finishing ∷ ps) h = after-ends ps h.1

  -- what a call leaves
  called-ends : (unit op : Name) (actuals : List Expression) (vars : Variables) (ps : List Piece) (c : CallTarget) → callee y unit op ≡ c
      → AreEnds y ps → AreEnds y (called c actuals vars ps).pieces
  called-ends unit op actuals vars ps (Plain o) is h = block-ends o.block _ (tt, h)
  called-ends unit op actuals vars ps (Protected object j g o) is h =
      block-ends o.block _ ((g, callee-object y unit op object j g o is, refl), h)
  called-ends unit op actuals vars ps (Request task) is h = (tt, (tt, (tt, h)))
  called-ends unit op actuals vars ps Unknown is h = h

  -- what a deed leaves
  pub done-ends : (p : Piece) (vars : Variables) (ps : List Piece) → AreEnds y (p ∷ ps) → AreEnds y (done y p vars ps).pieces
  done-ends Idle vars ps h = h.1
  done-ends (Store target e) vars ps h = h.1
  done-ends (Leaving condition) vars ps h =
      either-way (λ d. AreEnds y d.pieces) (holds condition vars) (deed Silent (drop 1 vars) (after_loop ps)) (deed Silent vars ps)
      (after-ends ps h.1) h.1
  done-ends (Calling unit op actuals) vars ps h = called-ends unit op actuals vars ps (callee y unit op) refl h.1
  done-ends (Working ticks) vars ps h = h.1
  done-ends (Printing e) vars ps h = h.1
  done-ends (Testing condition block others) vars ps h =
      either-way (AreEnds y) (holds condition vars) (pieces block ps) (branch_pieces others ps) (block-ends block ps h.1) (branches-end others ps h.1)
  done-ends (Turning name at last body) vars ps h = block-ends body _ (tt, h.1)
  done-ends (Turned name at last body) vars ps h = turns-end name (suc at) last body ps h.1
  done-ends (Returning outs stores caller) vars ps h = h.1
  done-ends (Closing object op data' outs stores caller) vars ps h = h.1
  done-ends (Keeping task v) vars ps h = h.1
  done-ends (Opening task) vars ps h = h.1
  done-ends (Requested task v) vars ps h = h.1
  done-ends Finishing vars ps h = tt

  -- what a leave hands back
  abbrev pub HandsBack : Act → Type 0
  HandsBack (Leave object op values data') = (g : ProtectedUnit) × (slice_get y.objects object ≡ Some g) × AreAsWritten g.vars data'
  HandsBack _ = ⊤

  called-back : (actuals : List Expression) (vars : Variables) (ps : List Piece) (c : CallTarget) → HandsBack (called c actuals vars ps).act
  called-back actuals vars ps (Plain o) = tt
  called-back actuals vars ps (Protected object j g o) = tt
  called-back actuals vars ps (Request task) = tt
  called-back actuals vars ps Unknown = tt

  pub done-back : (p : Piece) (vars : Variables) (ps : List Piece) → IsEnd y p → HandsBack (done y p vars ps).act
  done-back Idle vars ps h = tt
  done-back (Store target e) vars ps h = tt
  done-back (Leaving condition) vars ps h =
      either-way (λ d. HandsBack d.act) (holds condition vars) (deed Silent (drop 1 vars) (after_loop ps)) (deed Silent vars ps) tt tt
  done-back (Calling unit op actuals) vars ps h = called-back actuals vars ps (callee y unit op)
  done-back (Working ticks) vars ps h = tt
  done-back (Printing e) vars ps h = tt
  done-back (Testing condition block others) vars ps h = tt
  done-back (Turning name at last body) vars ps h = tt
  done-back (Turned name at last body) vars ps h = tt
  done-back (Returning outs stores caller) vars ps h = tt
  done-back (Closing object op data' outs stores caller) vars ps h = (h.0, h.1, subst (λ ds. AreAsWritten ds (kept data' vars)) h.2 (kept-names data' vars))
  done-back (Keeping task v) vars ps h = tt
  done-back (Opening task) vars ps h = tt
  done-back (Requested task v) vars ps h = tt
  done-back Finishing vars ps h = tt
