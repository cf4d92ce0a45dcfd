-- The pieces of a text whose numbers are words, with places of the program, stay so, whatever a task does.
use Rattle.std.proofs.Common.{◌≡◌, ℕ, suc, ◌≤◌, Bool, true, false, List, [], ◌∷◌, length, refl, arith}
use Rattle.std.specs.Prelude.{nat_le, ⊤, if◌then◌else◌}
use Rattle.std.proofs.lemmas.Bool.{leb-true}
use Rattle.seq_tree.specs.Lists.{Each}
use Rattle.seq_tree.specs.Names.{Name}
use Rattle.seq_tree.specs.Expressions.{Expression}
use Rattle.seq_tree.specs.Statements.{Statement, Statements, Branches, Null, Assign, If, For, ExitWhen, Call, Work, Put, End, Then, Nothing}
use Rattle.seq_tree.specs.Statements.{Else, When}
use Rattle.seq_tree.specs.Values.{value, holds, handed}
use Rattle.seq_tree.specs.Variables.{Variables, written, reads}
use Rattle.ada_tree.specs.Programs.{Program}
use Rattle.trace_tree.specs.Placed.{IsUnit, IsOp}
use Rattle.machine.specs.Systems.{System, CallTarget, Plain, Protected, Request, Unknown, callee}
use Rattle.machine.specs.Pieces.{Piece, Idle, Store, Leaving, Calling, Working, Printing, Testing, Turning, Turned, Returning, Closing, Keeping}
use Rattle.machine.specs.Pieces.{Opening, Requested, Finishing, turns, pieces_of, pieces, branch_pieces, after_loop}
use Rattle.machine.specs.Deeds.{PieceOutcome, done, called}
use Rattle.machine.specs.Deeds.{Act, Silent, Print, Enter, Leave, Ask, Keep, Open, Ended, Finish}
use Rattle.machine.specs.Effects.{object_unit, task_unit}
use Rattle.law_traces.specs.Told.{IsWord, IsWordWhere, AreWords}
use Rattle.law_event_lines.proofs.Values.{HoldWords, FitExpression, pick, value-fits, write-fits, kept-fits, reads-fit, reads-few, stored-fits}
use Rattle.law_event_lines.proofs.Values.{drop-fits, opened-fits, handed-fits, outs-few, request-fits}

-- statements whose numbers are words, where they come to a value
abbrev mutual
  pub FitStatement : Statement → Type 0
  FitStatement Null = ⊤
  FitStatement (Assign target e) = FitExpression e
  FitStatement (If branches) = FitBranches branches
  FitStatement (For name low high body) = IsWord high × FitBlock body
  FitStatement (ExitWhen condition) = ⊤
  FitStatement (Call object op actuals) = Each FitExpression actuals
  FitStatement (Work ticks) = ⊤
  FitStatement (Put e) = FitExpression e

  pub FitBlock : Statements → Type 0
  FitBlock End = ⊤
  FitBlock (Then first rest) = FitStatement first × FitBlock rest

  pub FitBranches : Branches → Type 0
  FitBranches Nothing = ⊤
  FitBranches (Else block) = FitBlock block
  FitBranches (When condition block others) = FitBlock block × FitBranches others

module _ (p : Program) (y : System) where
  -- the places of an operation of an object, and of a task that is asked
  abbrev pub HasOp : ℕ → ℕ → Type 0
  HasOp object op = IsUnit p (object_unit y object) × IsOp p (object_unit y object) op

  abbrev pub HasTask : ℕ → Type 0
  HasTask task = IsUnit p (task_unit y task)

  abbrev pub FitPiece : Piece → Type 0
  FitPiece (Store target e) = FitExpression e
  FitPiece (Calling unit op actuals) = Each FitExpression actuals
  FitPiece (Printing e) = FitExpression e
  FitPiece (Testing condition block others) = FitBlock block × FitBranches others
  FitPiece (Turning name at last body) = IsWord at × IsWord last × FitBlock body
  FitPiece (Turned name at last body) = IsWord last × FitBlock body
  FitPiece (Returning outs stores caller) = HoldWords caller
  FitPiece (Closing object op data' outs stores caller) = HasOp object op × (length outs ≤ 8) × HoldWords caller
  FitPiece (Keeping task v) = IsWordWhere v
  FitPiece (Requested task v) = HasTask task × IsWordWhere v
  FitPiece _ = ⊤

  abbrev pub FitPieces : List Piece → Type 0
  FitPieces xs = Each FitPiece xs

  -- what a call leads to
  abbrev pub FitCallee : CallTarget → Type 0
  FitCallee (Plain o) = FitBlock o.block × HoldWords (written o.locals)
  FitCallee (Protected object op g o) = HasOp object op × (length o.sig.params ≤ 8) × FitBlock o.block × HoldWords (written o.locals)
  FitCallee (Request task) = HasTask task
  FitCallee Unknown = ⊤

  -- what a piece is to others
  abbrev pub FitAct : Act → Type 0
  FitAct Silent = ⊤
  FitAct (Print v) = IsWord v
  FitAct (Enter object op values) = HasOp object op × AreWords values
  FitAct (Leave object op values data') = HasOp object op × AreWords values × HoldWords data'
  FitAct (Ask task) = ⊤
  FitAct (Keep task v) = IsWordWhere v
  FitAct (Open task) = ⊤
  FitAct (Ended task v) = HasTask task × IsWordWhere v
  FitAct Finish = ⊤

  abbrev pub FitDeed : PieceOutcome → Type 0
  FitDeed d = FitAct d.act × HoldWords d.vars × FitPieces d.pieces

  -- the pieces of a text
  turns-fit : (name : Name) (at last : ℕ) (body : Statements) (rest : List Piece) → IsWord last → FitBlock body → FitPieces rest
      → FitPieces (turns name at last body rest)
  turns-fit name at last body rest w f more = by (nat_le at last) refl
    where
      by : (b : Bool) → nat_le at last ≡ b → FitPieces (if b then Turning name at last body ∷ rest else rest)
      by true e = let most = leb-true at last e in ((omega (arith, most, w), w, f), more)
      by false e = more

  mutual
    pub statement-fits : (s : Statement) (rest : List Piece) → FitStatement s → FitPieces rest → FitPieces (pieces_of s rest)
    statement-fits Null rest f more = (tt, more)
    statement-fits (Assign target e) rest f more = (f, more)
    statement-fits (If branches) rest f more = branches-fit branches rest f more
    statement-fits (For name low high body) rest f more = turns-fit name low high body rest f.0 f.1 more
    statement-fits (ExitWhen condition) rest f more = (tt, more)
    statement-fits (Call unit op actuals) rest f more = (f, more)
    statement-fits (Work ticks) rest f more = (tt, more)
    statement-fits (Put e) rest f more = (f, more)

    pub block-fits : (b : Statements) (rest : List Piece) → FitBlock b → FitPieces rest → FitPieces (pieces b rest)
    block-fits End rest f more = more
    block-fits (Then first others) rest f more = statement-fits first (pieces others rest) f.0 (block-fits others rest f.1 more)

    pub branches-fit : (b : Branches) (rest : List Piece) → FitBranches b → FitPieces rest → FitPieces (branch_pieces b rest)
    branches-fit Nothing rest f more = more
    branches-fit (Else block) rest f more = block-fits block rest f more
    branches-fit (When condition block others) rest f more = (f, more)

  behind-loop : (rest : List Piece) → FitPieces rest → FitPieces (after_loop rest)
  behind-loop [] f = f
  behind-loop (Turned name at last body ∷ rest) f = f.1
  behind-loop (_ ∷ rest) f = behind-loop rest f.1

  called-fits : (k : CallTarget) (actuals : List Expression) (vars : Variables) (rest : List Piece) → FitCallee k → Each FitExpression actuals
      → HoldWords vars → FitPieces rest → FitDeed (called k actuals vars rest)
  called-fits (Plain o) actuals vars rest c f w more =
      let h = handed-fits o.sig.params actuals vars f w in
      (tt, opened-fits o (handed o.sig.params actuals vars) c.1 h.0, block-fits o.block _ c.0 (w, more))
  called-fits (Protected object op g o) actuals vars rest c f w more =
      let h = handed-fits o.sig.params actuals vars f w in
      let outs = outs-few o.sig.params in (
        (c.0, (omega (arith, h.1, c.1), h.0)),
        opened-fits o (handed o.sig.params actuals vars) c.3 h.0,
        block-fits o.block _ c.2 ((c.0, omega (arith, outs, c.1), w), more),
      )
  called-fits (Request task) actuals vars rest c f w more =
      let v = request-fits actuals vars f w in (tt, w, (v, (tt, ((c, v), more))))
  called-fits Unknown actuals vars rest c f w more = (tt, w, more)

  -- what a task does
  module _ (texts : (unit op : Name) → FitCallee (callee y unit op)) where
    pub done-fits : (x : Piece) (vars : Variables) (rest : List Piece) → FitPiece x → FitPieces rest → HoldWords vars → FitDeed (done y x vars rest)
    done-fits Idle vars rest f more w = (tt, w, more)
    done-fits (Store target e) vars rest f more w = (tt, write-fits target (value e vars) vars (value-fits e vars f w) w, more)
    done-fits (Leaving condition) vars rest f more w =
        pick FitDeed (holds condition vars) _ _ (tt, drop-fits vars w, behind-loop rest more) (tt, w, more)
    done-fits (Calling unit op actuals) vars rest f more w = called-fits (callee y unit op) actuals vars rest (texts unit op) f w more
    done-fits (Working ticks) vars rest f more w = (tt, w, more)
    done-fits (Printing e) vars rest f more w = (value-fits e vars f w, w, more)
    done-fits (Testing condition block others) vars rest f more w =
        (tt, w, pick FitPieces (holds condition vars) _ _ (block-fits block rest f.0 more) (branches-fit others rest f.1 more))
    done-fits (Turning name at last body) vars rest f more w = (tt, (f.0, w), block-fits body _ f.2 ((f.1, f.2), more))
    done-fits (Turned name at last body) vars rest f more w =
        (tt, drop-fits vars w, turns-fit name (suc at) last body rest f.0 f.1 more)
    done-fits (Returning outs stores caller) vars rest f more w =
        (tt, stored-fits stores (reads outs vars) caller (reads-fit outs vars w) f, more)
    done-fits (Closing object op data' outs stores caller) vars rest f more w =
        let count = reads-few outs vars in (
          (f.0, (omega (arith, count, f.1), reads-fit outs vars w), kept-fits data' vars w),
          stored-fits stores (reads outs vars) caller (reads-fit outs vars w) f.2,
          more,
        )
    done-fits (Keeping task v) vars rest f more w = (f, w, more)
    done-fits (Opening task) vars rest f more w = (tt, w, more)
    done-fits (Requested task v) vars rest f more w = (f, w, more)
    done-fits Finishing vars rest f more w = (tt, w, tt)
