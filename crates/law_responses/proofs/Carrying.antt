-- What holds of the pieces behind a block holds with its own before them, and so it goes on to hold as the first piece takes effect.
use Rattle.std.specs.Prelude.{ℕ, suc, Bool, true, false, List, ◌∷◌, drop, nat_le, Option, if◌then◌else◌, ⊤}
use Rattle.seq_tree.specs.Names.{Name}
use Rattle.seq_tree.specs.Statements.{Statement, Statements, Branches, Null, Assign, If, For, ExitWhen, Call, Work, Put, End, Then, Nothing}
use Rattle.seq_tree.specs.Statements.{Else, When}
use Rattle.seq_tree.specs.Variables.{Variables, targets}
use Rattle.seq_tree.specs.Operations.{out_names}
use Rattle.seq_tree.specs.Values.{holds}
use Rattle.seq_tree.specs.Expressions.{Expression}
use Rattle.machine.specs.Systems.{System, CallTarget, Plain, Protected, Request, Unknown, callee}
use Rattle.machine.specs.Pieces.{Piece, Idle, Store, Leaving, Calling, Working, Printing, Testing, Turning, Turned, Returning, Closing, Keeping}
use Rattle.machine.specs.Pieces.{Opening, Requested, Finishing, turns, pieces_of, pieces, branch_pieces, after_loop}
use Rattle.machine.specs.Deeds.{done, called, deed, Silent}

-- a piece that is no part of a request, and no end of an activation
abbrev pub IsPlain : Piece → Type 0
IsPlain (Keeping task value) = ⊥
IsPlain (Opening task) = ⊥
IsPlain (Requested task value) = ⊥
IsPlain Finishing = ⊥
IsPlain _ = ⊤

-- whether a piece is no end of an activation
abbrev pub IsNotEnd : Piece → Type 0
IsNotEnd Finishing = ⊥
IsNotEnd _ = ⊤

-- what may stand behind a piece: pieces of which this holds, also where an exit leaves a loop
abbrev pub CarriesOn : (List Piece → Type 0) → Piece → List Piece → Type 0
CarriesOn P (Leaving condition) ps = P (after_loop ps) × P ps
CarriesOn P _ ps = P ps

-- what holds with plain pieces and whole requests before those of which it holds
module _ (P : List Piece → Type 0) (plain : (p : Piece) (ps : List Piece) → IsPlain p → P ps → P (p ∷ ps))
    (request : (task : ℕ) (value : Option ℕ) (ps : List Piece) → P ps → P (Keeping task value ∷ Opening task ∷ Requested task value ∷ ps)) where
  turns-carry : (name : Name) (at last : ℕ) (body : Statements) (ps : List Piece) → P ps → P (turns name at last body ps)
  turns-carry name at last body ps h = by (nat_le at last)
    where
      by : (b : Bool) → P (if b then Turning name at last body ∷ ps else ps)
      by true = plain (Turning name at last body) ps tt h
      by false = h

  mutual
    statement-carries : (s : Statement) (ps : List Piece) → P ps → P (pieces_of s ps)
    statement-carries Null ps h = plain Idle ps tt h
    statement-carries (Assign target value) ps h = plain (Store target value) ps tt h
    statement-carries (If branches) ps h = branches-carry branches ps h
    statement-carries (For name low high body) ps h = turns-carry name low high body ps h
    statement-carries (ExitWhen condition) ps h = plain (Leaving condition) ps tt h
    statement-carries (Call unit op actuals) ps h = plain (Calling unit op actuals) ps tt h
    statement-carries (Work ticks) ps h = plain (Working ticks) ps tt h
    statement-carries (Put value) ps h = plain (Printing value) ps tt h

    pub block-carries : (b : Statements) (ps : List Piece) → P ps → P (pieces b ps)
    block-carries End ps h = h
    block-carries (Then first others) ps h = statement-carries first (pieces others ps) (block-carries others ps h)

    branches-carry : (b : Branches) (ps : List Piece) → P ps → P (branch_pieces b ps)
    branches-carry Nothing ps h = h
    branches-carry (Else block) ps h = block-carries block ps h
    branches-carry (When condition block others) ps h = plain (Testing condition block others) ps tt h

  called-carries : (c : CallTarget) (actuals : List Expression) (vars : Variables) (ps : List Piece) → P ps → P ((called c actuals vars ps).pieces)
  called-carries (Plain o) actuals vars ps h =
      block-carries o.block (Returning (out_names o.sig.params) (targets o.sig.params actuals) vars ∷ ps)
      (plain (Returning (out_names o.sig.params) (targets o.sig.params actuals) vars) ps tt h)
  called-carries (Protected object op g o) actuals vars ps h =
      block-carries o.block (Closing object op g.vars (out_names o.sig.params) (targets o.sig.params actuals) vars ∷ ps)
      (plain (Closing object op g.vars (out_names o.sig.params) (targets o.sig.params actuals) vars) ps tt h)
  called-carries (Request task) actuals vars ps h = request task _ ps h
  called-carries Unknown actuals vars ps h = h

  pub done-carries : (y : System) (p : Piece) (vars : Variables) (ps : List Piece) → IsNotEnd p → CarriesOn P p ps → P ((done y p vars ps).pieces)
  done-carries y Idle vars ps more h = h
  done-carries y (Store target value) vars ps more h = h
  done-carries y (Leaving condition) vars ps more h = by (holds condition vars)
    where
      by : (b : Bool) → P ((if b then deed Silent (drop 1 vars) (after_loop ps) else deed Silent vars ps).pieces)
      by true = h.0
      by false = h.1
  done-carries y (Calling unit op actuals) vars ps more h = called-carries (callee y unit op) actuals vars ps h
  done-carries y (Working ticks) vars ps more h = h
  done-carries y (Printing value) vars ps more h = h
  done-carries y (Testing condition block others) vars ps more h = by (holds condition vars)
    where
      by : (b : Bool) → P (if b then pieces block ps else branch_pieces others ps)
      by true = block-carries block ps h
      by false = branches-carry others ps h
  done-carries y (Turning name at last body) vars ps more h
      = block-carries body (Turned name at last body ∷ ps) (plain (Turned name at last body) ps tt h)
  done-carries y (Turned name at last body) vars ps more h = turns-carry name (suc at) last body ps h
  done-carries y (Returning outs stores caller) vars ps more h = h
  done-carries y (Closing object op data' outs stores caller) vars ps more h = h
  done-carries y (Keeping task value) vars ps more h = h
  done-carries y (Opening task) vars ps more h = h
  done-carries y (Requested task value) vars ps more h = h
  done-carries y Finishing vars ps more h = absurd more
