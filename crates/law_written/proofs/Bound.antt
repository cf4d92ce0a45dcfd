-- What is kept of the pieces of a task: the last is the end of the activation, and each end of a protected body keeps its object's data.
use Rattle.std.specs.Prelude.{◌≡◌, ℕ, suc, Bool, true, false, List, [], ◌∷◌, drop, Some, slice_get, refl, if◌then◌else◌}
use Rattle.std.proofs.Common.{ap, sym, subst}
use Rattle.seq_tree.specs.Names.{Name}
use Rattle.seq_tree.specs.Expressions.{Expression}
use Rattle.seq_tree.specs.Statements.{Statements, Branches}
use Rattle.seq_tree.specs.Variables.{Variables, kept}
use Rattle.seq_tree.specs.Values.{holds}
use Rattle.ada_tree.specs.Programs.{Program}
use Rattle.machine.specs.Systems.{System, ProtectedUnit, CallTarget, Plain, Protected, Request, Unknown, callee, system}
use Rattle.machine.specs.Pieces.{Piece, Idle, Store, Leaving, Calling, Working, Printing, Testing, Turning, Turned, Returning, Closing, Keeping}
use Rattle.machine.specs.Pieces.{Opening, Requested, Finishing, turns, pieces, branch_pieces, after_loop}
use Rattle.machine.specs.Deeds.{Act, Silent, Leave, Ended, Finish, PieceOutcome, deed, done, called}
use Rattle.machine.specs.States.{Object, Control}
use Rattle.guarantee.specs.Software.{Software, program_software}
use Rattle.law_written.proofs.Shared.Claims.{Naming}
use Rattle.arrivals_tree.specs.Arriving.{Arrivals}
use Rattle.law_tasks.proofs.Shared.Courses.{Course, FitPieces}
use Rattle.law_tasks.proofs.Shared.Programs.{course}
use Rattle.ada_tree.specs.Rules.{MeetsRules}
use Rattle.law_written.proofs.Shared.Namings.{naming}
use Rattle.law_calls.proofs.Shared.Pieces.{in_loop, kind, Step, past_block, past_branches, past_turns, past_loop}
use Rattle.law_ceilings.proofs.Shared.Pieces.{closers}

-- pieces of an activation
abbrev pub IsBound : System → List Piece → Type 0
IsBound y [] = ⊥
IsBound y (Finishing ∷ rest) = rest ≡ []
IsBound y (Closing object op vars outs stores caller ∷ rest) = (g : ProtectedUnit) × (slice_get y.objects object ≡ Some g) × (vars ≡ g.vars)
    × IsBound y rest
IsBound y (_ ∷ rest) = IsBound y rest

-- this doesn't depend on pieces that a loop passes over
past_bound : (y : System) (x : Piece) (xs : List Piece) → kind x ≡ Step → IsBound y (x ∷ xs) ≡ IsBound y xs
past_bound y (Closing object op vars outs stores caller) xs e = absurd cc
past_bound y Finishing xs e = absurd cc
past_bound y _ xs e = refl

pub bound_block : (y : System) (b : Statements) (rest : List Piece) → IsBound y rest → IsBound y (pieces b rest)
bound_block y b rest = subst (λ (P : Type 0). P) (sym (past_block (IsBound y) (past_bound y) b rest))

bound_branches : (y : System) (b : Branches) (rest : List Piece) → IsBound y rest → IsBound y (branch_pieces b rest)
bound_branches y b rest = subst (λ (P : Type 0). P) (sym (past_branches (IsBound y) (past_bound y) b rest))

bound_turns : (y : System) (name : Name) (at last : ℕ) (body : Statements) (rest : List Piece) → IsBound y rest
    → IsBound y (turns name at last body rest)
bound_turns y name at last body rest = subst (λ (P : Type 0). P) (sym (past_turns (IsBound y) (past_bound y) name at last body rest))

-- a loop that is left stands in the activation
bound_loop : (y : System) (rest : List Piece) → in_loop rest ≡ true → IsBound y rest → IsBound y (after_loop rest)
bound_loop y rest e = subst (λ (P : Type 0). P) (sym (past_loop (IsBound y) (past_bound y) (λ name at last body xs. refl) rest e))

-- what is known of a deed
abbrev pub Known : System → Piece → Variables → List Piece → Act → PieceOutcome → Type 0
Known y x vars rest (Leave object op values data') d =
    (g : ProtectedUnit) × (slice_get y.objects object ≡ Some g) × (data' ≡ kept g.vars vars) × (closers (x ∷ rest) ≡ Object object ∷ closers d.pieces)
    × IsBound y d.pieces
Known y x vars rest (Ended task value) d = (closers (x ∷ rest) ≡ Control task ∷ closers d.pieces) × IsBound y d.pieces
Known y x vars rest Finish d = (x ≡ Finishing) × (d.vars ≡ vars)
Known y x vars rest _ d = IsBound y d.pieces

module _ (p : Program) (arrivals : Arrivals) (meets : MeetsRules p) where
  abbrev y : System
  y = system p arrivals

  abbrev w : Software
  w = program_software p

  abbrev setup : Course
  setup = course p arrivals

  names' : Naming p y w
  names' = naming p arrivals meets

  known_call : (unit op : Name) (actuals : List Expression) (vars : Variables) (rest : List Piece) (c : CallTarget) → callee y unit op ≡ c
      → IsBound y rest
      → Known y (Calling unit op actuals) vars rest (called c actuals vars rest).act (called c actuals vars rest)
  known_call unit op actuals vars rest (Plain o) e h = bound_block y o.block _ h
  known_call unit op actuals vars rest (Protected object at g o) e h =
      bound_block y o.block _ (g, (names'.callees unit op object at g o e).0, refl, h)
  known_call unit op actuals vars rest (Request task) e h = h
  known_call unit op actuals vars rest Unknown e h = h

  pub known_done : (x : Piece) (vars : Variables) (rest : List Piece) → FitPieces setup.Good (x ∷ rest) → IsBound y (x ∷ rest)
      → Known y x vars rest (done y x vars rest).act (done y x vars rest)
  known_done Idle vars rest fit h = h
  known_done (Store target e) vars rest fit h = h
  known_done (Leaving condition) vars rest fit h = by (holds condition vars)
    where
      by : (b : Bool) → Known y (Leaving condition) vars rest (if b then deed Silent (drop 1 vars) (after_loop rest) else deed Silent vars rest).act
          (if b then deed Silent (drop 1 vars) (after_loop rest) else deed Silent vars rest)
      by true = bound_loop y rest (fit.0) h
      by false = h
  known_done (Calling unit op actuals) vars rest fit h = known_call unit op actuals vars rest (callee y unit op) refl h
  known_done (Working ticks) vars rest fit h = h
  known_done (Printing e) vars rest fit h = h
  known_done (Testing condition block others) vars rest fit h = by (holds condition vars)
    where
      by : (b : Bool) → IsBound y (if b then pieces block rest else branch_pieces others rest)
      by true = bound_block y block rest h
      by false = bound_branches y others rest h
  known_done (Turning name at last body) vars rest fit h = bound_block y body (Turned name at last body ∷ rest) h
  known_done (Turned name at last body) vars rest fit h = bound_turns y name (suc at) last body rest h
  known_done (Returning outs stores caller) vars rest fit h = h
  known_done (Closing object op data' outs stores caller) vars rest fit h = (h.0, h.1, ap (λ ds. kept ds vars) h.2, refl, h.3)
  known_done (Keeping task v) vars rest fit h = h
  known_done (Opening task) vars rest fit h = h
  known_done (Requested task v) vars rest fit h = (refl, h)
  known_done Finishing vars rest fit h = (refl, refl)
