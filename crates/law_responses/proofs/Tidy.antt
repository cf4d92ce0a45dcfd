-- The end of a request stands only behind its barrier, so that it takes effect right after it.
use Rattle.std.specs.Prelude.{◌≡◌, Option, ℕ, List, [], ◌∷◌, ⊤, refl}
use Rattle.std.proofs.Common.{sym, ◌∙◌}
use Rattle.seq_tree.specs.Statements.{Statements}
use Rattle.seq_tree.specs.Variables.{Variables}
use Rattle.machine.specs.Systems.{System}
use Rattle.machine.specs.Pieces.{Piece, Leaving, Turned, Keeping, Opening, Requested, Finishing, pieces, after_loop}
use Rattle.machine.specs.Deeds.{done}
use Rattle.law_responses.proofs.Frames.{EndsRequest}
use Rattle.law_responses.proofs.Carrying.{IsPlain, block-carries, done-carries}

-- pieces without the end of a request but right behind its barrier
abbrev mutual
  pub NoEnds : List Piece → Type 0
  NoEnds [] = ⊤
  NoEnds (Opening task ∷ ps) = EndsOf task ps
  NoEnds (Requested task value ∷ ps) = ⊥
  NoEnds (_ ∷ ps) = NoEnds ps

  pub EndsOf : ℕ → List Piece → Type 0
  EndsOf task [] = ⊥
  EndsOf task (Requested other value ∷ ps) = (other ≡ task) × NoEnds ps
  EndsOf task (_ ∷ ps) = ⊥

-- pieces that may begin with the end of a request
abbrev pub Tidy : List Piece → Type 0
Tidy [] = ⊤
Tidy (Requested task value ∷ ps) = NoEnds ps
Tidy (Opening task ∷ ps) = EndsOf task ps
Tidy (_ ∷ ps) = NoEnds ps

pub tidy-from : (ps : List Piece) → NoEnds ps → Tidy ps
tidy-from [] h = h
tidy-from (Requested task value ∷ ps) h = absurd h
tidy-from (_ ∷ ps) h = h

pub no-ends : (k : ℕ) (ps : List Piece) → NoEnds ps → EndsRequest k ps → ⊥
no-ends k [] h e = e
no-ends k (Requested task value ∷ ps) h e = h
no-ends k (_ ∷ ps) h e = e

-- a block puts no end of a request but right behind its barrier
none-plain : (p : Piece) (ps : List Piece) → IsPlain p → NoEnds ps → NoEnds (p ∷ ps)
none-plain (Keeping task value) ps plain h = absurd plain
none-plain (Opening task) ps plain h = absurd plain
none-plain (Requested task value) ps plain h = absurd plain
none-plain Finishing ps plain h = absurd plain
none-plain _ ps plain h = h

none-request : (task : ℕ) (value : Option ℕ) (ps : List Piece) → NoEnds ps → NoEnds (Keeping task value ∷ Opening task ∷ Requested task value ∷ ps)
none-request task value ps h = (refl, h)

pub block-tidy : (b : Statements) (ps : List Piece) → NoEnds ps → NoEnds (pieces b ps)
block-tidy = block-carries NoEnds none-plain none-request

mutual
  loop-tidy : (ps : List Piece) → NoEnds ps → NoEnds (after_loop ps)
  loop-tidy [] h = h
  loop-tidy (Turned name at last body ∷ ps) h = h
  loop-tidy (Opening task ∷ ps) h = ends-loop ps task h
  loop-tidy (Requested task value ∷ ps) h = absurd h
  loop-tidy (_ ∷ ps) h = loop-tidy ps h

  ends-loop : (ps : List Piece) (task : ℕ) → EndsOf task ps → NoEnds (after_loop ps)
  ends-loop [] task h = absurd h
  ends-loop (Requested other value ∷ ps) task h = loop-tidy ps h.1
  ends-loop (_ ∷ ps) task h = absurd h

-- whether a piece is no barrier
abbrev pub IsNoBarrier : Piece → Type 0
IsNoBarrier (Opening task) = ⊥
IsNoBarrier _ = ⊤

-- after an effect but that of a barrier no end of a request is first
pub done-tidy : (y : System) (p : Piece) (vars : Variables) (ps : List Piece) → IsNoBarrier p → Tidy (p ∷ ps) → NoEnds ((done y p vars ps).pieces)
done-tidy y (Opening task) vars ps other h = absurd other
done-tidy y Finishing vars ps other h = tt
done-tidy y (Leaving condition) vars ps other h = done-carries NoEnds none-plain none-request y (Leaving condition) vars ps tt (loop-tidy ps h, h)
done-tidy y p vars ps other h = done-carries NoEnds none-plain none-request y p vars ps tt h

-- after that of a barrier the end of its request is
pub barrier-tidy : (k : ℕ) (ps : List Piece) → EndsOf k ps → Tidy ps
barrier-tidy k [] h = absurd h
barrier-tidy k (Requested other value ∷ ps) h = h.1
barrier-tidy k (_ ∷ ps) h = absurd h

pub barrier-ends : (k j : ℕ) (ps : List Piece) → EndsOf k ps → EndsRequest j ps → j ≡ k
barrier-ends k j [] h e = absurd h
barrier-ends k j (Requested other value ∷ ps) h e = sym e ∙ h.0
barrier-ends k j (_ ∷ ps) h e = absurd h
