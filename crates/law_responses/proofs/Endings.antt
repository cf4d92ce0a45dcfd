-- The last piece of an activation is its end, whatever stands before it; and the ticks of a piece are at most what it weighs.
use Rattle.std.specs.Prelude.{◌≡◌, ℕ, ◌≤◌, true, List, [], ◌∷◌, Option, ⊤}
use Rattle.std.proofs.Common.{arith}
use Rattle.seq_tree.specs.Statements.{Statements}
use Rattle.seq_tree.specs.Variables.{Variables}
use Rattle.machine.specs.Systems.{System}
use Rattle.machine.specs.Pieces.{Piece, Leaving, Working, Turned, Returning, Closing, Keeping, Opening, Requested, Finishing, pieces, ticks_of}
use Rattle.machine.specs.Pieces.{after_loop}
use Rattle.machine.specs.Deeds.{done}
use Rattle.law_calls.proofs.Shared.Remaining.{own, rest}
use Rattle.law_responses.proofs.Frames.{Frame, ticks_measure, HasEnd, remaining}
use Rattle.law_responses.proofs.Carrying.{IsPlain, IsNotEnd, block-carries, done-carries}
use Rattle.law_ceilings.proofs.Shared.Pieces.{is_in_loop}
use Rattle.law_ceilings.proofs.Shared.Paying.{work-most}

-- a block puts its pieces before it
end-plain : (p : Piece) (ps : List Piece) → IsPlain p → HasEnd ps → HasEnd (p ∷ ps)
end-plain Finishing ps plain h = absurd plain
end-plain _ ps plain h = h

end-request : (task : ℕ) (value : Option ℕ) (ps : List Piece) → HasEnd ps → HasEnd (Keeping task value ∷ Opening task ∷ Requested task value ∷ ps)
end-request task value ps h = h

pub block-end : (b : Statements) (ps : List Piece) → HasEnd ps → HasEnd (pieces b ps)
block-end = block-carries HasEnd end-plain end-request

-- inside a loop the end stands behind it
loop-end : (ps : List Piece) → is_in_loop ps ≡ true → HasEnd ps → HasEnd (after_loop ps)
loop-end [] e h = h
loop-end (Turned name at last body ∷ ps) e h = h
loop-end (Returning outs stores caller ∷ ps) e h = cc
loop-end (Closing object op vars outs stores caller ∷ ps) e h = cc
loop-end (Requested task value ∷ ps) e h = cc
loop-end (Finishing ∷ ps) e h = cc
loop-end (_ ∷ ps) e h = loop-end ps e h

-- an exit stands in a loop
abbrev pub FirstFits : Piece → List Piece → Type 0
FirstFits (Leaving condition) ps = is_in_loop ps ≡ true
FirstFits _ ps = ⊤

-- after an effect but that of the end itself it is still to come
pub done-end : (y : System) (p : Piece) (vars : Variables) (ps : List Piece) → FirstFits p ps → IsNotEnd p → HasEnd (p ∷ ps)
    → HasEnd ((done y p vars ps).pieces)
done-end y Finishing vars ps fit more h = absurd more
done-end y (Leaving condition) vars ps fit more h = done-carries HasEnd end-plain end-request y (Leaving condition) vars ps tt (loop-end ps fit h, h)
done-end y p vars ps fit more h = done-carries HasEnd end-plain end-request y p vars ps more h

-- the ticks of a piece are at most what it weighs
pub ticks-own : (f : Frame) (duration : Option ℕ) (p : Piece) → ticks_of f.system.costs duration p ≤ own (ticks_measure f) p
ticks-own f duration (Working ticks) = work-most ticks duration
ticks-own f duration _ = omega arith

pub remaining-own : (f : Frame) (duration : Option ℕ) (p : Piece) (ps : List Piece)
    → remaining (ticks_measure f) (ticks_of f.system.costs duration p) (p ∷ ps) ≤ rest (ticks_measure f) (p ∷ ps)
remaining-own f duration p ps = omega (arith, ticks-own f duration p)
