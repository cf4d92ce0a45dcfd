-- What stands among the pieces left to a task: the ends of the sections that it is inside, exits inside loops, and calls that may be made there.
-- The ends of sections are in the order of the pieces, so that the innermost section ends first.
use Rattle.std.specs.Prelude.{◌≡◌, ℕ, Bool, true, false, List, [], ◌∷◌, Option, Some, None, ⊤}
use Rattle.seq_tree.specs.Names.{Name}
use Rattle.machine.specs.Systems.{System, CallTarget, Plain, Protected, Request, Unknown, callee}
use Rattle.machine.specs.Pieces.{Piece, Leaving, Calling, Testing, Turning, Turned, Returning, Closing, Keeping, Opening, Requested, Finishing}
use Rattle.machine.specs.States.{Resource, Object, Control}
use Rattle.law_ceilings.specs.Bodies.{BlockFits, BranchesFit}

-- the sections that end among these pieces, in order
abbrev pub closers : List Piece → List Resource
closers [] = []
closers (Closing object op vars outs stores caller ∷ ps) = Object object ∷ closers ps
closers (Requested task value ∷ ps) = Control task ∷ closers ps
closers (_ ∷ ps) = closers ps

-- whether the innermost body or loop whose end stands among these pieces is a loop
abbrev pub is_in_loop : List Piece → Bool
is_in_loop [] = false
is_in_loop (Turned name at last body ∷ ps) = true
is_in_loop (Returning outs stores caller ∷ ps) = false
is_in_loop (Closing object op vars outs stores caller ∷ ps) = false
is_in_loop (Requested task value ∷ ps) = false
is_in_loop (Finishing ∷ ps) = false
is_in_loop (_ ∷ ps) = is_in_loop ps

-- which calls may be made inside which sections, the innermost first
abbrev pub Permission : Type 1
Permission = Name → Name → List Resource → Type 0

-- these calls, inside these sections
abbrev pub Inside : Permission → List Resource → Name → Name → Type 0
Inside May ss unit op = May unit op ss

-- pieces whose first is the barrier of a request of this task, before its end
abbrev pub AreOpening : ℕ → List Piece → Type 0
AreOpening task (Opening other ∷ Requested same value ∷ ps) = (other ≡ task) × (same ≡ task)
AreOpening task _ = ⊥

-- pieces whose first is the end of a request of this task
abbrev pub AreEnding : ℕ → List Piece → Type 0
AreEnding task (Requested other value ∷ ps) = other ≡ task
AreEnding task _ = ⊥

-- a piece that may stand before these
abbrev pub IsFit : Permission → Piece → List Piece → Type 0
IsFit May (Leaving condition) ps = is_in_loop ps ≡ true
IsFit May (Calling unit op actuals) ps = May unit op (closers ps)
IsFit May (Testing condition block others) ps =
    BlockFits (Inside May (closers ps)) (is_in_loop ps) block × BranchesFit (Inside May (closers ps)) (is_in_loop ps) others
IsFit May (Turning name at last body) ps = BlockFits (Inside May (closers ps)) true body
IsFit May (Turned name at last body) ps = BlockFits (Inside May (closers ps)) true body
IsFit May (Keeping task value) ps = AreOpening task ps
IsFit May (Opening task) ps = AreEnding task ps
IsFit May Finishing ps = ps ≡ []
IsFit May _ ps = ⊤

-- pieces each of which may stand where it stands
abbrev pub AreFit : Permission → List Piece → Type 0
AreFit May [] = ⊤
AreFit May (p ∷ ps) = IsFit May p ps × AreFit May ps

-- the section that a call enters, where it enters one
abbrev pub entered_by : CallTarget → Option Resource
entered_by (Plain o) = None
entered_by (Protected object op g o) = Some (Object object)
entered_by (Request task) = Some (Control task)
entered_by Unknown = None

-- the body that a call leads to, whose calls may be made there
abbrev pub LeadsWithin : Permission → CallTarget → List Resource → Type 0
LeadsWithin May (Plain o) ss = BlockFits (Inside May ss) false o.block
LeadsWithin May (Protected object op g o) ss = BlockFits (Inside May (Object object ∷ ss)) false o.block
LeadsWithin May (Request task) ss = ⊤
LeadsWithin May Unknown ss = ⊤

-- calls whose bodies make such calls alone
abbrev pub IsClosed : System → Permission → Type 0
IsClosed y May = (unit op : Name) (ss : List Resource) → May unit op ss → LeadsWithin May (callee y unit op) ss
