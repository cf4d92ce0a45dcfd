-- What is promised of flat code.
use Rattle.std.specs.Prelude.{◌≡◌, ◌≤◌, ◌<◌, ℕ, ◌+◌, Bool, List, ◌∷◌}
use Rattle.seq_tree.specs.Names.{Name}
use Rattle.seq_tree.specs.Statements.{Statements}
use Rattle.seq_tree.specs.Variables.{Variables}
use Rattle.seq_tree.specs.Operations.{Operation}
use Rattle.seq_tree.specs.Expressions.{Expression}
use Rattle.machine.specs.Systems.{System, ProtectedUnit, Plain, Protected, Request, Unknown, callee}
use Rattle.machine.specs.Pieces.{Piece, Calling, Finishing, Turned, pieces}
use Rattle.law_flat_code.specs.Codes.{CodeTest, BlockStands, BodyStands, block_size, told_by}
use Rattle.law_flat_code.specs.Aheads.{Ahead, Context, Somewhere}
use Rattle.law_flat_code.specs.Withins.{AllLead, StaysWithin, scope_within, within}
use Rattle.law_flat_code.specs.Following.{DependsBelow, Stepping, block_view}
use Rattle.law_flat_code.specs.Steps.{Calls, Finishes, GoesOn, GoesPast, IsInside, IsOwn, IsPart, IsReturn, Passes, Returns, TurnEnds}

-- ahead of a block are its pieces, and those that are ahead of its end
abbrev pub BlockIsAhead : Type 0
BlockIsAhead = (reads : CodeTest) (out : Context) (pc : ℕ) (block : Statements) (rest : List Piece)
    → BlockStands (told_by reads) out.scope out.to pc block
    → Ahead (told_by reads) out rest (pc + block_size block) → Ahead (told_by reads) out (pieces block rest) pc

-- what a piece does, its instruction does
abbrev pub PiecesGoOn : Type 0
PiecesGoOn = (y : System) (reads : CodeTest) (out : Context) (pc : ℕ) (p : Piece) (vars : Variables) (rest : List Piece) → IsOwn p → IsInside p rest
    → Ahead (told_by reads) out (p ∷ rest) pc → GoesOn y (told_by reads) out pc p vars rest

-- the end of a turn
abbrev pub TurnsEnd : Type 0
TurnsEnd = (reads : CodeTest) (out : Context) (pc : ℕ) (name : Name) (at last : ℕ) (body : Statements) (rest : List Piece)
    → Ahead (told_by reads) out (Turned name at last body ∷ rest) pc → TurnEnds (told_by reads) out pc name at last body rest

-- a call of a passive operation whose body stands somewhere, for a scope
abbrev pub CallsEnter : Type 0
CallsEnter = (y : System) (reads : CodeTest) (out : Context) (pc start : ℕ) (inner : Variables) (object op : Name) (actuals : List Expression)
    (o : Operation) (vars : Variables) (rest : List Piece) → callee y object op ≡ Plain o → BodyStands (told_by reads) inner start o.block
    → Ahead (told_by reads) out (Calling object op actuals ∷ rest) pc → Calls y (told_by reads) out pc start inner object op actuals vars rest

-- a call of a protected operation whose body stands somewhere, for a scope
abbrev pub SectionsEnter : Type 0
SectionsEnter = (y : System) (reads : CodeTest) (out : Context) (pc start : ℕ) (inner : Variables) (object op : Name) (actuals : List Expression)
    (at place : ℕ) (g : ProtectedUnit) (o : Operation) (vars : Variables) (rest : List Piece) → callee y object op ≡ Protected at place g o
    → BodyStands (told_by reads) inner start o.block → Ahead (told_by reads) out (Calling object op actuals ∷ rest) pc
    → Calls y (told_by reads) out pc start inner object op actuals vars rest

-- the request of a task
abbrev pub RequestsGoOn : Type 0
RequestsGoOn = (y : System) (reads : CodeTest) (out : Context) (pc task : ℕ) (object op : Name) (actuals : List Expression) (vars : Variables)
    (rest : List Piece) → callee y object op ≡ Request task → Ahead (told_by reads) out (Calling object op actuals ∷ rest) pc
    → GoesPast y (told_by reads) out pc object op actuals vars rest

-- a call that leads nowhere
abbrev pub UnknownGoesOn : Type 0
UnknownGoesOn = (y : System) (reads : CodeTest) (out : Context) (pc : ℕ) (object op : Name) (actuals : List Expression) (vars : Variables)
    (rest : List Piece) → callee y object op ≡ Unknown → Ahead (told_by reads) out (Calling object op actuals ∷ rest) pc
    → GoesPast y (told_by reads) out pc object op actuals vars rest

-- a part of a request
abbrev pub PartsPass : Type 0
PartsPass = (y : System) (reads : CodeTest) (out : Context) (pc : ℕ) (p : Piece) (vars : Variables) (rest : List Piece) → IsPart p
    → Ahead (told_by reads) out (p ∷ rest) pc → Passes y (told_by reads) out pc p vars rest

-- the end of the body of an operation, passive or protected
abbrev pub BodiesReturn : Type 0
BodiesReturn = (y : System) (reads : CodeTest) (out : Context) (pc : ℕ) (p : Piece) (vars : Variables) (rest : List Piece) → IsReturn p
    → Ahead (told_by reads) out (p ∷ rest) pc → Returns y (told_by reads) out pc p vars rest

-- the end of an activation
abbrev pub ActivationsFinish : Type 0
ActivationsFinish = (reads : CodeTest) (out : Context) (pc : ℕ) (rest : List Piece)
    → Ahead (told_by reads) out (Finishing ∷ rest) pc → Finishes (told_by reads) out pc

-- ahead of each place inside a block are the pieces from its instruction on
abbrev pub PlacesAreAhead : Type 0
PlacesAreAhead = (b : Statements) (reads : CodeTest) (out : Context) (pc n : ℕ) (open' : Bool) (depth : ℕ) (turn : ℕ → ℕ) (rest : List Piece)
    → BlockStands (told_by reads) out.scope out.to pc b → n ≤ block_size b → Ahead (told_by reads) out rest (pc + block_size b)
    → Somewhere (told_by reads) out (scope_within b n open' out.scope) (within b n open' depth turn rest) (pc + n)

-- the pieces from the first instruction of a block on are those of the block
abbrev pub BlocksBegin : Type 0
BlocksBegin = (b : Statements) (open' : Bool) (depth : ℕ) (turn : ℕ → ℕ) (rest : List Piece) → within b 0 open' depth turn rest ≡ pieces b rest

-- a move in no time inside a block: the same pieces are left
abbrev pub MovesStay : Type 0
MovesStay = (b : Statements) (reads : CodeTest) (scope : Variables) (out pc n to : ℕ) (open' : Bool) (depth : ℕ) (turn : ℕ → ℕ) (rest : List Piece)
    → BlockStands (told_by reads) scope out pc b → n < block_size b → AllLead (told_by reads) (pc + n) to
    → StaysWithin b pc n to open' depth turn scope rest

-- each instruction of a block: what it is, and from which place and turns on the pieces after it are left
abbrev pub InstructionsFollow : Type 0
InstructionsFollow = (b : Statements) (reads : CodeTest) (scope : Variables) (out pc n : ℕ) (open' : Bool) (depth : ℕ)
    (turn : ℕ → ℕ) (rest : (ℕ → ℕ) → List Piece) → DependsBelow depth rest → BlockStands (told_by reads) scope out pc b → n < block_size b
    → Stepping (told_by reads) (block_view b depth rest scope) (block_size b) pc n out open' depth turn (rest turn) scope
