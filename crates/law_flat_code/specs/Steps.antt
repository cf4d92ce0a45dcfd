-- What an instruction does to the place where it goes on, when its ticks are used.
use Rattle.std.specs.Prelude.{◌≡◌, ℕ, suc, Bool, true, false, List, [], ◌∷◌, ⊤, nat_le, drop, if◌then◌else◌}
use Rattle.seq_tree.specs.Variables.{Variables}
use Rattle.seq_tree.specs.Values.{holds}
use Rattle.machine.specs.Systems.{System}
use Rattle.machine.specs.Pieces.{Piece, turns}
use Rattle.machine.specs.Pieces as piece
use Rattle.machine.specs.Deeds.{done}
use Rattle.seq_tree.specs.Names.{Name}
use Rattle.seq_tree.specs.Expressions.{Expression}
use Rattle.seq_tree.specs.Statements.{Statements}
use Rattle.law_flat_code.specs.Codes.{Code, Ins, Return, Calling, Test, Exit, Jump, Next, Finish, in_turn}
use Rattle.law_flat_code.specs.Aheads.{Ahead, Context, Jumps, in_call, in_loop}

-- the condition of an instruction
abbrev pub tested : Ins → Variables → Bool
tested (Test condition other) vars = holds condition vars
tested (Exit condition to) vars = holds condition vars
tested _ vars = true

-- where it goes on, by whether the condition holds
abbrev pub goes_to : Ins → Bool → ℕ → ℕ
goes_to (Test condition other) true pc = suc pc
goes_to (Test condition other) false pc = other
goes_to (Exit condition to) true pc = to
goes_to (Exit condition to) false pc = suc pc
goes_to (Jump to) b pc = to
goes_to (Next name last start) b pc = start
goes_to _ b pc = suc pc

-- the scope where it goes on: a turn has its variable, and a loop that is left has none
abbrev pub goes_with : Piece → Variables → Variables → Variables
goes_with (piece.Turning name at last body) vars scope = in_turn name scope
goes_with (piece.Leaving condition) vars scope = if holds condition vars then drop 1 scope else scope
goes_with _ vars scope = scope

-- a piece that concerns its task alone and takes ticks
abbrev pub IsOwn : Piece → Type 0
IsOwn piece.Idle = ⊤
IsOwn (piece.Store target e) = ⊤
IsOwn (piece.Leaving condition) = ⊤
IsOwn (piece.Working ticks) = ⊤
IsOwn (piece.Printing e) = ⊤
IsOwn (piece.Testing condition block others) = ⊤
IsOwn (piece.Turning name at last body) = ⊤
IsOwn _ = ⊥

-- a part of a request
abbrev pub IsPart : Piece → Type 0
IsPart (piece.Keeping task v) = ⊤
IsPart (piece.Opening task) = ⊤
IsPart (piece.Requested task v) = ⊤
IsPart _ = ⊥

-- the end of a body
abbrev pub IsReturn : Piece → Type 0
IsReturn (piece.Returning outs stores caller) = ⊤
IsReturn (piece.Closing object op vars outs stores caller) = ⊤
IsReturn _ = ⊥

-- the end of a turn is ahead
abbrev pub HasTurn : List Piece → Type 0
HasTurn [] = ⊥
HasTurn (piece.Turned name at last body ∷ rest) = ⊤
HasTurn (piece.Returning outs stores caller ∷ rest) = ⊥
HasTurn (piece.Closing object op vars outs stores caller ∷ rest) = ⊥
HasTurn (_ ∷ rest) = HasTurn rest

-- a loop is left inside a loop only
abbrev pub IsInside : Piece → List Piece → Type 0
IsInside (piece.Leaving condition) rest = HasTurn rest
IsInside _ rest = ⊤

-- the instruction of the first piece ahead, and what is ahead of where it goes on
pub record GoesOn (y : System) (code : Code) (before : Context) (pc : ℕ) (p : Piece) (vars : Variables) (rest : List Piece) : Type 0 where
  pub jumps : ℕ
  pub place : ℕ
  pub there : Jumps jumps code before.scope pc place
  pub ins : Ins
  pub is : code before.scope place ins
  pub out : Context
  pub scoped : out.scope ≡ goes_with p vars before.scope
  pub backs : out.backs ≡ before.backs
  pub ahead : Ahead code out ((done y p vars rest).pieces) (goes_to ins (tested ins vars) place)

-- the end of a turn: the next turn starts at the same place, or it goes on behind the loop
pub record TurnEnds (code : Code) (before : Context) (pc : ℕ) (name : Name) (at last : ℕ) (body : Statements) (rest : List Piece) : Type 0 where
  pub jumps : ℕ
  pub place : ℕ
  pub there : Jumps jumps code before.scope pc place
  pub start : ℕ
  pub out : Context
  pub inside : before ≡ in_loop out name (suc place)
  pub is : code out.scope place (Next name last start)
  pub ahead : Ahead code out (turns name (suc at) last body rest) (if nat_le (suc at) last then place else suc place)

-- a call of an operation, passive or protected: its body is ahead, and behind that what is behind the call
pub record Calls (y : System) (code : Code) (before : Context) (pc start : ℕ) (inner : Variables) (object op : Name) (actuals : List Expression)
    (vars : Variables) (rest : List Piece) : Type 0 where
  pub jumps : ℕ
  pub place : ℕ
  pub there : Jumps jumps code before.scope pc place
  pub is : code before.scope place (Calling object op actuals)
  pub ahead : Ahead code (in_call before (suc place) inner) ((done y (piece.Calling object op actuals) vars rest).pieces) start

-- a request, or a call that leads nowhere: it goes on behind the call
pub record GoesPast (y : System) (code : Code) (before : Context) (pc : ℕ) (object op : Name) (actuals : List Expression) (vars : Variables)
    (rest : List Piece) : Type 0 where
  pub jumps : ℕ
  pub place : ℕ
  pub there : Jumps jumps code before.scope pc place
  pub is : code before.scope place (Calling object op actuals)
  pub ahead : Ahead code before ((done y (piece.Calling object op actuals) vars rest).pieces) (suc place)

-- a part of a request: what is behind it is ahead of the same place
pub record Passes (y : System) (code : Code) (before : Context) (pc : ℕ) (p : Piece) (vars : Variables) (rest : List Piece) : Type 0 where
  pub jumps : ℕ
  pub place : ℕ
  pub there : Jumps jumps code before.scope pc place
  pub ahead : Ahead code before ((done y p vars rest).pieces) place

-- the end of a body: it goes on at the innermost place to which a call returns
pub record Returns (y : System) (code : Code) (before : Context) (pc : ℕ) (p : Piece) (vars : Variables) (rest : List Piece) : Type 0 where
  pub jumps : ℕ
  pub place : ℕ
  pub there : Jumps jumps code before.scope pc place
  pub is : code before.scope place Return
  pub back : ℕ
  pub out : Context
  pub backs : before.backs ≡ (back, out.scope) ∷ out.backs
  pub ahead : Ahead code out ((done y p vars rest).pieces) back

-- the end of an activation
pub record Finishes (code : Code) (before : Context) (pc : ℕ) : Type 0 where
  pub jumps : ℕ
  pub place : ℕ
  pub there : Jumps jumps code before.scope pc place
  pub is : code before.scope place Finish
