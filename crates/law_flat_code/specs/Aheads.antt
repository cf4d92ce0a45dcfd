-- What stands ahead of a place in flat code: the pieces that are left to do.
use Rattle.std.specs.Prelude.{◌≡◌, ◌⊎◌, ℕ, zero, suc, ◌+◌, false, List, [], ◌∷◌, ⊤, nat_le}
use Rattle.seq_tree.specs.Names.{Name}
use Rattle.seq_tree.specs.Statements.{Statements, When}
use Rattle.seq_tree.specs.Variables.{Variables}
use Rattle.machine.specs.Pieces.{Piece}
use Rattle.machine.specs.Pieces as piece
use Rattle.law_flat_code.specs.Codes.{Code, BlockStands, BranchesStand, block_size, in_turn}
use Rattle.law_flat_code.specs.Codes as ins

-- a place from which it goes on at another one, in no time
abbrev pub Leads : Code → Variables → ℕ → ℕ → Type 0
Leads code scope pc to = code scope pc (ins.Jump to)
    ⊎ ((name : Name) × (low : ℕ) × (high : ℕ) × code scope pc (ins.Begin name low high to) × (nat_le low high ≡ false))

-- the same in so many jumps
abbrev pub Jumps : ℕ → Code → Variables → ℕ → ℕ → Type 0
Jumps zero code scope pc to = pc ≡ to
Jumps (suc n) code scope pc to = (next : ℕ) × Leads code scope pc next × Jumps n code scope next to

-- where a loop is left to, which slots names have, and where calls return to with the slots there, the innermost first
pub record Context : Type 0 where
  pub to : ℕ
  pub scope : Variables
  pub backs : List (ℕ × Variables)

-- the same inside a turn of a loop that is left to this place
abbrev pub in_loop : Context → Name → ℕ → Context
in_loop c name to = record { to = to; scope = in_turn name c.scope; backs = c.backs }

-- inside a call that returns to this place, in a body with this scope
abbrev pub in_call : Context → ℕ → Variables → Context
in_call c back scope = record { to = 0; scope = scope; backs = (back, c.scope) ∷ c.backs }

-- the loop of a turn: its body, its end and what is behind it
pub record IsLoop (code : Code) (scope : Variables) (start : ℕ) (name : Name) (last : ℕ) (body : Statements) : Type 0 where
  pub stands : BlockStands code (in_turn name scope) (suc (start + block_size body)) start body
  pub ends : code scope (start + block_size body) (ins.Next name last start)

-- a turn begins at the beginning of its loop, or at the end of the turn before
abbrev pub Turns : Code → Variables → ℕ → ℕ → Name → ℕ → Type 0
Turns code scope pc start name last =
    ((low : ℕ) × (behind : ℕ) × code scope pc (ins.Begin name low last behind) × (start ≡ suc pc)) ⊎ code scope pc (ins.Next name last start)

-- the end of a body stands at a place, and the others ahead of where its call returns to
abbrev pub Backs : Code → Context → ℕ → (Context → ℕ → Type 0) → Type 0
Backs code out pc Rest =
    code out.scope pc ins.Return × (outer : Context) × (back : ℕ) × (out.backs ≡ (back, outer.scope) ∷ outer.backs) × Rest outer back

-- a piece stands at a place, and the others ahead of where it goes on; `out` says where loops are left to, and calls return to. The parts of
-- a request have no instruction of their own: they are ahead of the place behind their call.
abbrev pub Stays : Code → Context → Piece → ℕ → (Context → ℕ → Type 0) → Type 0
Stays code out piece.Idle pc Rest = code out.scope pc ins.Idle × Rest out (suc pc)
Stays code out (piece.Store target e) pc Rest = code out.scope pc (ins.Store target e) × Rest out (suc pc)
Stays code out (piece.Leaving condition) pc Rest = code out.scope pc (ins.Exit condition out.to) × Rest out (suc pc)
Stays code out (piece.Calling object op actuals) pc Rest = code out.scope pc (ins.Calling object op actuals) × Rest out (suc pc)
Stays code out (piece.Working ticks) pc Rest = code out.scope pc (ins.Working ticks) × Rest out (suc pc)
Stays code out (piece.Printing e) pc Rest = code out.scope pc (ins.Printing e) × Rest out (suc pc)
Stays code out (piece.Testing condition block others) pc Rest =
    (end : ℕ) × BranchesStand code out.scope out.to end pc (When condition block others) × Rest out end
Stays code out (piece.Turning name at last body) pc Rest =
    (start : ℕ) × Turns code out.scope pc start name last × IsLoop code out.scope start name last body × Rest out (suc (start + block_size body))
Stays code out (piece.Turned name at last body) pc Rest =
    (start : ℕ) × (outer : Context) × IsLoop code outer.scope start name last body × (pc ≡ start + block_size body)
    × (out ≡ in_loop outer name (suc pc)) × Rest outer (suc pc)
Stays code out (piece.Returning outs stores caller) pc Rest = Backs code out pc Rest
Stays code out (piece.Closing object op vars outs stores caller) pc Rest = Backs code out pc Rest
Stays code out (piece.Keeping task v) pc Rest = Rest out pc
Stays code out (piece.Opening task) pc Rest = Rest out pc
Stays code out (piece.Requested task v) pc Rest = Rest out pc
Stays code out piece.Finishing pc Rest = code out.scope pc ins.Finish × Rest out (suc pc)

-- these pieces are ahead
abbrev pub Ahead : Code → Context → List Piece → ℕ → Type 0
Ahead code out [] pc = ⊤
Ahead code out (p ∷ rest) pc = (n : ℕ) × (q : ℕ) × Jumps n code out.scope pc q × Stays code out p q (λ o next. Ahead code o rest next)

-- pieces ahead of a place, in some context that returns as this one and has this scope
pub record Somewhere (code : Code) (before : Context) (scope : Variables) (ps : List Piece) (pc : ℕ) : Type 0 where
  pub out : Context
  pub scoped : out.scope ≡ scope
  pub backs : out.backs ≡ before.backs
  pub ahead : Ahead code out ps pc
