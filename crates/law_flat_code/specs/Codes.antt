-- Flat code: one instruction for each piece of a block, in order of writing, with jumps. An `if` is its conditions, each followed by its
-- block and a jump to the end; a loop is its beginning, its body and the end of a turn.
use Rattle.std.specs.Prelude.{◌≡◌, ℕ, suc, ◌+◌, Bool, true, List, [], ◌∷◌, ⊤}
use Rattle.seq_tree.specs.Names.{Name}
use Rattle.seq_tree.specs.Expressions.{Expression}
use Rattle.seq_tree.specs.Statements.{Statement, Statements, Branches, Null, Assign, If, For, ExitWhen, Call, Work, Put, End, Then, Nothing}
use Rattle.seq_tree.specs.Statements.{Else, When}
use Rattle.seq_tree.specs.Variables.{Variables}

-- an instruction
pub data Ins : Type 0 where
  Idle : Ins
  Store : (target : Name) (value : Expression) → Ins
  Working : (ticks : ℕ) → Ins
  Printing : (value : Expression) → Ins
  Calling : (object op : Name) (actuals : List Expression) → Ins
  -- where the condition doesn't hold, it goes on there
  Test : (condition : Expression) (other : ℕ) → Ins
  -- where the condition holds, it goes on there
  Exit : (condition : Expression) (to : ℕ) → Ins
  Jump : (to : ℕ) → Ins
  -- the first turn of a loop, and where it goes on if there is none
  Begin : (name : Name) (low high behind : ℕ) → Ins
  -- the end of a turn, and where the next one starts
  Next : (name : Name) (last start : ℕ) → Ins
  -- the end of an operation's body
  Return : Ins
  -- the end of an activation
  Finish : Ins

-- what stands at each place, as instructions for names that have these slots. A scope is written as variables whose values are slots, the
-- innermost first.
abbrev pub Code : Type 1
Code = Variables → ℕ → Ins → Type 0

-- a test of whether an instruction stands at a place for a scope, and code by a test, so that each law is one clause
abbrev pub CodeTest : Type 0
CodeTest = Variables → ℕ → Ins → Bool

abbrev pub told_by : CodeTest → Code
told_by reads scope pc i = reads scope pc i ≡ true

-- the lowest slot that no name of a scope has
abbrev pub next_slot : Variables → ℕ
next_slot [] = 0
next_slot (v ∷ vs) = suc v.1

-- the scope inside a turn: a loop takes two slots, the lower one for its count of turns, the other for its variable
abbrev pub in_turn : Name → Variables → Variables
in_turn name scope = (name, suc (next_slot scope)) ∷ scope

-- how many instructions a statement, a block and branches have
abbrev mutual
  pub size : Statement → ℕ
  size Null = 1
  size (Assign target e) = 1
  size (If branches) = branch_size branches
  size (For name low high body) = suc (suc (block_size body))
  size (ExitWhen condition) = 1
  size (Call object op actuals) = 1
  size (Work ticks) = 1
  size (Put e) = 1

  pub block_size : Statements → ℕ
  block_size End = 0
  block_size (Then first rest) = size first + block_size rest

  pub branch_size : Branches → ℕ
  branch_size Nothing = 0
  branch_size (Else block) = block_size block
  branch_size (When condition block others) = suc (suc (block_size block + branch_size others))

-- a statement, a block and branches stand in code from a place on, for a scope; a loop is left to `out`, and an `if` ends at `end`
abbrev mutual
  pub Stands : Code → Variables → ℕ → ℕ → Statement → Type 0
  Stands code scope out pc Null = code scope pc Idle
  Stands code scope out pc (Assign target e) = code scope pc (Store target e)
  Stands code scope out pc (If branches) = BranchesStand code scope out (pc + branch_size branches) pc branches
  Stands code scope out pc (For name low high body) =
      code scope pc (Begin name low high (suc (suc pc + block_size body)))
      × BlockStands code (in_turn name scope) (suc (suc pc + block_size body)) (suc pc) body
      × code scope (suc pc + block_size body) (Next name high (suc pc))
  Stands code scope out pc (ExitWhen condition) = code scope pc (Exit condition out)
  Stands code scope out pc (Call object op actuals) = code scope pc (Calling object op actuals)
  Stands code scope out pc (Work ticks) = code scope pc (Working ticks)
  Stands code scope out pc (Put e) = code scope pc (Printing e)

  pub BlockStands : Code → Variables → ℕ → ℕ → Statements → Type 0
  BlockStands code scope out pc End = ⊤
  BlockStands code scope out pc (Then first rest) = Stands code scope out pc first × BlockStands code scope out (pc + size first) rest

  pub BranchesStand : Code → Variables → ℕ → ℕ → ℕ → Branches → Type 0
  BranchesStand code scope out end pc Nothing = pc ≡ end
  BranchesStand code scope out end pc (Else block) = BlockStands code scope out pc block × (pc + block_size block ≡ end)
  BranchesStand code scope out end pc (When condition block others) =
      code scope pc (Test condition (suc (suc pc + block_size block))) × BlockStands code scope out (suc pc) block
      × code scope (suc pc + block_size block) (Jump end) × BranchesStand code scope out end (suc (suc pc + block_size block)) others

-- the body of an operation stands in code from a place on; outside of loops, a loop is left to place 0
abbrev pub BodyStands : Code → Variables → ℕ → Statements → Type 0
BodyStands code scope start body = BlockStands code scope 0 start body × code scope (start + block_size body) Return

-- the block of a task stands in code from a place on
abbrev pub TaskStands : Code → Variables → ℕ → Statements → Type 0
TaskStands code scope start block = BlockStands code scope 0 start block × code scope (start + block_size block) Finish
