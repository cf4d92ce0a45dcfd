-- What is known of statements: where they stand, and how much room is left for what is nested in them.
-- An `if` takes one of the room of the block that it stands in, and a loop three. A body has room for 64 loops, one inside another.
use Rattle.std.specs.Prelude.{◌≡◌, ℕ, ◌-◌, ◌≤◌, ◌<◌, Bool, true, false, List, map, ⊤}
use Rattle.seq_tree.specs.Names.{Name}
use Rattle.seq_tree.specs.Variables.{Variables}
use Rattle.seq_tree.specs.Statements.{Statement, Statements, Branches, Null, Assign, If, For, ExitWhen, Call, Work, Put, End, Then, Nothing}
use Rattle.seq_tree.specs.Statements.{Else, When}
use Rattle.seq_tree.specs.declared.tree.OpName.{OpName}
use Rattle.machine.specs.Systems.{System}
use Rattle.task_runtime.specs.Callable.{IsClear, op_name}

-- where statements stand: the units that calls lead to, the operations whose calls are under way, whether a loop is open, and
-- how much room there is for what is nested
pub record Spot : Type 0 where
  pub system : System
  pub chain : List OpName
  pub inside : Bool
  pub room : ℕ

-- where the statements of a body stand
abbrev pub spot_of : System → List OpName → Spot
spot_of y chain = record { system = y; chain = chain; inside = false; room = 192 }

-- in a branch of an `if`
abbrev pub in_branch : Spot → Spot
in_branch s = record s { room = s.room - 1 }

-- inside a loop
abbrev pub in_loop : Spot → Spot
in_loop s = record s { inside = true; room = s.room - 3 }

-- statements that do with their room; each `if` begins with a condition, and each call leads to an operation that is not under way
abbrev mutual
  pub FitsStatement : Spot → Statement → Type 0
  FitsStatement s Null = ⊤
  FitsStatement s (Assign target value) = ⊤
  FitsStatement s (If branches) = FitsIf s branches
  FitsStatement s (For name low high body) = (3 ≤ s.room) × FitsBlock (in_loop s) body
  FitsStatement s (ExitWhen condition) = s.inside ≡ true
  FitsStatement s (Call object op actuals) = IsClear s.system s.chain (op_name object op)
  FitsStatement s (Work ticks) = 0 < ticks
  FitsStatement s (Put value) = ⊤

  pub FitsBlock : Spot → Statements → Type 0
  FitsBlock s End = ⊤
  FitsBlock s (Then first rest) = FitsStatement s first × FitsBlock s rest

  pub FitsIf : Spot → Branches → Type 0
  FitsIf s Nothing = ⊥
  FitsIf s (Else block) = ⊥
  FitsIf s (When condition block others) = (1 ≤ s.room) × FitsBlock (in_branch s) block × FitsBranches s others

  pub FitsBranches : Spot → Branches → Type 0
  FitsBranches s Nothing = ⊤
  FitsBranches s (Else block) = (1 ≤ s.room) × FitsBlock (in_branch s) block
  FitsBranches s (When condition block others) = (1 ≤ s.room) × FitsBlock (in_branch s) block × FitsBranches s others

-- the names of variables
abbrev pub names_of : Variables → List Name
names_of vs = map (λ v. v.0) vs
