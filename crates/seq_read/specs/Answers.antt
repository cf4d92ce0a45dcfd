-- What the readers of blocks and expressions by themselves answer: exactly how far the tokens go on, or exactly the fault.
-- Indices count the tokens from the first of the whole list.
use Rattle.std.specs.Prelude.{◌≡◌, ℕ, ◌+◌, ◌-◌, List, take, Result, Ok, Err, ⊤}
use Rattle.seq_tree.specs.Reach as reach
use Rattle.seq_tree.specs.Trees.{block_of, expression_of}
use Rattle.seq_tree.specs.declared.tree.Block.{Block}
use Rattle.seq_tree.specs.declared.tree.Expr.{Expr}
use Rattle.seq_tree.specs.declared.token.Token.{Token}
use Rattle.seq_read.specs.declared.halt.Halt.{Halt}
use Rattle.seq_read.specs.declared.halt.Halt.TheVariants as halt
use Rattle.seq_read.specs.declared.fault.ReadFault.{ReadFault}
use Rattle.seq_read.specs.declared.fault.ReadFault.TheVariants.{Syntax, TooDeep, NoMemory}
use Rattle.seq_read.specs.Texts.{IsBlockText, SomeBlock, AnyBlock, IsExpressionText, SomeExpression, AnyExpression}
use Rattle.seq_read.specs.Fronts.{IsLongest, IsFrontFault}

-- the fault of so many tokens, by how many were left
abbrev pub fault_at : ℕ → Halt → ReadFault
fault_at count (halt.Syntax left) = Syntax (count - left)
fault_at count (halt.TooDeep left) = TooDeep (count - left)
fault_at count halt.NoMemory = NoMemory

-- what a fault says of the tokens from an index on
abbrev pub Faults : (List Token → Type 0) → (List Token → Type 0) → ℕ → List Token → ReadFault → Type 0
Faults Any Some from ts (Syntax at) = (place : ℕ) × (at ≡ from + place) × IsFrontFault Any Some ts (reach.Syntax place)
Faults Any Some from ts (TooDeep at) = (place : ℕ) × (at ≡ from + place) × IsFrontFault Any Some ts (reach.TooDeep place)
Faults Any Some from ts NoMemory = ⊤

-- the answer with a block; want of memory says nothing
abbrev pub SaysBlock : ℕ → ℕ → List Token → Result (Block × ℕ) ReadFault → Type 0
SaysBlock depth from ts (Ok x) =
    (place : ℕ) × (x.1 ≡ from + place) × IsLongest (AnyBlock depth) (SomeBlock depth) ts place × IsBlockText depth (block_of x.0) (take place ts)
SaysBlock depth from ts (Err e) = Faults (AnyBlock depth) (SomeBlock depth) from ts e

-- the answer with an expression
abbrev pub SaysExpression : ℕ → ℕ → List Token → Result (Expr × ℕ) ReadFault → Type 0
SaysExpression depth from ts (Ok x) =
    (place : ℕ) × (x.1 ≡ from + place) × IsLongest (AnyExpression depth) (SomeExpression depth) ts place
    × IsExpressionText depth (expression_of x.0) (take place ts)
SaysExpression depth from ts (Err e) = Faults (AnyExpression depth) (SomeExpression depth) from ts e
