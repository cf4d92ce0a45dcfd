-- What linking does: a block is written in front of a place, into code that has room for it.
-- Whatever is written elsewhere later, the block stands there.
use Rattle.std.specs.Prelude.{◌≡◌, ◌≤◌, ◌<◌, ◌⊎◌, ◌+◌, ◌++◌, ℕ, suc, List, Some, length, slice_get}
use Rattle.seq_tree.specs.Names.{Name}
use Rattle.seq_tree.specs.Statements.{Statement, Statements, Branches}
use Rattle.seq_tree.specs.Variables.{Variables}
use Rattle.linker.specs.Nodes.{Grows}
use Rattle.linker.specs.declared.nodes.Operand.{Operand}
use Rattle.law_flat_code.specs.Codes.{BlockStands, BranchesStand, Stands, size, block_size, branch_size}
use Rattle.linker.specs.Leads.{Leads}
use Rattle.linker.specs.declared.code.Ins.{Ins}
use Rattle.linker.specs.Standing.{Has, Lists}

-- actuals to which others were added
pub record Longer (xs ys : List Operand) : Type 0 where
  pub more : List Operand
  pub is : ys ≡ xs ++ more

-- nothing but these places was filled, and nodes and actuals were added
pub record Filled (from to : ℕ) (c d : Lists) : Type 0 where
  pub long : length d.ins ≡ length c.ins
  pub others : (k : ℕ) → (k < from) ⊎ (to ≤ k) → slice_get d.ins k ≡ slice_get c.ins k
  pub nodes : Grows c.nodes d.nodes
  pub actuals : Longer c.actuals d.actuals

-- these places are as they were, whatever else was filled and added
pub record Keeps (from to : ℕ) (c d : Lists) : Type 0 where
  pub same : (k : ℕ) → from ≤ k → k < to → slice_get d.ins k ≡ slice_get c.ins k
  pub nodes : Grows c.nodes d.nodes
  pub actuals : Longer c.actuals d.actuals

-- a statement was linked in front of a place
pub record LinksStatement (leads : Name → Name → Leads) (scope : Variables) (out end : ℕ) (c d : Lists) (start : ℕ) (s : Statement) : Type 0 where
  pub long : start + size s ≡ end
  pub filled : Filled start end c d
  pub stands : (later : Lists) → Keeps start end d later → Stands (Has leads later) scope out start s

-- a block was linked in front of a place
pub record LinksBlock (leads : Name → Name → Leads) (scope : Variables) (out end : ℕ) (c d : Lists) (start : ℕ) (b : Statements) : Type 0 where
  pub long : start + block_size b ≡ end
  pub filled : Filled start end c d
  pub stands : (later : Lists) → Keeps start end d later → BlockStands (Has leads later) scope out start b

-- branches were linked in front of a place
pub record LinksBranches (leads : Name → Name → Leads) (scope : Variables) (out end : ℕ) (c d : Lists) (start : ℕ) (bs : Branches) : Type 0 where
  pub long : start + branch_size bs ≡ end
  pub filled : Filled start end c d
  pub stands : (later : Lists) → Keeps start end d later → BranchesStand (Has leads later) scope out end start bs

-- nodes and actuals were added
pub record Added (c d : Lists) : Type 0 where
  pub same : d.ins ≡ c.ins
  pub nodes : Grows c.nodes d.nodes
  pub actuals : Longer c.actuals d.actuals

-- one place was filled with this
pub record Fills (at : ℕ) (i : Ins) (c d : Lists) : Type 0 where
  pub filled : Filled at (suc at) c d
  pub there : slice_get d.ins at ≡ Some i
