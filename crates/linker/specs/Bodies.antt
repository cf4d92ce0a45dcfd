-- What linking a body does: it stands behind the code that was there, which stays.
-- Outside of loops, a loop is left to place 0.
use Rattle.std.specs.Prelude.{◌≡◌, ◌+◌, ◌++◌, ℕ, suc, List, Some, length, slice_get}
use Rattle.seq_tree.specs.Names.{Name}
use Rattle.seq_tree.specs.Statements.{Statements}
use Rattle.seq_tree.specs.Variables.{Variables}
use Rattle.law_flat_code.specs.Codes.{BlockStands, block_size}
use Rattle.linker.specs.Leads.{Leads}
use Rattle.linker.specs.Linking.{Keeps}
use Rattle.linker.specs.Standing.{Has, Lists}
use Rattle.linker.specs.declared.code.Ins.{Ins}

-- so many places were added behind the others
pub record Roomed (count : ℕ) (c d : Lists) : Type 0 where
  pub more : List Ins
  pub is : d.ins ≡ c.ins ++ more
  pub long : length more ≡ count
  pub nodes : d.nodes ≡ c.nodes
  pub actuals : d.actuals ≡ c.actuals

-- a body was linked behind the code that was there
pub record LinksBody (leads : Name → Name → Leads) (scope : Variables) (c d : Lists) (start : ℕ) (last : Ins) (b : Statements) : Type 0 where
  pub starts : start ≡ length c.ins
  pub long : length d.ins ≡ start + suc (block_size b)
  pub kept : Keeps 0 start c d
  pub ends : (later : Lists) → Keeps start (length d.ins) d later → slice_get later.ins (start + block_size b) ≡ Some last
  pub stands : (later : Lists) → Keeps start (length d.ins) d later → BlockStands (Has leads later) scope 0 start b
