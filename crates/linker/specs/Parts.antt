-- Parts of a program that are linked one after another, behind the code that was there.
use Rattle.std.specs.Prelude.{◌≡◌, ◌≤◌, ◌+◌, ◌++◌, ℕ, List, Some, length, slice_get}
use Rattle.seq_tree.specs.Names.{Name}
use Rattle.seq_tree.specs.Statements.{Statements}
use Rattle.seq_tree.specs.Variables.{Variables}
use Rattle.law_flat_code.specs.Codes.{BlockStands, block_size}
use Rattle.linker.specs.Leads.{Leads}
use Rattle.linker.specs.Linking.{Keeps}
use Rattle.linker.specs.Programs.{Part, AllStand}
use Rattle.linker.specs.Standing.{Has, Lists}
use Rattle.linker.specs.declared.code.Ins.{Ins}

-- a block stands before its last instruction
abbrev pub EndStands : (Name → Name → Leads) → Lists → Ins → Variables → ℕ → Statements → Type 0
EndStands leads t last scope start block = BlockStands (Has leads t) scope 0 start block × (slice_get t.ins (start + block_size block) ≡ Some last)

-- of all parts these are left: where they come to stand, all stand, whatever is added later
pub record PartsLeft (leads : Name → Name → Leads) (last : Ins) (c d : Lists) (whole left : List Part) (starts : List ℕ) : Type 0 where
  pub longer : length c.ins ≤ length d.ins
  pub kept : Keeps 0 (length c.ins) c d
  pub stand : (later : Lists) → Keeps 0 (length d.ins) d later → (others : List ℕ) → AllStand (EndStands leads later last) left others
      → AllStand (EndStands leads later last) whole (starts ++ others)
