-- What a stack of names with their slots stands for: the innermost stands last in the stack, and first in the definitions.
-- A scope is written as variables whose values are slots. A table tells the innermost slot of each name.
use Rattle.std.specs.Prelude.{◌≡◌, ℕ, List, [], ◌∷◌, fold, take, length, Option, Some, None, unwrap_or, slice_get}
use Rattle.seq_tree.specs.Names.{Name}
use Rattle.seq_tree.specs.Variables.{Variables}
use Rattle.seq_eval.specs.Lookups.{found}
use Rattle.name_sets.specs.Tables.{named}
use Rattle.name_sets.specs.declared.name_table.NameTable.{NameTable}
use Rattle.linker.specs.declared.scope.Slot.{Slot}

-- a scope with one more name inside it
abbrev pub with_slot : Variables → Slot → Variables
with_slot rest s = (s.name.now, s.slot) ∷ rest

-- the scope of a stack
abbrev pub scope_of : List Slot → Variables
scope_of slots = fold with_slot [] slots

-- a table that tells the innermost slot of each name, beside a stack whose names each tell the slot that they hide
pub record IsTable (slots : List Slot) (t : NameTable (Option ℕ)) : Type 0 where
  pub each : (n : Name) → unwrap_or (named t n) None ≡ found n (scope_of slots)
  pub hidden : (k : ℕ) (s : Slot) → slice_get slots k ≡ Some s → s.hidden ≡ found s.name.now (scope_of (take k slots))

-- the scope of a body that begins: each name has the slot that as many names stand outside of it
abbrev pub slots_of : List Name → Variables
slots_of [] = []
slots_of (n ∷ ns) = (n, length ns) ∷ slots_of ns
