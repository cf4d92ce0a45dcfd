-- Where it goes on from a place in no time: behind jumps.
-- A jump inside a body leads forwards, to a place from which the same pieces are left, in the same scope.
use Rattle.std.specs.Prelude.{◌≡◌, ◌≤◌, ℕ, ◌+◌, ◌-◌, true, List, Option, Some, None, slice_get, ⊤}
use Rattle.seq_tree.specs.Names.{Name}
use Rattle.seq_tree.specs.Statements.{Statements}
use Rattle.seq_tree.specs.Variables.{Variables}
use Rattle.machine.specs.Pieces.{Piece}
use Rattle.law_flat_code.specs.Codes.{BlockStands, block_size}
use Rattle.law_flat_code.specs.Withins.{scope_within, within}
use Rattle.linker.specs.Leads.{Leads}
use Rattle.linker.specs.Standing.{Has, Lists}
use Rattle.linker.specs.declared.code.Ins.{Ins}
use Rattle.linker.specs.declared.code.Ins.TheVariants as ins

-- an instruction is there, and it is no jump
abbrev pub Still : Option Ins → Type 0
Still None = ⊥
Still (Some (ins.Jump to)) = ⊥
Still (Some _) = ⊤

-- a body that stands in code, up to its last instruction
pub record Stood (t : Lists) : Type 0 where
  pub leads : Name → Name → Leads
  pub scope : Variables
  pub start : ℕ
  pub block : Statements
  pub stands : BlockStands (Has leads t) scope 0 start block
  pub ends : Still (slice_get t.ins (start + block_size block))

-- a place of a body, its end among them
pub record IsAmid (start : ℕ) (b : Statements) (at : ℕ) : Type 0 where
  pub from : start ≤ at
  pub to : at ≤ start + block_size b

-- a place of some body
abbrev pub IsSomewhere : Lists → ℕ → Type 0
IsSomewhere t at = (s : Stood t) × IsAmid s.start s.block at

-- what is left at one place of a body is what is left at another, with no jump there
pub record LandsAt (t : Lists) (s : Stood t) (at to : ℕ) : Type 0 where
  pub amid : IsAmid s.start s.block to
  pub pieces : (turn : ℕ → ℕ) (rest : List Piece)
      → within s.block (at - s.start) true 0 turn rest ≡ within s.block (to - s.start) true 0 turn rest
  pub scope : scope_within s.block (at - s.start) true s.scope ≡ scope_within s.block (to - s.start) true s.scope

abbrev pub Settles : Lists → ℕ → ℕ → Type 0
Settles t at to = (s : Stood t) → IsAmid s.start s.block at → LandsAt t s at to
