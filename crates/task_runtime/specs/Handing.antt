-- What a call hands in and out over linked code: the operands of its actuals, and the slots of those that are handed out.
use Rattle.std.specs.Prelude.{◌≡◌, ◌<◌, ℕ, List, length, map, Option, Some, None}
use Rattle.seq_tree.specs.Names.{Name}
use Rattle.seq_tree.specs.Expressions.{Expression}
use Rattle.seq_tree.specs.Values.{value}
use Rattle.seq_tree.specs.Variables.{Variables}
use Rattle.seq_tree.specs.declared.tree.Param.{Param}
use Rattle.law_flat_code.specs.Codes.{next_slot}
use Rattle.linker.specs.Slots.{AreSlots, vars_at}
use Rattle.linker.specs.declared.nodes.Operand.{Operand}
use Rattle.linker.specs.Standing.{Lists, Reads, TargetsStand, ValuesStand, target_slot, values_in}

-- operands stand from a place on for the actuals that are handed in for these parameters
pub record ValuesAt (t : Lists) (first : ℕ) (params : List Param) : Type 0 where
  pub scope : Variables
  pub actuals : List Expression
  pub stand : ValuesStand t scope first (values_in params actuals)

-- the values of actuals
abbrev pub values_of : List Expression → Variables → List ℕ
values_of es vars = map (λ e. value e vars) es

-- so many slots stand from a place on, each below this number
pub record TargetsAt (t : Lists) (first count room : ℕ) : Type 0 where
  pub scope : Variables
  pub names : List Name
  pub stand : TargetsStand t scope first names
  pub many : length names ≡ count
  pub slots : AreSlots (next_slot scope) scope
  pub room' : next_slot scope < room

-- the slots of names, where values are stored
abbrev pub target_slots : Variables → List Name → List ℕ
target_slots scope names = map (λ n. target_slot n scope) names

-- the value of a request, by its operand, where there is one, over these slots
abbrev pub IsHanded : Lists → List ℕ → Option Operand → Option ℕ → Type 0
IsHanded t slots None w = w ≡ None
IsHanded t slots (Some o) w =
    (n : ℕ) × (w ≡ Some n) × ((scope : Variables) (e : Expression) → Reads t scope o e → n ≡ value e (vars_at scope slots))
