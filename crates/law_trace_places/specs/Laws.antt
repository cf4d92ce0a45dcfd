-- What is found by the name of a unit is what the unit at its place is, where a program meets its rules.
-- A name is declared at most once (ISO/IEC 8652:2012, 8.3).
use Rattle.std.specs.Prelude.{◌≡◌, ℕ, ◌==◌, Some, is_some, slice_get}
use Rattle.seq_tree.specs.Names.{same_name}
use Rattle.ods_tree.specs.Flats.{Guarded}
use Rattle.ada_tree.specs.Programs.{Program}
use Rattle.ada_tree.specs.Rules.{MeetsRules}
use Rattle.trace_tree.specs.Lines.{unit_name}
use Rattle.trace_tree.specs.Placed.{IsUnit, IsOp}
use Rattle.guarantee.specs.Software.{program_software}
use Rattle.guarantee.specs.Order.{is_task_name}
use Rattle.guarantee.specs.Events.{op_at}
use Rattle.law_traces.specs.Checks.{object_named, op_named}
use Rattle.law_trace_places.specs.Places.{task_at, guarded_at}

-- names of units are one exactly where their places are
abbrev pub UnitNamesTellUnits : Type 0
UnitNamesTellUnits = (p : Program) → MeetsRules p → (i j : ℕ) → IsUnit p i → IsUnit p j → same_name (unit_name p i) (unit_name p j) ≡ (i == j)

-- what is found by the name of a unit
pub record TellsWhatItIs (p : Program) (unit : ℕ) : Type 0 where
  -- it is a task's name exactly where the unit has a thread
  pub task : is_task_name (program_software p).tasks (unit_name p unit) ≡ is_some (task_at p unit)
  -- the object of the name is the unit's
  pub object : object_named (program_software p) (unit_name p unit) ≡ guarded_at p unit
  -- and so is the operation of it that has the name of one of the unit's operations
  pub op : (g : Guarded) → guarded_at p unit ≡ Some g → (op : ℕ) → IsOp p unit op → op_named g (op_at p unit op).op ≡ slice_get g.ops op

abbrev pub UnitsTellWhatTheyAre : Type 0
UnitsTellWhatTheyAre = (p : Program) → MeetsRules p → (unit : ℕ) → IsUnit p unit → TellsWhatItIs p unit
