-- Events by names: what a trace says, without the places of a program's units.
-- A trace is the list of events of a run, in the order in which they are told.
use Rattle.std.specs.Prelude.{ℕ, List, [], map, slice_get, unwrap_or, option_map, Option}
use Rattle.seq_tree.specs.Names.{Name}
use Rattle.seq_tree.specs.declared.tree.OpName.{OpName}
use Rattle.ada_tree.specs.Programs.{Program}
use Rattle.trace_tree.specs.declared.event.Event as machine
use Rattle.trace_tree.specs.declared.event.Event.TheVariants as event
use Rattle.trace_tree.specs.Lines.{unit_name, unit_ops}

-- what a task does, or what is done to it
pub data Deed : Type 0 where
  Release : (value : Option ℕ) → Deed
  Arrive : (value : Option ℕ) → Deed
  Enter : (name : OpName) (values : List ℕ) → Deed
  Leave : (name : OpName) (values : List ℕ) → Deed
  Request : (target : Name) (value : Option ℕ) → Deed
  Print : (value : ℕ) → Deed
  End : (used : ℕ) → Deed
  Stop : (object : Name) (priority ceiling : ℕ) → Deed

-- an event: the deed of a task, or the horizon
pub data Event : Type 0 where
  By : (time : ℕ) (task : Name) (deed : Deed) → Event
  Horizon : (time : ℕ) → Event

-- an operation of the unit at a place, by names
abbrev pub op_at : Program → ℕ → ℕ → OpName
op_at p unit op = record { object = unit_name p unit; op = unwrap_or (option_map (λ o. o.name) (slice_get (unit_ops p unit) op)) [] }

-- an event of a program's run, by names
abbrev pub named_event : Program → machine.Event → Event
named_event p (event.Release time task value) = By time (unit_name p task) (Release value)
named_event p (event.Arrive time task value) = By time (unit_name p task) (Arrive value)
named_event p (event.Enter time task unit op values) = By time (unit_name p task) (Enter (op_at p unit op) values)
named_event p (event.Leave time task unit op values) = By time (unit_name p task) (Leave (op_at p unit op) values)
named_event p (event.Request time task target value) = By time (unit_name p task) (Request (unit_name p target) value)
named_event p (event.Print time task value) = By time (unit_name p task) (Print value)
named_event p (event.End time task used) = By time (unit_name p task) (End used)
named_event p (event.Stop time task unit priority ceiling) = By time (unit_name p task) (Stop (unit_name p unit) priority ceiling)
named_event p (event.Horizon time) = Horizon time

-- a trace of a program's run, by names
abbrev pub named : Program → List machine.Event → List Event
named p told = map (named_event p) told
