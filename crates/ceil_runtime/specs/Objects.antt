-- The protected objects of the machine: what each stands for, and how they are found among units.
-- While a task is inside an object, the object has no data of its own.
use Rattle.std.specs.Prelude.{◌≡◌, ℕ, suc, ◌≤◌, ◌++◌, List, [], length, map, option_map, option_to_list}
use Rattle.seq_tree.specs.Variables.{Variables, written}
use Rattle.seq_tree.specs.declared.tree.Datum.{Datum}
use Rattle.ada_tree.specs.Trees.{unit_of}
use Rattle.ada_tree.specs.declared.program.Unit as units
use Rattle.machine.specs.Systems.{ProtectedUnit, object_by, objects_from}
use Rattle.task_runtime.specs.Stacked.{vars_of}
use Rattle.ceil_runtime.specs.declared.object.Object.{Object}

-- an object: where it stands among the units, what is written of it, how many operations it has, and its data
pub record ObjectShown : Type 0 where
  pub unit : ℕ
  pub ceiling : ℕ
  pub vars : List Datum
  pub ops : ℕ
  pub store : Variables

-- its data
abbrev pub store_of : Object → Variables
store_of o = vars_of o.«data».items

abbrev pub shown : Object → ObjectShown
shown o = record { unit = o.unit; ceiling = o.ceiling; vars = o.written.now; ops = o.ops; store = store_of o }

-- an object at the opening
abbrev pub first_object : ProtectedUnit → ObjectShown
first_object g = record { unit = g.unit; ceiling = g.ceiling; vars = g.vars; ops = length g.ops; store = written g.vars }

-- an object without its data
abbrev pub lasting : ObjectShown → ObjectShown
lasting o = record o { store = [] }

-- the objects of these units, whatever their data are
abbrev pub AreObjectsOf : List units.Unit → List Object → Type 0
AreObjectsOf us os = map (λ o. lasting (shown o)) os ≡ map (λ g. lasting (first_object g)) (objects_from 0 (map unit_of us))

-- objects to which the one of this unit was added, where it is one
pub record AddsObject (place : ℕ) (u : units.Unit) (before now : List Object) : Type 0 where
  pub shows : map shown now ≡ map shown before ++ option_to_list (option_map first_object (object_by place (unit_of u).name (unit_of u).form))
  pub few : length now ≤ suc (length before)
