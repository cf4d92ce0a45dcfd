-- Examples of the objects of a machine, and of what its events are of: for each definition one case that holds, and one that breaks it.
use Rattle.std.specs.Prelude.{◌≡◌, true, false, [], ◌∷◌, map, slice_get, refl}
use Rattle.std.proofs.Common.{ap, sym, ◌∙◌, arith}
use Rattle.seq_tree.specs.Variables.{Variables}
use Rattle.ada_tree.specs.Trees.{unit_of}
use Rattle.ada_tree.specs.declared.program.Unit as units
use Rattle.ceil_runtime.specs.Objects.{AreObjectsOf, first_object, lasting, shown}
use Rattle.ceil_runtime.specs.Stepping.{HasOp, HasStopped}
use Rattle.task_runtime.specs.Written.{system_of}
use Rattle.ceil_runtime.specs.declared.object.Object as objects
use Rattle.ceil_runtime.specs.declared.processor.Machine.{Machine}
use Rattle.task_runtime.specs.declared.task.Task.{Task}
use Rattle.task_runtime.proofs.Shared.ExampleSystem.{object, three}
use Rattle.machine.specs.Systems.{objects_from}

-- what lasts of an object is all but its data
lasts : (store : Variables) → lasting (record (first_object object) { store = store }) ≡ lasting (first_object object)
lasts store = refl

lasts-not : lasting (record (first_object object) { ceiling = 6 }) ≡ lasting (first_object object) → ⊥
lasts-not h = cc (ap (λ o. o.ceiling) h)

-- the objects of units, in their order
objects-of : (u : units.Unit) (o : objects.Object) → objects_from 0 (unit_of u ∷ []) ≡ object ∷ [] → lasting (shown o) ≡ lasting (first_object object)
    → AreObjectsOf (u ∷ []) (o ∷ [])
objects-of u o found same = ap (λ x. x ∷ []) same ∙ sym (ap (map (λ g. lasting (first_object g))) found)

objects-of-not : (o : objects.Object) → AreObjectsOf [] (o ∷ []) → ⊥
objects-of-not o h = cc h

-- a machine that has stopped is else as it was
has-stopped : (m : Machine) → HasStopped m (record m { stopped = true })
has-stopped m = refl

has-stopped-not : (m : Machine) → HasStopped m (record m { stopped = false }) → ⊥
has-stopped-not m h = cc (ap (λ s. s.stopped) h)

-- an operation of the object, which has one
has-op : (t : Task) → system_of t.progress.stack.thread ≡ three → HasOp (t ∷ []) 1 0
has-op t same = record {
  place = 0;
  task = t;
  here = refl;
  object = 0;
  entered = object;
  at = ap (λ y. slice_get y.objects 0) same;
  is_unit = refl;
  is_op = omega arith;
}

has-op-not : HasOp [] 1 0 → ⊥
has-op-not h = cc h.here
