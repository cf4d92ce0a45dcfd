use Rattle.std.proofs.Common.{ℕ, length, map}
use Rattle.ada_tree.specs.Trees.{unit_of}
use Rattle.machine.specs.Systems.{System, libraries_from}
use Rattle.linker.specs.Callees.{AreEntered, IsSystemOf, body_of, target_among}
use Rattle.linker.proofs.tables.Callees.add_passives.Given as goal

-- passive units of other names are among the units that are left
abbrev pub invariant-units : goal.invariant-units
invariant-units l = (y : System) → IsSystemOf (map unit_of l.units) y
    → AreEntered y l.fn.self.units (map body_of l.fn.self.bodies.items) (target_among 0 y.libraries 0 y.objects 0 y.threads)
    → (n : ℕ) × (i : ℕ) × AreEntered y l.self.units (map body_of l.self.bodies.items)
    (target_among n (libraries_from i (map unit_of l.left)) 0 y.objects 0 y.threads)

abbrev pub decreases-units : goal.decreases-units
decreases-units l = length l.left
