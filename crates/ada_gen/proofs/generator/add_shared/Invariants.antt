use Rattle.std.proofs.Common.{◌≡◌, ◌++◌, map, drop}
use Rattle.std.specs.List.{zip}
use Rattle.ods_tree.specs.Trees.{guarded_of}
use Rattle.ada_tree.specs.Trees.{unit_of}
use Rattle.guarantee.specs.Programs.{shared_unit}
use Rattle.ada_gen.proofs.generator.add_shared.Given as goal

-- with the units of the objects that are left, those of all have been added
abbrev pub invariant-shared : goal.invariant-shared
invariant-shared l =
    map unit_of l.units.items ++ map shared_unit (zip (map guarded_of (drop l.i l.object-items)) (drop l.i l.order.shared.items))
    ≡ map unit_of l.initial.units.items ++ map shared_unit (zip (map guarded_of l.object-items) l.order.shared.items)
