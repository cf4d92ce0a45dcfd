use Rattle.std.proofs.Common.{◌≡◌, ◌++◌, map, drop}
use Rattle.ods_tree.specs.Trees.{library_of}
use Rattle.ada_tree.specs.Trees.{unit_of}
use Rattle.guarantee.specs.Programs.{passive_unit}
use Rattle.ada_gen.proofs.generator.add_passive.Given as goal

-- with the units of the objects that are left, those of all have been added
abbrev pub invariant-passive : goal.invariant-passive
invariant-passive l =
    map unit_of l.units.items ++ map passive_unit (map library_of (drop l.object-index l.object-items))
    ≡ map unit_of l.initial.units.items ++ map passive_unit (map library_of l.object-items)
