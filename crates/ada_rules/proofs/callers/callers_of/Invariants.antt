use Rattle.std.proofs.Common.{◌≡◌, ◌++◌, map, flat_map, drop}
use Rattle.ada_tree.specs.Trees.{unit_of}
use Rattle.ada_rules.specs.Callers.{caller_of, unit_callers}
use Rattle.ada_rules.proofs.callers.callers_of.Given as goal

-- the operations so far, and those of the units that are left
abbrev pub invariant-units : goal.invariant-units
invariant-units l =
    map caller_of l.callers.items ++ flat_map (unit_callers l.sort) (map unit_of (drop l.unit-index l.units))
    ≡ flat_map (unit_callers l.sort) (map unit_of l.units)
