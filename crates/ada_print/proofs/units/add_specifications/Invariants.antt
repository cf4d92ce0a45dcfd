use Rattle.std.proofs.Common.{◌≡◌, ◌++◌, drop, flat_map, map}
use Rattle.seq_tree.specs.Layout.{layout}
use Rattle.ada_tree.specs.Spelling.{specification_lines}
use Rattle.ada_tree.specs.Trees.{unit_of}
use Rattle.ada_print.proofs.units.add_specifications.Given as goal

-- with the lines of the units that are left, those of all have been added
abbrev pub invariant-units : goal.invariant-units
invariant-units l =
    l.into.items ++ layout (flat_map specification_lines (map unit_of (drop l.unit-index l.units)))
    ≡ l.initial.into.items ++ layout (flat_map specification_lines (map unit_of l.units))
