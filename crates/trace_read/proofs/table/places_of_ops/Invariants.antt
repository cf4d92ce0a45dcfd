use Rattle.std.proofs.Common.{map, take}
use Rattle.ada_tree.specs.Trees.{unit_of}
use Rattle.trace_read.specs.Tables.{AreTables}
use Rattle.trace_read.proofs.table.places_of_ops.Given as goal

-- tables of the units so far
abbrev pub invariant-units : goal.invariant-units
invariant-units l = AreTables (map unit_of (take l.unit-index l.units)) l.ops.items
