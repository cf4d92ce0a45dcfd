use Rattle.std.proofs.Common.{◌+◌, drop, flat_map, map}
use Rattle.seq_tree.specs.Layout.{layout}
use Rattle.ada_tree.specs.Spelling.{specification_lines}
use Rattle.ada_tree.specs.Trees.{unit_of}
use Rattle.ada_print.proofs.LineTurns.{groups-next, one-more}
use Rattle.ada_print.proofs.units.add_specifications.Goals as goal

pub units-preserved : goal.units-preserved
units-preserved c =
    one-more c.units.into.items c.add_specification.new.into.items (layout (specification_lines (unit_of c.unit-item.result)))
    (layout (flat_map specification_lines (map unit_of (drop (c.units.unit-index + 1) c.args.units.now)))) _ _ c.in_ok-add_specification.ensures
    (groups-next specification_lines unit_of c.args.units.now c.units.unit-index c.unit-item.result c.units-test.true c.unit-item.is)
    c.units.invariant
