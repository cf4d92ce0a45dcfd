use Rattle.std.proofs.Common.{map, drop}
use Rattle.ada_tree.specs.Trees.{unit_of}
use Rattle.design_accepts.specs.Calling.{Reaches}
use Rattle.design_accepts.proofs.called.called_of.Given as goal

-- what the units so far have, with that of the units that are left
abbrev pub invariant-units : goal.invariant-units
invariant-units l = Reaches l.called (map unit_of (drop l.unit-index l.units)) (map unit_of l.units)
