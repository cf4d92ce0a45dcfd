use Rattle.std.proofs.Common.{◌≡◌, map, take}
use Rattle.std.specs.List.{list_any}
use Rattle.seq_tree.specs.declared.tree.OpName.{OpName}
use Rattle.ada_tree.specs.Trees.{unit_of}
use Rattle.ada_rules.specs.Offers.{is_offered}
use Rattle.name_sets.specs.Sets.{has_op}
use Rattle.ada_rules.proofs.ops.ops_of.Given as goal

-- the operations of the units so far
abbrev pub invariant-units : goal.invariant-units
invariant-units l = (n : OpName) → has_op l.ops n ≡ list_any (is_offered l.offered n) (map unit_of (take l.unit-index l.units))
