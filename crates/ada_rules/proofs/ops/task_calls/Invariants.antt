use Rattle.std.proofs.Common.{◌≡◌, ◌++◌, map, flat_map, drop}
use Rattle.seq_cost.specs.Different.{call_of}
use Rattle.ada_tree.specs.Trees.{unit_of}
use Rattle.ada_rules.specs.Offers.{unit_task_calls}
use Rattle.ada_rules.proofs.ops.task_calls.Given as goal

-- the calls so far, and those of the units that are left
abbrev pub invariant-units : goal.invariant-units
invariant-units l =
    map call_of l.calls.items ++ flat_map unit_task_calls (map unit_of (drop l.unit-index l.units)) ≡ flat_map unit_task_calls (map unit_of l.units)
