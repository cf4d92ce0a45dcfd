use Rattle.std.proofs.Common.{◌≡◌, ◌++◌, filter, flat_map, map, drop}
use Rattle.seq_tree.specs.Names.{Name}
use Rattle.seq_tree.specs.declared.tree.OpName.{OpName}
use Rattle.ods_index.specs.Calling.{calls_of}
use Rattle.ods_calls.specs.Held.{is_held}
use Rattle.ods_calls.specs.Requested.{object_callers, op_callers}
use Rattle.ods_calls.specs.Requesters.{by_object, by_op}
use Rattle.ods_calls.proofs.callers.Callers.of_bodies.Given as goal

-- the bodies so far, and those that are left
abbrev pub invariant-calls : goal.invariant-calls
invariant-calls l =
    ((n : OpName) → by_op l.callers.ops n ++ flat_map (op_callers n) (filter is_held (map calls_of (drop l.body-index l.calls)))
    ≡ flat_map (op_callers n) (filter is_held (map calls_of l.calls)))
    × ((n : Name) → by_object l.callers.objects n ++ flat_map (object_callers n) (filter is_held (map calls_of (drop l.body-index l.calls)))
    ≡ flat_map (object_callers n) (filter is_held (map calls_of l.calls)))
