use Rattle.std.proofs.Common.{◌≡◌, ◌++◌, filter, flat_map, map, drop}
use Rattle.seq_tree.specs.declared.tree.OpName.{OpName}
use Rattle.ods_index.specs.Calling.{calls_of}
use Rattle.ods_calls.specs.Held.{is_held}
use Rattle.ods_calls.specs.Requested.{bodies_at, held_named}
use Rattle.ods_calls.proofs.bodies.table_of.Given as goal

-- the bodies so far, and those that are left
abbrev pub invariant-calls : goal.invariant-calls
invariant-calls l =
    (n : OpName) → bodies_at l.table n ++ flat_map (held_named n) (filter is_held (map calls_of (drop l.body-index l.calls)))
    ≡ flat_map (held_named n) (filter is_held (map calls_of l.calls))
