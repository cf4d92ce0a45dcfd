use Rattle.std.proofs.Common.{◌≡◌, ◌++◌, filter, map, drop}
use Rattle.call_graph.specs.Once.{caller_of}
use Rattle.ods_tree.specs.Trees.{design_of}
use Rattle.ods_calls.specs.Held.{is_held}
use Rattle.ods_calls.specs.Keys.{held_caller}
use Rattle.ods_index.specs.Calling.{calls_of}
use Rattle.ods_calls.proofs.keys.add_callers.Given as goal

-- the callers so far, and those of the bodies that are left
abbrev pub invariant-calls : goal.invariant-calls
invariant-calls l =
    map caller_of l.into.items
    ++ map (held_caller l.targets (design_of l.links.design.now)) (filter is_held (map calls_of (drop l.body-index l.calls)))
    ≡ map caller_of l.initial.into.items
    ++ map (held_caller l.targets (design_of l.links.design.now)) (filter is_held (map calls_of l.calls))
