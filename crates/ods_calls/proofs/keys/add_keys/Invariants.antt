use Rattle.std.proofs.Common.{◌≡◌, ◌++◌, map, filter, drop}
use Rattle.std.specs.List.{list_any}
use Rattle.seq_tree.specs.Calls.{same_op}
use Rattle.seq_cost.specs.Different.{call_of}
use Rattle.ods_tree.specs.Links.{resolve}
use Rattle.ods_tree.specs.Trees.{design_of}
use Rattle.ods_calls.specs.Keys.{key}
use Rattle.ods_calls.proofs.keys.add_keys.Given as goal

-- what was added so far, and what the calls mean that are left
abbrev pub invariant-calls : goal.invariant-calls
invariant-calls l =
    map call_of l.into.items ++ map (λ c. key l.targets (resolve (design_of l.links.design.now) c))
    (filter (λ c. list_any (same_op c) l.needs.ops.now) (map call_of (drop l.call-index l.calls)))
    ≡ map call_of l.initial.into.items ++ map (λ c. key l.targets (resolve (design_of l.links.design.now) c))
    (filter (λ c. list_any (same_op c) l.needs.ops.now) (map call_of l.calls))
