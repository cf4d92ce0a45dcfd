use Rattle.std.proofs.Common.{◌≡◌, drop, map}
use Rattle.std.specs.List.{list_any}
use Rattle.design_rules.specs.Lookups.{is_sporadic}
use Rattle.ods_index.specs.Nodes.{node_object}
use Rattle.ods_calls.proofs.keys.any_sporadic.Given as goal

-- it is up to the threads that are left
abbrev pub invariant-threads : goal.invariant-threads
invariant-threads l =
    list_any (λ o. is_sporadic o.kind) (map node_object (drop l.node-index l.threads))
    ≡ list_any (λ o. is_sporadic o.kind) (map node_object l.threads)
