use Rattle.std.proofs.Common.{◌≡◌, ◌++◌, map, take}
use Rattle.seq_tree.specs.Trees.{offer_of, operation_of}
use Rattle.design_accepts.specs.Calling.{offered_by}
use Rattle.design_accepts.proofs.called.add_shared.Given as goal

-- behind what was there stand the operations so far
abbrev pub invariant-ops : goal.invariant-ops
invariant-ops l =
    map offer_of l.shared.items ≡ map offer_of l.initial.shared.items ++ map (offered_by l.name) (map operation_of (take l.op-index l.ops))
