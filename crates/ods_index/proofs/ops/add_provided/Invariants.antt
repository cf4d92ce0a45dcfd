use Rattle.std.proofs.Common.{◌≡◌, ◌++◌, map, drop}
use Rattle.ods_tree.specs.Trees.{provided_of}
use Rattle.ods_index.proofs.ops.add_provided.Given as goal
use Rattle.seq_cost.specs.Different.{call_of}

-- the operations so far, and those that are left
abbrev pub invariant-provides : goal.invariant-provides
invariant-provides l =
    map call_of l.ops.items ++ map (λ p. record { object = l.object; op = p.sig.name }) (map provided_of (drop l.provided-index l.provides))
    ≡ map call_of l.initial.ops.items ++ map (λ p. record { object = l.object; op = p.sig.name }) (map provided_of l.provides)
