use Rattle.std.proofs.Common.{◌≡◌, ◌++◌, map, drop, flat_map}
use Rattle.seq_tree.specs.Calls.{block_calls}
use Rattle.seq_cost.specs.Different.{call_of}
use Rattle.ada_rules.specs.Parts.{body_of}
use Rattle.ada_rules.proofs.lists.calls_of.Given as goal

-- the calls so far, and those of the bodies that are left
abbrev pub invariant-bodies : goal.invariant-bodies
invariant-bodies l = map call_of l.calls.items ++ flat_map (λ b. block_calls b.block) (map body_of (drop l.body-index l.body-items))
    ≡ flat_map (λ b. block_calls b.block) (map body_of l.body-items)
