use Rattle.std.proofs.Common.{◌≡◌, flat_map, map, drop}
use Rattle.std.specs.List.{list_any}
use Rattle.seq_tree.specs.Limits.{tick_limit}
use Rattle.seq_tree.specs.Calls.{block_works}
use Rattle.ada_tree.specs.Ranges.{is_outside}
use Rattle.ada_rules.specs.Parts.{body_of}
use Rattle.ada_rules.proofs.ranges.bodies_break.Given as goal

-- it is up to the bodies that are left
abbrev pub invariant-bodies : goal.invariant-bodies
invariant-bodies l = list_any (is_outside 1 tick_limit) (flat_map (λ b. block_works b.block) (map body_of (drop l.body-index l.bodies)))
    ≡ list_any (is_outside 1 tick_limit) (flat_map (λ b. block_works b.block) (map body_of l.bodies))
