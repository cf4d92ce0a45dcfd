use Rattle.std.proofs.Common.{◌≡◌, map, drop}
use Rattle.std.specs.List.{list_any}
use Rattle.seq_tree.specs.Limits.{tick_limit}
use Rattle.ada_tree.specs.Ranges.{is_outside}
use Rattle.ada_rules.specs.Parts.{part_of, works_in}
use Rattle.ada_rules.proofs.ranges.any_wrong_work.Given as goal

-- it is up to the parts that are left
abbrev pub invariant-parts : goal.invariant-parts
invariant-parts l = list_any (is_outside 1 tick_limit) (works_in (map part_of (drop l.part-index l.parts)))
    ≡ list_any (is_outside 1 tick_limit) (works_in (map part_of l.parts))
