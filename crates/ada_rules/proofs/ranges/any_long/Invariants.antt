use Rattle.std.proofs.Common.{◌≡◌, nat_lt, length, map, drop}
use Rattle.std.specs.List.{list_any}
use Rattle.ada_rules.specs.Lists.{head_of}
use Rattle.ada_rules.proofs.ranges.any_long.Given as goal

-- it is up to the heads that are left
abbrev pub invariant-heads : goal.invariant-heads
invariant-heads l = list_any (λ h. nat_lt 8 (length h.params)) (map head_of (drop l.head-index l.heads))
    ≡ list_any (λ h. nat_lt 8 (length h.params)) (map head_of l.heads)
