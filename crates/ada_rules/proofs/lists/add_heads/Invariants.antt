use Rattle.std.proofs.Common.{◌≡◌, ◌++◌, map, take}
use Rattle.ada_rules.specs.Lists.{head_of, names_of}
use Rattle.ada_rules.proofs.lists.add_heads.Given as goal

-- the names so far are those of the heads so far
abbrev pub invariant-heads : goal.invariant-heads
invariant-heads l = names_of l.names.items ≡ names_of l.initial.names.items ++ map (λ h. h.name) (map head_of (take l.head-index l.heads))
