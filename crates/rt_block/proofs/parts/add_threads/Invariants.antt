use Rattle.std.proofs.Common.{◌≡◌, ◌++◌, map, drop}
use Rattle.rt_block.proofs.parts.add_threads.Given as goal

-- the costs so far, and those of the threads that are left
abbrev pub invariant-bases : goal.invariant-bases
invariant-bases l = l.into.items ++ map (λ b. b.cost) (drop l.base-index l.bases) ≡ l.initial.into.items ++ map (λ b. b.cost) l.bases
