use Rattle.std.proofs.Common.{◌≡◌, ◌≤◌, ◌+◌, length, map, zip}
use Rattle.rt_block.specs.Causes.{first_number}
use Rattle.rt_block.proofs.causes.first_number.Given as goal

-- none so far, and what is left
abbrev pub invariant-threads : goal.invariant-threads
invariant-threads l = record {
  left : first_number l.known l.level l.at (zip (map (λ v. v.items) l.live) l.priorities)
      ≡ first_number l.known l.level 0 (zip (map (λ v. v.items) l.fn.live) l.fn.priorities);
  many : length l.priorities ≡ length l.live;
  few : l.at + length l.live ≤ 30;
}

abbrev pub decreases-threads : goal.decreases-threads
decreases-threads l = length l.live
