use Rattle.std.proofs.Common.{◌≡◌, ◌+◌, ◌≤◌, true, length}
use Rattle.token_read.specs.Behind.{behind, is_whole}
use Rattle.token_read.proofs.tokens_left.count_of_whole.Given as goal

-- the text has a fault where what is left has one, and else as many tokens as were counted and as are left
abbrev pub invariant-fronts : goal.invariant-fronts
invariant-fronts l = record {
  few : l.count + length l.left ≤ length l.bytes;
  whole : is_whole l.bytes ≡ is_whole l.left;
  counts : is_whole l.left ≡ true → length (behind l.bytes) ≡ l.count + length (behind l.left);
}

abbrev pub decreases-fronts : goal.decreases-fronts
decreases-fronts l = length l.left
