use Rattle.std.proofs.Common.{◌≡◌, ◌≤◌, true, length}
use Rattle.seq_tree.specs.Limits.{ada_limit}
use Rattle.token_read.specs.Behind.{behind, is_whole}
use Rattle.token_read.proofs.tokens_left.next_of.Given as goal

-- no token was left out
abbrev pub invariant-fronts : goal.invariant-fronts
invariant-fronts l = record {
  few : length l.left ≤ ada_limit;
  whole : is_whole l.left ≡ true;
  same : behind l.left ≡ behind l.bytes;
}

abbrev pub decreases-fronts : goal.decreases-fronts
decreases-fronts l = length l.left
