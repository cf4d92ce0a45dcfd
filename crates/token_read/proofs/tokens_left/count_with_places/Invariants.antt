use Rattle.std.proofs.Common.{◌≡◌, ◌+◌, ◌≤◌, List, length}
use Rattle.seq_tree.specs.declared.token.Spanned.{Spanned}
use Rattle.seq_tree.specs.Lexis.{tokens, tokens_after}
use Rattle.token_read.specs.Places.{Fits}
use Rattle.token_read.proofs.Shared.TokenSteps.{with_front}
use Rattle.token_read.proofs.tokens_left.count_with_places.Given as goal

-- the tokens so far, as many as were counted, and then those of what is left
abbrev pub invariant-tokens : goal.invariant-tokens
invariant-tokens l = record {
  fits : Fits l.place (length l.left);
  within : l.count + length l.left ≤ length l.bytes;
  read : (found : List Spanned) × (l.count ≡ length found) × (with_front found (tokens_after 0 l.place l.left) ≡ tokens l.bytes);
}

abbrev pub decreases-tokens : goal.decreases-tokens
decreases-tokens l = length l.left
