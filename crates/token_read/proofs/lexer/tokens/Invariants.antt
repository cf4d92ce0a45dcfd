use Rattle.std.proofs.Common.{◌≡◌, length}
use Rattle.seq_tree.specs.Lexis.{tokens, tokens_after}
use Rattle.token_read.specs.Places.{Fits}
use Rattle.token_read.proofs.Shared.TokenSteps.{with_front}
use Rattle.token_read.proofs.lexer.tokens.Given as goal

-- the tokens so far, and then those of what is left
abbrev pub invariant-tokens : goal.invariant-tokens
invariant-tokens l = record {
  fits : Fits l.place (length l.left);
  read : with_front l.found.items (tokens_after 0 l.place l.left) ≡ tokens l.bytes;
}

abbrev pub decreases-tokens : goal.decreases-tokens
decreases-tokens l = length l.left
