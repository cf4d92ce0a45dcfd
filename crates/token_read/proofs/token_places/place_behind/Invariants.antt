use Rattle.std.proofs.Common.{◌≡◌, length}
use Rattle.seq_tree.specs.Lexis.{place_past, tokens, tokens_after}
use Rattle.token_read.specs.Places.{Fits}
use Rattle.token_read.proofs.PlaceWalk.{placed}
use Rattle.token_read.proofs.token_places.place_behind.Given as goal

-- the token sought stands behind so many others of what is left
abbrev pub invariant-tokens : goal.invariant-tokens
invariant-tokens l = record {
  fits : Fits l.place (length l.left);
  past : place_past l.place l.left ≡ place_past (record { line = 1; column = 1 }) l.bytes;
  walk : placed l.others l.bytes (tokens_after 0 l.place l.left) ≡ placed l.before l.bytes (tokens l.bytes);
}

abbrev pub decreases-tokens : goal.decreases-tokens
decreases-tokens l = length l.left
