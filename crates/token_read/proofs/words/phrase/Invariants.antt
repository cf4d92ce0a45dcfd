use Rattle.std.proofs.Common.{◌≡◌, drop, map}
use Rattle.token_read.specs.Ahead.{ahead}
use Rattle.token_read.specs.Words.{item_token}
use Rattle.token_read.specs.Readers.{phrase_at}
use Rattle.token_read.proofs.words.phrase.Given as goal

abbrev pub invariant-items : goal.invariant-items
invariant-items l = phrase_at (map item_token (drop l.item-index l.items)) (ahead l.rest) ≡ phrase_at (map item_token l.items) (ahead l.fn.tokens)
