-- The place at which a reader stopped, by the number of tokens that were left.
-- Lines and columns are those of the lexical grammar.
use Rattle.std.specs.Prelude.{ℕ, ◌-◌, List, length, slice_get}
use Rattle.seq_tree.specs.declared.token.Place.{Place}
use Rattle.seq_tree.specs.declared.token.Spanned.{Spanned}
use Rattle.token_read.specs.Places.{place_or}

-- the place of the first of the last tokens, of which there are so many
abbrev pub place_at : List ℕ → List Spanned → ℕ → Place
place_at bytes ts left = place_or bytes (slice_get ts (length ts - left))
