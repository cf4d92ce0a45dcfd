-- The tokens that are left, which every reader takes its own from: the list of them, whether they are of a list or of a text.
use Rattle.std.specs.Prelude.{◌≡◌, ◌++◌, List, [], ◌∷◌, Option, Some, None}
use Rattle.seq_tree.specs.declared.token.Token.{Token}
use Rattle.token_read.specs.declared.lexemes.Lexeme.{Lexeme}
use Rattle.token_read.specs.declared.tokens_left.Tokens.{Tokens}
use Rattle.token_read.specs.Behind.{behind, counted, lexeme_of}
use Rattle.token_read.specs.Lexemes.{token_of}
use Rattle.token_read.specs.Words.{bare}

-- the tokens that are left
unfoldable pub ahead : Tokens → List Token
ahead t = counted (lexeme_of t.next) (bare t.listed.now ++ behind t.text.now)

-- the first token and those after it, or none
abbrev pub Splits : Option (Lexeme × Tokens) → List Token → Type 0
Splits None ts = ts ≡ []
Splits (Some x) ts = ts ≡ token_of x.0 ∷ ahead x.1
