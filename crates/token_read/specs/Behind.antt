-- The tokens of a text that are still to be read, without their places, and what reading one of them answers.
-- They are those that the lexical grammar gives the text by itself, wherever it stands.
use Rattle.std.specs.Prelude.{◌≡◌, ◌≤◌, ℕ, Bool, true, List, [], ◌∷◌, length, Option, Some, None, is_some, Result, Ok, Err}
use Rattle.std.specs.Borrow.{Bor}
use Rattle.seq_tree.specs.Limits.{ada_limit}
use Rattle.seq_tree.specs.Lexis.{Misread, tokens}
use Rattle.seq_tree.specs.declared.token.Spanned.{Spanned}
use Rattle.seq_tree.specs.declared.token.Token.{Token}
use Rattle.token_read.specs.declared.lexemes.Lexeme.{Lexeme}
use Rattle.token_read.specs.declared.lexemes.Lexeme.TheVariants.{Word, Number, Sign}
use Rattle.token_read.specs.declared.lexemes.Word.TheVariants as word
use Rattle.token_read.specs.declared.tokens_left.Next.{Next}
use Rattle.token_read.specs.declared.tokens_left.Next.TheVariants as next
use Rattle.token_read.specs.Lexemes.{token_of}
use Rattle.token_read.specs.Words.{bare}

-- the tokens, where the text has no fault
abbrev pub found_in : Result (List Spanned) Misread → Option (List Token)
found_in (Ok ts) = Some (bare ts)
found_in (Err fault) = None

-- the tokens, or none
abbrev pub or_none : Option (List Token) → List Token
or_none None = []
or_none (Some ts) = ts

-- the tokens of a text without faults
unfoldable pub behind : List ℕ → List Token
behind bytes = or_none (found_in (tokens bytes))

-- whether a text has no fault
unfoldable pub is_whole : List ℕ → Bool
is_whole bytes = is_some (found_in (tokens bytes))

-- a token before others, where there is one
abbrev pub seen : Option Lexeme → List Token → List Token
seen None ts = ts
seen (Some l) ts = token_of l ∷ ts

-- the first token, where there is one
abbrev pub lexeme_of : Next → Option Lexeme
lexeme_of next.None = None
lexeme_of (next.Raw w) = Some (Word (word.Raw w))
lexeme_of (next.Kept n) = Some (Word (word.Kept n))
lexeme_of (next.Number n) = Some (Number n)
lexeme_of (next.Sign m) = Some (Sign m)

-- a token and others, and none at all where there is no first one
abbrev pub counted : Option Lexeme → List Token → List Token
counted None ts = []
counted (Some l) ts = token_of l ∷ ts

-- the first token and the bytes behind it, or none
abbrev pub Finds : Option (Lexeme × Bor (List ℕ)) → List Token → Type 0
Finds None ts = ts ≡ []
Finds (Some x) ts = (ts ≡ token_of x.0 ∷ behind x.1.now) × (is_whole x.1.now ≡ true) × (length x.1.now ≤ ada_limit)
