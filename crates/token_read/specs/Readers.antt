-- Readers of single tokens, and of fixed tokens one after another.
-- Each takes a token by what it stands for.
use Rattle.std.specs.Prelude.{ℕ, Bool, true, false, List, [], ◌∷◌, Option, Some, None, if◌then◌else◌}
use Rattle.grammar.specs.Reading.{Read, then_at, pure_at, token_at}
use Rattle.seq_tree.specs.Limits.{is_within}
use Rattle.seq_tree.specs.Names.{Name}
use Rattle.seq_tree.specs.declared.token.Token.{Token}
use Rattle.seq_tree.specs.declared.token.Token.TheVariants as token
use Rattle.token_read.specs.Words.{same_token}

-- this token
abbrev pub sees_fixed : Token → Token → Option (Unit {0})
sees_fixed u t = if same_token t u then Some tt else None

-- this token
unfoldable pub fixed_at : Token → List Token → Read Token (Unit {0})
fixed_at u = token_at (sees_fixed u)

-- these tokens, one after another
abbrev pub phrase_at : List Token → List Token → Read Token (Unit {0})
phrase_at [] = pure_at tt
phrase_at (u ∷ us) = then_at (fixed_at u) (λ _. phrase_at us)

-- a number
abbrev pub sees_number : Token → Option ℕ
sees_number (token.Number n) = Some n
sees_number (token.Word name) = None
sees_number (token.Sign m) = None

-- a number
unfoldable pub number_at : List Token → Read Token ℕ
number_at = token_at sees_number

-- a number of a range
abbrev pub sees_number_within : ℕ → ℕ → Token → Option ℕ
sees_number_within low high (token.Number n) = if is_within low high n then Some n else None
sees_number_within low high (token.Word name) = None
sees_number_within low high (token.Sign m) = None

-- a number of a range
unfoldable pub number_within_at : ℕ → ℕ → List Token → Read Token ℕ
number_within_at low high = token_at (sees_number_within low high)

-- a word
abbrev pub sees_word : Token → Option Name
sees_word (token.Word name) = Some name
sees_word (token.Number n) = None
sees_word (token.Sign m) = None

-- a word
unfoldable pub word_at : List Token → Read Token Name
word_at = token_at sees_word

-- a word that passes a test
abbrev pub sees_name : (Name → Bool) → Token → Option Name
sees_name test (token.Word name) = if test name then Some name else None
sees_name test (token.Number n) = None
sees_name test (token.Sign m) = None

-- a word that passes a test
unfoldable pub name_at : (Name → Bool) → List Token → Read Token Name
name_at test = token_at (sees_name test)

-- whether the next token is this one
abbrev pub next_is : Token → Option Token → Bool
next_is u None = false
next_is u (Some t) = same_token t u

-- whether the next token is a number
abbrev pub next_is_number : Option Token → Bool
next_is_number (Some (token.Number n)) = true
next_is_number _ = false
