-- What a token that takes no memory stands for: the token of the lexical grammar, with its word folded to lower case.
use Rattle.std.specs.Prelude.{ℕ, List}
use Rattle.std.specs.Str.{str_to_ascii_lowercase}
use Rattle.seq_tree.specs.declared.token.Token.{Token}
use Rattle.seq_tree.specs.declared.token.Token.TheVariants as token
use Rattle.token_read.specs.declared.lexemes.Word.{Word}
use Rattle.token_read.specs.declared.lexemes.Word.TheVariants as word
use Rattle.token_read.specs.declared.lexemes.Lexeme.{Lexeme}
use Rattle.token_read.specs.declared.lexemes.Lexeme.TheVariants as lexeme

-- the bytes of a word
abbrev pub word_bytes : Word → List ℕ
word_bytes (word.Raw w) = str_to_ascii_lowercase w.bytes.now
word_bytes (word.Kept n) = n.now

-- the token
abbrev pub token_of : Lexeme → Token
token_of (lexeme.Word w) = token.Word (word_bytes w)
token_of (lexeme.Number n) = token.Number n
token_of (lexeme.Sign m) = token.Sign m
