-- What a reader of the program answers, against a reader of the definitions, and when two tokens are one.
-- Tokens are those of the lexical grammar, without their places.
use Rattle.std.specs.Prelude.{◌≡◌, ℕ, Bool, false, ◌==◌, List, map, Result, Ok, Err, ⊤}
use Rattle.std.specs.Str.{bytes_eq}
use Rattle.grammar.specs.Reading.{Halt, Read}
use Rattle.grammar.specs.Reading as reading
use Rattle.seq_tree.specs.declared.token.Token.{Token}
use Rattle.seq_tree.specs.declared.token.Token.TheVariants as token
use Rattle.seq_tree.specs.declared.token.Spanned.{Spanned}
use Rattle.seq_tree.specs.declared.token.Mark.{Mark}
use Rattle.seq_tree.specs.declared.token.Mark.TheVariants as mark
use Rattle.token_read.specs.declared.token_fault.TokenFault.{TokenFault}
use Rattle.token_read.specs.declared.token_fault.TokenFault.TheVariants.{Syntax, NoMemory}
use Rattle.token_read.specs.declared.words.Item.{Item}
use Rattle.token_read.specs.declared.words.Item.TheVariants as item

-- tokens without their places
abbrev pub bare : List Spanned → List Token
bare ts = map (λ s. s.token) ts

-- the fault of a reader is that of the definitions, unless memory ran out
abbrev pub Fails : {A : Type 0} → TokenFault → Read Token A → Type 0
Fails (Syntax left) read = read ≡ Err (reading.Syntax left)
Fails NoMemory read = ⊤

-- the answer of a reader, by a view of its value
abbrev pub Gives : {X A : Type 0} → (X → A × List Token) → Result X TokenFault → Read Token A → Type 0
Gives view (Ok x) read = read ≡ Ok (view x)
Gives view (Err e) read = Fails e read

-- the fault of a reader of a whole text
abbrev pub FailsWhole : {A : Type 0} → TokenFault → Result A Halt → Type 0
FailsWhole (Syntax left) read = read ≡ Err (reading.Syntax left)
FailsWhole NoMemory read = ⊤

-- the answer of a reader of a whole text
abbrev pub GivesWhole : {X A : Type 0} → (X → A) → Result X TokenFault → Result A Halt → Type 0
GivesWhole view (Ok x) read = read ≡ Ok (view x)
GivesWhole view (Err e) read = FailsWhole e read

-- marks by number
abbrev pub number_of : Mark → ℕ
number_of mark.LeftParen = 0
number_of mark.RightParen = 1
number_of mark.Comma = 2
number_of mark.Semicolon = 3
number_of mark.Colon = 4
number_of mark.Dot = 5
number_of mark.DotDot = 6
number_of mark.Becomes = 7
number_of mark.Equal = 8
number_of mark.NotEqual = 9
number_of mark.Less = 10
number_of mark.LessEqual = 11
number_of mark.Greater = 12
number_of mark.GreaterEqual = 13
number_of mark.Plus = 14
number_of mark.Minus = 15
number_of mark.Star = 16
number_of mark.Slash = 17
number_of mark.StarStar = 18

-- whether two marks are one
abbrev pub same_mark : Mark → Mark → Bool
same_mark a b = number_of a == number_of b

-- whether two tokens are one
abbrev pub same_token : Token → Token → Bool
same_token (token.Word a) (token.Word b) = bytes_eq a b
same_token (token.Sign a) (token.Sign b) = same_mark a b
same_token (token.Number a) (token.Number b) = a == b
same_token _ _ = false

-- the token that an item of a table stands for
abbrev pub item_token : Item → Token
item_token (item.Word text) = token.Word text.now
item_token (item.Sign m) = token.Sign m
item_token (item.Number n) = token.Number n
