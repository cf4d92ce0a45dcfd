-- What a reader of the program answers, against a reader of the definitions, where these have limits.
-- The number is that of the tokens that were left.
use Rattle.std.specs.Prelude.{◌≡◌, List, Result, Ok, Err, ⊤}
use Rattle.grammar.specs.Reading.{Read}
use Rattle.grammar.specs.Reading as reading
use Rattle.seq_tree.specs.declared.token.Token.{Token}
use Rattle.seq_read.specs.declared.halt.Halt.{Halt}
use Rattle.seq_read.specs.declared.halt.Halt.TheVariants.{Syntax, TooDeep, NoMemory}

-- the cause of a reader is that of the definitions, unless memory ran out
abbrev pub Stops : {A : Type 0} → Halt → Result A reading.Halt → Type 0
Stops (Syntax left) read = read ≡ Err (reading.Syntax left)
Stops (TooDeep left) read = read ≡ Err (reading.TooDeep left)
Stops NoMemory read = ⊤

-- the answer of a reader, by a view of its value
abbrev pub Gives : {X A : Type 0} → (X → A × List Token) → Result X Halt → Read Token A → Type 0
Gives view (Ok x) read = read ≡ Ok (view x)
Gives view (Err e) read = Stops e read

-- the answer of a reader of a whole text
abbrev pub GivesWhole : {X A : Type 0} → (X → A) → Result X Halt → Result A reading.Halt → Type 0
GivesWhole view (Ok x) read = read ≡ Ok (view x)
GivesWhole view (Err e) read = Stops e read
