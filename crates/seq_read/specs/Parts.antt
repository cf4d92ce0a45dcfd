-- What designs and Ada texts have in common beside their blocks: ends, parameters and variables, over any test of names.
-- Declarations are those of ISO/IEC 8652:2012, 3.3.1 and 6.1, cut to this language.
use Rattle.std.specs.Prelude.{Bool, List, [], ◌∷◌, ◌++◌, Option, Some, None, codes, if◌then◌else◌}
use Rattle.grammar.specs.Reading.{Read, then_at, pure_at, token_at, many_at}
use Rattle.seq_tree.specs.Names.{Name, same_name}
use Rattle.seq_tree.specs.declared.tree.Datum.{Datum}
use Rattle.seq_tree.specs.declared.tree.Mode.{Mode}
use Rattle.seq_tree.specs.declared.tree.Mode.TheVariants.{In, Out}
use Rattle.seq_tree.specs.declared.tree.Param.{Param}
use Rattle.seq_tree.specs.declared.token.Token.{Token}
use Rattle.seq_tree.specs.declared.token.Token.TheVariants.{Word, Number, Sign}
use Rattle.seq_tree.specs.declared.token.Mark.TheVariants.{Semicolon, Colon, Becomes}
use Rattle.token_read.specs.Readers.{fixed_at, number_at, name_at, next_is}
use Rattle.seq_read.specs.Statements.{word, next_is_name}

-- a closing end, and the word behind it
abbrev pub end_tokens : Name → List Token
end_tokens name = Word (codes "end") ∷ Word name ∷ Sign Semicolon ∷ []

-- what a token stands for, by its word
abbrev pub sees_by : {A : Type 0} → (Name → Option A) → Token → Option A
sees_by named (Word name) = named name
sees_by named (Number n) = None
sees_by named (Sign m) = None

-- a word that stands for something
unfoldable pub named_at : {A : Type 0} → (Name → Option A) → List Token → Read Token A
named_at named = token_at (sees_by named)

-- a mode
unfoldable pub mode_named : Name → Option Mode
mode_named name = if same_name name (codes "in") then Some In else (if same_name name (codes "out") then Some Out else None)

-- a parameter
unfoldable pub param_at : (Name → Bool) → List Token → Read Token Param
param_at is_name =
    then_at (name_at is_name) (λ name. then_at (fixed_at (Sign Colon))
    (λ _. then_at (named_at mode_named) (λ mode. then_at (word (codes "word")) (λ _.
    pure_at (record { name = name; mode = mode })))))

-- a further parameter
unfoldable pub more_param_at : (Name → Bool) → List Token → Read Token Param
more_param_at is_name = then_at (fixed_at (Sign Semicolon)) (λ _. param_at is_name)

-- all parameters, behind the first
unfoldable pub params_from_at : (Name → Bool) → Param → List Token → Read Token (List Param)
params_from_at is_name p = then_at (many_at (next_is (Sign Semicolon)) (more_param_at is_name)) (λ ps. pure_at (p ∷ ps))

-- a variable and its first value
unfoldable pub datum_at : (Name → Bool) → List Token → Read Token Datum
datum_at is_name =
    then_at (name_at is_name) (λ name. then_at (fixed_at (Sign Colon))
    (λ _. then_at (word (codes "word")) (λ _. then_at (fixed_at (Sign Becomes)) (λ _.
    then_at number_at (λ n. then_at (fixed_at (Sign Semicolon)) (λ _. pure_at (record { name = name; value = n })))))))

-- variables, as many as there are
unfoldable pub data_at : (Name → Bool) → List Token → Read Token (List Datum)
data_at is_name = many_at (next_is_name is_name) (datum_at is_name)

-- variables, behind those that are read already
unfoldable pub more_data_at : (Name → Bool) → List Datum → List Token → Read Token (List Datum)
more_data_at is_name front = then_at (data_at is_name) (λ more. pure_at (front ++ more))
