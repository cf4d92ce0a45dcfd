-- What the code's front and its choice by the first byte stand for: those of the definition of tokens in seq_tree. Each number is
-- a count of bytes.
use Rattle.std.specs.Prelude.{ℕ, Bool, false, ◌==◌, List, [], ◌∷◌, option_map}
use Rattle.seq_tree.specs.Lexis as lexis
use Rattle.token_read.specs.declared.fronts.Front.{Front}
use Rattle.token_read.specs.declared.fronts.Start.{Start}
use Rattle.token_read.specs.Lexemes.{token_of}
use Rattle.token_read.specs.declared.fronts.Start.TheVariants.{Space, Comment, Name, Numeral, Other}

-- a front
abbrev pub front_view : Front → lexis.Front
front_view f = record { token = option_map token_of f.token; len = f.len }

-- what a first byte begins
abbrev pub start_view : Start → lexis.Start
start_view Space = lexis.Space
start_view Comment = lexis.Comment
start_view Name = lexis.Name
start_view Numeral = lexis.Numeral
start_view Other = lexis.Other

-- whether bytes begin with an underscore
abbrev pub begins_under : List ℕ → Bool
begins_under [] = false
begins_under (c ∷ cs) = lexis.is_underscore c

-- a space
abbrev pub is_blank : ℕ → Bool
is_blank c = c == 32
