-- The marks and how they are written.
-- Delimiters and compound delimiters are those of ISO/IEC 8652:2012, 2.2, cut to this language.
use Rattle.std.specs.Prelude.{ℕ, List, [], ◌∷◌, Option, codes, find}
use Rattle.std.specs.Str.{bytes_eq}
use Rattle.seq_tree.specs.declared.token.Mark.{Mark}
use Rattle.seq_tree.specs.declared.token.Mark.TheVariants.{LeftParen, RightParen, Comma, Semicolon, Colon, Dot, DotDot, Becomes, Equal, NotEqual}
use Rattle.seq_tree.specs.declared.token.Mark.TheVariants.{Less, LessEqual, Greater, GreaterEqual, Plus, Minus, Star, Slash, StarStar}

-- how a mark is written
abbrev pub mark_text : Mark → List ℕ
mark_text LeftParen = codes "("
mark_text RightParen = codes ")"
mark_text Comma = codes ","
mark_text Semicolon = codes ";"
mark_text Colon = codes ":"
mark_text Dot = codes "."
mark_text DotDot = codes ".."
mark_text Becomes = codes ":="
mark_text Equal = codes "="
mark_text NotEqual = codes "/="
mark_text Less = codes "<"
mark_text LessEqual = codes "<="
mark_text Greater = codes ">"
mark_text GreaterEqual = codes ">="
mark_text Plus = codes "+"
mark_text Minus = codes "-"
mark_text Star = codes "*"
mark_text Slash = codes "/"
mark_text StarStar = codes "**"

-- all marks
abbrev pub marks : List Mark
marks = LeftParen ∷ RightParen ∷ Comma ∷ Semicolon ∷ Colon ∷ Dot ∷ DotDot ∷ Becomes ∷ Equal ∷ NotEqual ∷ Less ∷ LessEqual ∷ Greater ∷ GreaterEqual
    ∷ Plus ∷ Minus ∷ Star ∷ Slash ∷ StarStar ∷ []

-- the mark that is written so
unfoldable pub mark_of : List ℕ → Option Mark
mark_of text = find (λ m. bytes_eq (mark_text m) text) marks
