-- Lines that read back as their own tokens: each token can be read from a text, and no token joins with the next one.
-- Lexical elements are those of ISO/IEC 8652:2012, 2.1 to 2.7; the layout is this project's own.
use Rattle.std.specs.Prelude.{ℕ, Bool, true, false, ◌&&◌, List, [], ◌∷◌, ◌++◌, codes, flat_map, length, nat_le, nat_lt}
use Rattle.std.specs.List.{list_all}
use Rattle.std.specs.Str.{bytes_eq, str_to_ascii_lowercase}
use Rattle.seq_tree.specs.Lexis.{is_name, is_not_line_feed}
use Rattle.seq_tree.specs.Spelling.{Line}
use Rattle.seq_tree.specs.declared.token.Token.{Token}
use Rattle.seq_tree.specs.declared.token.Token.TheVariants.{Word, Number, Sign}
use Rattle.seq_tree.specs.declared.token.Mark.TheVariants.{Dot, DotDot}

-- whether a text can hold a token: a name of at most 64 bytes in lower case, a number below 2 ^ 32, or a mark
abbrev pub is_readable : Token → Bool
is_readable (Word name) = is_name name && (bytes_eq (str_to_ascii_lowercase name) name && nat_le (length name) 64)
is_readable (Number n) = nat_lt n 4294967296
is_readable (Sign m) = true

-- whether two tokens stay two where one follows the other: dots would join
abbrev pub are_apart : Token → Token → Bool
are_apart (Sign Dot) (Sign Dot) = false
are_apart (Sign Dot) (Sign DotDot) = false
are_apart t u = true

-- whether the tokens of a line can be read back from it
abbrev pub is_readable_line : List Token → Bool
is_readable_line [] = true
is_readable_line (t ∷ []) = is_readable t
is_readable_line (t ∷ u ∷ ts) = is_readable t && (are_apart t u && is_readable_line (u ∷ ts))

-- whether the tokens of lines can
abbrev pub are_readable : List Line → Bool
are_readable lines = list_all (λ l. is_readable_line l.tokens) lines

-- comments, each on a line of its own
abbrev pub comments_text : List (List ℕ) → List ℕ
comments_text bodies = flat_map (λ body. codes "--" ++ (body ++ codes "\n")) bodies

-- whether bytes can stand in a comment
abbrev pub is_comment : List ℕ → Bool
is_comment body = list_all is_not_line_feed body
