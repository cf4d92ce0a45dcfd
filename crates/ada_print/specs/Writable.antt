-- Programs whose text reads back: each name and each number can be read from a text.
-- Lexical elements are those of ISO/IEC 8652:2012, 2.1 to 2.7.
use Rattle.std.specs.Prelude.{ℕ, Bool}
use Rattle.std.specs.List.{list_all}
use Rattle.seq_tree.specs.Names.{Name}
use Rattle.seq_tree.specs.declared.token.Token.TheVariants.{Word, Number}
use Rattle.seq_print.specs.Readable.{is_readable}
use Rattle.ada_tree.specs.Programs.{Program}
use Rattle.ada_tree.specs.Spelling.{program_tokens}

-- whether a name can be read
abbrev pub is_word : Name → Bool
is_word name = is_readable (Word name)

-- whether a number can be read
abbrev pub is_number : ℕ → Bool
is_number n = is_readable (Number n)

-- whether a text can hold each token of a program
abbrev pub is_writable : Program → Bool
is_writable p = list_all is_readable (program_tokens p)
