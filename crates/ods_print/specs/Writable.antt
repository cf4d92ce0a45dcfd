-- Designs whose text reads back: each name and each number can be read from a text.
-- Lexical elements are those of ISO/IEC 8652:2012, 2.1 to 2.7.
use Rattle.std.specs.Prelude.{Bool}
use Rattle.std.specs.List.{list_all}
use Rattle.seq_print.specs.Readable.{is_readable}
use Rattle.ods_tree.specs.Designs.{Design}
use Rattle.ods_tree.specs.Spelling.{design_tokens}

-- whether a text can hold each token of a design
abbrev pub is_writable : Design → Bool
is_writable x = list_all is_readable (design_tokens x)
