-- The bytes that names and numbers are made of, by the sort of their run.
-- Letters and digits are those of ISO/IEC 8652:2012, 2.1, in ASCII.
use Rattle.std.specs.Prelude.{ℕ, Bool}
use Rattle.std.specs.Char.{is_ascii_alphanumeric, is_ascii_digit}
use Rattle.seq_tree.specs.declared.runs.Part.{Part}
use Rattle.seq_tree.specs.declared.runs.Part.TheVariants.{LetterOrDigit, Digit}

-- whether a byte is such a part
abbrev pub is_part : Part → ℕ → Bool
is_part LetterOrDigit c = is_ascii_alphanumeric c
is_part Digit c = is_ascii_digit c
