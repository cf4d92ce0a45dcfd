use Rattle.std.proofs.Common.{◌≡◌, drop}
use Rattle.std.specs.Str.{bytes_eq, str_to_ascii_lowercase}
use Rattle.token_read.proofs.lexemes.folds_to.Given as goal

-- the bytes left are those of the rest of the text, or neither all are
abbrev pub invariant-bytes : goal.invariant-bytes
invariant-bytes l = bytes_eq (str_to_ascii_lowercase (drop l.byte-index l.bytes)) l.left ≡ bytes_eq (str_to_ascii_lowercase l.bytes) l.fn.text
