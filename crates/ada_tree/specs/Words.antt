-- The words that are no name in an Ada text: those that are reserved, and those that the text uses itself.
-- The reserved words are those of ISO/IEC 8652:2012, 2.9.
use Rattle.std.specs.Prelude.{ℕ, ◌==◌, Bool, not, ◌||◌, List, [], ◌∷◌, length, nat_eq, codes}
use Rattle.std.specs.List.{starts_with}
use Rattle.seq_tree.specs.Names.{Name}
use Rattle.seq_tree.specs.Proper.{is_among}

-- the reserved words
abbrev pub reserved_words : List (List ℕ)
reserved_words =
    codes "abort" ∷ codes "abs" ∷ codes "abstract" ∷ codes "accept" ∷ codes "access" ∷ codes "aliased" ∷ codes "all" ∷
    codes "and" ∷ codes "array" ∷ codes "at" ∷ codes "begin" ∷ codes "body" ∷ codes "case" ∷ codes "constant" ∷ codes "declare" ∷
    codes "delay" ∷ codes "delta" ∷ codes "digits" ∷ codes "do" ∷ codes "else" ∷ codes "elsif" ∷ codes "end" ∷ codes "entry" ∷
    codes "exception" ∷ codes "exit" ∷ codes "for" ∷ codes "function" ∷ codes "generic" ∷ codes "goto" ∷ codes "if" ∷ codes "in" ∷
    codes "interface" ∷ codes "is" ∷ codes "limited" ∷ codes "loop" ∷ codes "mod" ∷ codes "new" ∷ codes "not" ∷ codes "null" ∷
    codes "of" ∷ codes "or" ∷ codes "others" ∷ codes "out" ∷ codes "overriding" ∷ codes "package" ∷ codes "pragma" ∷
    codes "private" ∷ codes "procedure" ∷ codes "protected" ∷ codes "raise" ∷ codes "range" ∷ codes "record" ∷ codes "rem" ∷
    codes "renames" ∷ codes "requeue" ∷ codes "return" ∷ codes "reverse" ∷ codes "select" ∷ codes "separate" ∷ codes "some" ∷
    codes "subtype" ∷ codes "synchronized" ∷ codes "tagged" ∷ codes "task" ∷ codes "terminate" ∷ codes "then" ∷ codes "type" ∷
    codes "until" ∷ codes "use" ∷ codes "when" ∷ codes "while" ∷ codes "with" ∷ codes "xor" ∷ []

-- the words that the text uses itself
abbrev pub kept_words : List (List ℕ)
kept_words =
    codes "hrt" ∷ codes "word" ∷ codes "work" ∷ codes "put" ∷ codes "activation_end" ∷ codes "boolean" ∷ codes "true" ∷
    codes "false" ∷ codes "ada" ∷ codes "standard" ∷ codes "system" ∷ []

-- whether a word is a name of a program: it has a byte, is none of them, and begins in another way than the text's own names
unfoldable pub is_ada_name : Name → Bool
is_ada_name name = not (length name == 0 || is_among reserved_words name || is_among kept_words name || starts_with nat_eq name (codes "hrt_"))
