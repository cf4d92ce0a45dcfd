-- The words that are no name in a design.
-- They are this project's own choice.
use Rattle.std.specs.Prelude.{ℕ, ◌==◌, Bool, not, ◌||◌, List, [], ◌∷◌, length, codes}
use Rattle.seq_tree.specs.Names.{Name}
use Rattle.seq_tree.specs.Proper.{is_among}

-- the words
abbrev pub design_words : List (List ℕ)
design_words =
    codes "end" ∷ codes "provides" ∷ codes "requires" ∷ codes "data" ∷ codes "operation" ∷ codes "thread" ∷ codes "objects"
    ∷ codes "implements" ∷ codes "begin" ∷ codes "is" ∷ codes "null" ∷ codes "if" ∷ codes "then" ∷ codes "elsif" ∷ codes "else"
    ∷ codes "for" ∷ codes "in" ∷ codes "out" ∷ codes "loop" ∷ codes "exit" ∷ codes "when" ∷ codes "range" ∷ codes "mod"
    ∷ codes "and" ∷ codes "or" ∷ codes "xor" ∷ codes "not" ∷ codes "word" ∷ codes "work" ∷ codes "put" ∷ []

-- whether a word is a name in a design: it has a byte, and is none of them
unfoldable pub is_design_name : Name → Bool
is_design_name name = not (length name == 0 || is_among design_words name)
