-- The texts of parts of a line, and lines of items behind the word of their section.
-- The layout is this project's own.
use Rattle.std.specs.Prelude.{ℕ, List, [], ◌∷◌, ◌++◌, map, codes, flat_map}
use Rattle.seq_tree.specs.Names.{Name}
use Rattle.seq_tree.specs.declared.token.Token.TheVariants.{Word}
use Rattle.ods_tree.specs.Layout.{part_text, design_line_text}
use Rattle.ods_tree.specs.Spelling.{Part, Capital, Plain, DesignLine, line, kind_part}
use Rattle.ods_tree.specs.declared.design.Kind.{Kind}

-- lines
abbrev pub lines_text : List DesignLine → List ℕ
lines_text lines = flat_map design_line_text lines

-- parts, each behind a space
abbrev pub behind : List Part → List ℕ
behind parts = flat_map (λ p. codes " " ++ part_text p) parts

-- items, each on a line of its own
abbrev pub item_lines : {A : Type 0} → ℕ → (A → List Part) → List A → List DesignLine
item_lines level parts items = map (λ x. line level (parts x)) items

-- the word of a section, as it is printed, or nothing where the section has no items
abbrev pub heading : {A : Type 0} → ℕ → List ℕ → List A → List ℕ
heading level word [] = []
heading level word (x ∷ xs) = design_line_text (line level (Plain (Word word) ∷ []))

-- the line that an object begins with
abbrev pub object_line : ℕ → Name → Kind → DesignLine
object_line level name kind = line level (Capital (codes "object") ∷ Plain (Word name) ∷ Capital (codes "is") ∷ kind_part kind ∷ [])
