-- The parts of a line, one after another, with the spaces between them.
use Rattle.std.proofs.Common.{◌≡◌, ℕ, Bool, true, false, ◌||◌, cond, Option, Some, None, List, [], ◌∷◌, ◌++◌, map, flat_map}
use Rattle.std.proofs.Common.{codes, decimal, refl, sym, ap, ◌∙◌, append_assoc, append-nil}
use Rattle.seq_tree.specs.Layout.{clings_back, clings_on, gap}
use Rattle.seq_tree.specs.Names.{Name}
use Rattle.seq_tree.specs.declared.token.Token.TheVariants.{Word, Number, Sign}
use Rattle.seq_tree.specs.declared.token.Mark.TheVariants.{RightParen, Semicolon, Colon, Equal}
use Rattle.seq_tree.specs.declared.tree.Mode.{Mode}
use Rattle.seq_tree.specs.declared.tree.Mode.TheVariants.{In, Out}
use Rattle.seq_tree.specs.declared.tree.Param.{Param}
use Rattle.seq_tree.specs.declared.tree.OpName.{OpName}
use Rattle.seq_tree.specs.declared.tree.Datum.{Datum}
use Rattle.ods_tree.specs.Layout.{capital, part_text, parts_text, design_line_text}
use Rattle.ods_tree.specs.Spelling.{Part, Capital, Plain, part_token, line, attribute_line, attribute_part, constraint_parts, datum_line}
use Rattle.ods_tree.specs.Spelling.{kind_part, link_line, mode_part, needed_line, param_parts, params_parts, unit_parts, tick_line}
use Rattle.ods_tree.specs.declared.design.Kind.{Kind}
use Rattle.ods_tree.specs.declared.design.Kind.TheVariants.{Passive, Active, Protected, Cyclic, Sporadic}
use Rattle.ods_tree.specs.declared.design.Constraint.{Constraint}
use Rattle.ods_tree.specs.declared.design.Constraint.TheVariants.{Aser, Hser, Pser, Paer}
use Rattle.ods_tree.specs.declared.design.AttrKey.{AttrKey}
use Rattle.ods_tree.specs.declared.design.AttrKey.TheVariants.{Period, Offset, Separation, Deadline, ThreadBudget, ArrivalJitter}
use Rattle.ods_tree.specs.declared.design.TickUnit.{TickUnit}
use Rattle.ods_tree.specs.declared.design.TickUnit.TheVariants.{Us, Ms, S}
use Rattle.ods_tree.specs.declared.design.Attr.{Attr}
use Rattle.ods_tree.specs.declared.design.Link.{Link}
use Rattle.seq_print.specs.Printing.{mode_text, param_text, params_more, params_text}
use Rattle.seq_print.proofs.Shared.Depths.{indent}
use Rattle.ods_print.specs.Parts.{behind}

-- parts behind one that the next stands at directly, or one that it doesn't
abbrev pub spaced : Bool → List Part → List ℕ
spaced clings [] = []
spaced clings (p ∷ ps) = cond (clings || clings_back (part_token p)) [] (codes " ") ++ (part_text p ++ spaced (clings_on (part_token p)) ps)

-- a line
pub parts-spaced : (ps : List Part) → parts_text ps ≡ spaced true ps
parts-spaced [] = refl
parts-spaced (p ∷ []) = sym (append-nil (part_text p))
parts-spaced (p ∷ q ∷ ps) = ap (λ x. part_text p ++ (gap (part_token p) (part_token q) ++ x)) (parts-spaced (q ∷ ps))

-- a semicolon
abbrev end : List Part
end = Plain (Sign Semicolon) ∷ []

-- a unit, and the end of the line
unit-spaced : (u : Option TickUnit) → spaced false (unit_parts u ++ end) ≡ behind (unit_parts u) ++ codes ";"
unit-spaced None = refl
unit-spaced (Some Us) = refl
unit-spaced (Some Ms) = refl
unit-spaced (Some S) = refl

-- a constraint, and the end of the line
constraint-spaced : (o : Option Constraint) → spaced false (constraint_parts o ++ end) ≡ behind (constraint_parts o) ++ codes ";"
constraint-spaced None = refl
constraint-spaced (Some Aser) = refl
constraint-spaced (Some Hser) = refl
constraint-spaced (Some Pser) = refl
constraint-spaced (Some Paer) = refl

-- a parameter, and what is behind it
param-spaced : (n : Name) (m : Mode) (clings : Bool) (rest : List Part)
    → spaced true ((Plain (Word n) ∷ Plain (Sign Colon) ∷ mode_part m ∷ Plain (Word (codes "word")) ∷ []) ++ rest)
    ≡ (n ++ mode_text m) ++ spaced false rest
param-spaced n In clings rest = sym (append_assoc n (codes " : in word") (spaced false rest))
param-spaced n Out clings rest = sym (append_assoc n (codes " : out word") (spaced false rest))

more-spaced : (ps : List Param) (rest : List Part) → spaced false (flat_map (λ q. Plain (Sign Semicolon) ∷ param_parts q) ps ++ rest)
    ≡ params_more ps ++ spaced false rest
more-spaced [] rest = refl
more-spaced (p ∷ ps) rest =
    ap (λ x. codes "; " ++ x) (param-spaced p.name p.mode true (flat_map (λ q. Plain (Sign Semicolon) ∷ param_parts q) ps ++ rest))
    ∙ ap (λ x. codes "; " ++ (param_text p ++ x)) (more-spaced ps rest)
    ∙ ap (λ x. codes "; " ++ x) (sym (append_assoc (param_text p) (params_more ps) (spaced false rest)))

-- parameters, and what is behind them
pub params-spaced : (ps : List Param) (rest : List Part) → spaced false (params_parts ps ++ rest) ≡ params_text ps ++ spaced false rest
params-spaced [] rest = refl
params-spaced (p ∷ ps) rest =
    let more = flat_map (λ q. Plain (Sign Semicolon) ∷ param_parts q) ps in
    ap (λ x. codes " (" ++ x) (param-spaced p.name p.mode true ((more ++ Plain (Sign RightParen) ∷ []) ++ rest))
    ∙ ap (λ ts. codes " (" ++ (param_text p ++ spaced false ts)) (append_assoc more (Plain (Sign RightParen) ∷ []) rest)
    ∙ ap (λ x. codes " (" ++ (param_text p ++ x)) (more-spaced ps (Plain (Sign RightParen) ∷ rest) ∙ sym
    (append_assoc (params_more ps) (codes ")") (spaced false rest)))
    ∙ ap (λ x. codes " (" ++ x) (sym (append_assoc (param_text p) (params_more ps ++ codes ")") (spaced false rest)))

-- the line of a provided operation
pub provided-text : (level : ℕ) (name : Name) (ps : List Param) (o : Option Constraint)
    → indent level ++ (name ++ (params_text ps ++ (behind (constraint_parts o) ++ codes ";\n")))
    ≡ design_line_text (line level (Plain (Word name) ∷ (params_parts ps ++ (constraint_parts o ++ end))))
provided-text level name ps o =
    let tail = behind (constraint_parts o) in
    let text : parts_text (Plain (Word name) ∷ (params_parts ps ++ (constraint_parts o ++ end))) ≡ name ++ (params_text ps ++ (tail ++ codes ";")) =
    parts-spaced (Plain (Word name) ∷ (params_parts ps ++ (constraint_parts o ++ end)))
    ∙ ap (λ x. name ++ x) (params-spaced ps (constraint_parts o ++ end) ∙ ap (λ x. params_text ps ++ x) (constraint-spaced o)) in
    ap (λ x. indent level ++ x)
    (ap (λ x. name ++ (params_text ps ++ x)) (sym (append_assoc tail (codes ";") (codes "\n")))
    ∙ ap (λ x. name ++ x) (sym (append_assoc (params_text ps) (tail ++ codes ";") (codes "\n")))
    ∙ sym (append_assoc name (params_text ps ++ (tail ++ codes ";")) (codes "\n"))
    ∙ ap (λ x. x ++ codes "\n") (sym text))

-- what an attribute states is a word of the skeleton
record IsCapital (p : Part) : Type 0 where
  word : List ℕ
  same : p ≡ Capital word

key-capital : (k : AttrKey) → IsCapital (attribute_part k)
key-capital Period = record { word = codes "period"; same = refl }
key-capital Offset = record { word = codes "offset"; same = refl }
key-capital Separation = record { word = codes "separation"; same = refl }
key-capital Deadline = record { word = codes "deadline"; same = refl }
key-capital ThreadBudget = record { word = codes "thread_budget"; same = refl }
key-capital ArrivalJitter = record { word = codes "arrival_jitter"; same = refl }

kind-capital : (k : Kind) → IsCapital (kind_part k)
kind-capital Passive = record { word = codes "passive"; same = refl }
kind-capital Active = record { word = codes "active"; same = refl }
kind-capital Protected = record { word = codes "protected"; same = refl }
kind-capital Cyclic = record { word = codes "cyclic"; same = refl }
kind-capital Sporadic = record { word = codes "sporadic"; same = refl }

attribute-by : (level n : ℕ) (p : Part) (u : Option TickUnit) → IsCapital p
    → indent level ++ (part_text p ++ ((codes " = " ++ (decimal n ++ [])) ++ (behind (unit_parts u) ++ codes ";\n")))
    ≡ design_line_text (line level (p ∷ Plain (Sign Equal) ∷ Plain (Number n) ∷ (unit_parts u ++ end)))
attribute-by level n p u is =
    let key = map capital is.word in
    let tail = behind (unit_parts u) in
    let text : parts_text (Capital is.word ∷ Plain (Sign Equal) ∷ Plain (Number n) ∷ (unit_parts u ++ end))
    ≡ key ++ (codes " = " ++ (decimal n ++ (tail ++ codes ";"))) =
    parts-spaced (Capital is.word ∷ Plain (Sign Equal) ∷ Plain (Number n) ∷ (unit_parts u ++ end)) ∙ ap
    (λ x. key ++ (codes " = " ++ (decimal n ++ x))) (unit-spaced u) in
    let line' : key ++ ((codes " = " ++ (decimal n ++ [])) ++ (tail ++ codes ";\n"))
    ≡ (key ++ (codes " = " ++ (decimal n ++ (tail ++ codes ";")))) ++ codes "\n" =
    ap (λ x. key ++ (codes " = " ++ (x ++ (tail ++ codes ";\n")))) (append-nil (decimal n))
    ∙ ap (λ x. key ++ (codes " = " ++ (decimal n ++ x))) (sym (append_assoc tail (codes ";") (codes "\n")))
    ∙ ap (λ x. key ++ (codes " = " ++ x)) (sym (append_assoc (decimal n) (tail ++ codes ";") (codes "\n")))
    ∙ sym (append_assoc key (codes " = " ++ (decimal n ++ (tail ++ codes ";"))) (codes "\n")) in
    rw is.same (ap (λ x. indent level ++ x) (line' ∙ ap (λ x. x ++ codes "\n") (sym text)))

-- the line of an attribute
pub attribute-text : (level : ℕ) (a : Attr)
    → indent level ++ (part_text (attribute_part a.key) ++ ((codes " = " ++ (decimal a.value ++ [])) ++ (behind (unit_parts a.unit) ++ codes ";\n")))
    ≡ design_line_text (attribute_line level a)
attribute-text level a = attribute-by level a.value (attribute_part a.key) a.unit (key-capital a.key)

-- the line of the time of a tick
pub tick-text : (n : ℕ) (u : TickUnit) → (codes "   TICK = " ++ (decimal n ++ [])) ++ (behind (unit_parts (Some u)) ++ codes ";\n")
    ≡ design_line_text (tick_line n u)
tick-text n u = attribute-by 1 n (Capital (codes "tick")) (Some u) (record { word = codes "tick"; same = refl })

-- the line that an object begins with
object-at : (level : ℕ) (name word : List ℕ)
    → (indent level ++ (codes "OBJECT " ++ (name ++ codes " IS "))) ++ (map capital word ++ codes "\n")
    ≡ design_line_text (line level (Capital (codes "object") ∷ Plain (Word name) ∷ Capital (codes "is") ∷ Capital word ∷ []))
object-at level name word =
    append_assoc (indent level) (codes "OBJECT " ++ (name ++ codes " IS ")) (map capital word ++ codes "\n")
    ∙ ap (λ x. indent level ++ (codes "OBJECT " ++ x))
    (append_assoc name (codes " IS ") (map capital word ++ codes "\n") ∙ sym (append_assoc name (codes " IS " ++ map capital word) (codes "\n")))

object-by : (level : ℕ) (name : Name) (p : Part) → IsCapital p
    → (indent level ++ (codes "OBJECT " ++ (name ++ codes " IS "))) ++ (part_text p ++ codes "\n")
    ≡ design_line_text (line level (Capital (codes "object") ∷ Plain (Word name) ∷ Capital (codes "is") ∷ p ∷ []))
object-by level name p is = rw is.same (object-at level name is.word)

pub object-text : (level : ℕ) (name : Name) (k : Kind)
    → (indent level ++ (codes "OBJECT " ++ (name ++ codes " IS "))) ++ (part_text (kind_part k) ++ codes "\n")
    ≡ design_line_text (line level (Capital (codes "object") ∷ Plain (Word name) ∷ Capital (codes "is") ∷ kind_part k ∷ []))
object-text level name k = object-by level name (kind_part k) (kind-capital k)

pub needed-text : (level : ℕ) (o : OpName) → indent level ++ (([] ++ (o.object ++ codes ".")) ++ ([] ++ (o.op ++ codes ";\n")))
    ≡ design_line_text (needed_line level o)
needed-text level o = simp append_assoc

pub datum-text : (level : ℕ) (d : Datum) → indent level ++ (([] ++ (d.name ++ codes " : word := ")) ++ ([] ++ (decimal d.value ++ codes ";\n")))
    ≡ design_line_text (datum_line level d)
datum-text level d = simp append_assoc

pub link-text : (level : ℕ) (l : Link)
    → indent level ++ (([] ++ (l.op ++ codes " BY ")) ++ (([] ++ (l.to.object ++ codes ".")) ++ ([] ++ (l.to.op ++ codes ";\n"))))
    ≡ design_line_text (link_line level l)
link-text level l = simp append_assoc

-- the line of a cost
pub cost-text : (n : ℕ) (word : List ℕ) → codes "      " ++ (map capital word ++ (codes " = " ++ (decimal n ++ codes ";\n")))
    ≡ design_line_text (line 2 (Capital word ∷ Plain (Sign Equal) ∷ Plain (Number n) ∷ Plain (Sign Semicolon) ∷ []))
cost-text n word = simp append_assoc
