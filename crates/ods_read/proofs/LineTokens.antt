-- The tokens of the lines of a design are those that its readers take, one part after another.
use Rattle.std.proofs.Common.{◌≡◌, ℕ, suc, List, [], ◌∷◌, ◌++◌, map, Option, None, Some, codes, flat_map, refl, sym, ap, ◌∙◌, append_assoc}
use Rattle.std.proofs.lemmas.List.{map-append}
use Rattle.std.proofs.lemmas.Grind.{flat_map-append}
use Prim.Native.String.{String}
use Rattle.seq_tree.specs.Spelling.{Line}
use Rattle.seq_tree.specs.Spelling as seq
use Rattle.seq_tree.specs.Statements.{Statements}
use Rattle.seq_tree.specs.declared.tree.Mode.{Mode}
use Rattle.seq_tree.specs.declared.tree.Mode.TheVariants.{In, Out}
use Rattle.seq_tree.specs.Names.{Name}
use Rattle.seq_tree.specs.declared.tree.Param.{Param}
use Rattle.seq_tree.specs.declared.token.Token.{Token}
use Rattle.seq_tree.specs.declared.token.Token.TheVariants.{Word, Number, Sign}
use Rattle.seq_tree.specs.declared.token.Mark.TheVariants.{LeftParen, RightParen, Semicolon, Equal}
use Rattle.ods_tree.specs.Designs.{Provided, Body, Object, Tree, Trees, Node, Empty, With, Design}
use Rattle.ods_tree.specs.Spelling.{Part, Capital, Plain, DesignLine, line, part_token, section, kind_part, attribute_part, constraint_parts}
use Rattle.ods_tree.specs.Spelling.{unit_part, unit_parts, param_parts, params_parts, attribute_line, provided_line, needed_line, datum_line}
use Rattle.ods_tree.specs.Spelling.{link_line, block_parts, body_lines, thread_lines, front_lines, back_lines, tree_lines, trees_lines}
use Rattle.ods_tree.specs.Spelling.{cost_lines, priority_lines, head_lines, design_tokens}
use Rattle.ods_tree.specs.declared.design.Kind.{Kind}
use Rattle.ods_tree.specs.declared.design.Kind.TheVariants.{Passive, Active, Protected, Cyclic, Sporadic}
use Rattle.ods_tree.specs.declared.design.Constraint.{Constraint}
use Rattle.ods_tree.specs.declared.design.Constraint.TheVariants.{Aser, Hser, Pser, Paer}
use Rattle.ods_tree.specs.declared.design.AttrKey.{AttrKey}
use Rattle.ods_tree.specs.declared.design.AttrKey.TheVariants.{Period, Offset, Separation, Deadline, ThreadBudget, ArrivalJitter}
use Rattle.ods_tree.specs.declared.design.TickUnit.{TickUnit}
use Rattle.ods_tree.specs.declared.design.TickUnit.TheVariants.{Us, Ms, S}
use Rattle.ods_tree.specs.declared.design.VersionTwo.{VersionTwo}
use Rattle.ods_tree.specs.declared.design.Attr.{Attr}
use Rattle.seq_read.proofs.Shared.StatementTokens.{block_toks, block-level}
use Rattle.seq_read.specs.Parts.{end_tokens}
use Rattle.seq_read.proofs.Shared.DatumLaws.{datum_tokens}
use Rattle.ods_read.proofs.SpelledLaws.{section_tokens}
use Rattle.ods_read.proofs.PartLaws.{kind_word, key_word, unit_word, unit_tokens, attribute_tokens, param_tokens, more_tokens, params_tokens}
use Rattle.ods_read.proofs.PartLaws.{constraint_tokens, provided_tokens, needed_tokens, link_tokens, body_tokens, thread_tokens}
use Rattle.ods_read.proofs.PartLaws.{costs_tokens}
use Rattle.ods_read.proofs.ObjectLaws.{object_tokens, tree_tokens, trees_tokens, children_tokens}
use Rattle.ods_read.proofs.DesignLaws.{version_tokens, range_tokens, design_text}

-- the tokens of a line, and of lines
abbrev line_tokens : DesignLine → List Token
line_tokens l = map part_token l.parts

abbrev joined : List DesignLine → List Token
joined lines = flat_map (λ l. map part_token l.parts) lines

joined-append : (one two : List DesignLine) → joined (one ++ two) ≡ joined one ++ joined two
joined-append one two = flat_map-append (λ (l : DesignLine). map part_token l.parts) one two

parts-append : (one two : List Part) → map part_token (one ++ two) ≡ map part_token one ++ map part_token two
parts-append one two = map-append part_token one two

-- ITEMS
items_joined : {A : Type 0} (f : A → DesignLine) (spell : A → List Token) → ((x : A) → line_tokens (f x) ≡ spell x) → (xs : List A)
    → joined (map f xs) ≡ flat_map spell xs
items_joined f spell each [] = refl
items_joined f spell each (x ∷ xs) = ap (λ us. us ++ joined (map f xs)) (each x) ∙ ap (λ us. spell x ++ us) (items_joined f spell each xs)

section_joined : {A : Type 0} (level : ℕ) (head : String) (f : A → DesignLine) (spell : A → List Token) → ((x : A) → line_tokens (f x) ≡ spell x)
    → (xs : List A) →
    joined (section level head (map f xs)) ≡ section_tokens (codes head) spell xs
section_joined level head f spell each [] = refl
section_joined level head f spell each (x ∷ xs) = ap (λ us. Word (codes head) ∷ us) (items_joined f spell each (x ∷ xs))

kind_spelled : (k : Kind) → part_token (kind_part k) ≡ Word (kind_word k)
kind_spelled Passive = refl
kind_spelled Active = refl
kind_spelled Protected = refl
kind_spelled Cyclic = refl
kind_spelled Sporadic = refl

key_spelled : (k : AttrKey) → part_token (attribute_part k) ≡ Word (key_word k)
key_spelled Period = refl
key_spelled Offset = refl
key_spelled Separation = refl
key_spelled Deadline = refl
key_spelled ThreadBudget = refl
key_spelled ArrivalJitter = refl

unit_spelled : (u : TickUnit) → part_token (unit_part u) ≡ Word (unit_word u)
unit_spelled Us = refl
unit_spelled Ms = refl
unit_spelled S = refl

units_spelled : (u : Option TickUnit) → map part_token (unit_parts u) ≡ unit_tokens u
units_spelled None = refl
units_spelled (Some u) = ap (λ t. t ∷ []) (unit_spelled u)

attribute_spelled : (a : Attr) → line_tokens (attribute_line 0 a) ≡ attribute_tokens a
attribute_spelled a =
    ap (λ t. t ∷ Sign Equal ∷ Number a.value ∷ map part_token (unit_parts a.unit ++ Plain (Sign Semicolon) ∷ [])) (key_spelled a.key)
    ∙ ap (λ us. Word (key_word a.key) ∷ Sign Equal ∷ Number a.value ∷ us)
    (parts-append (unit_parts a.unit) (Plain (Sign Semicolon) ∷ []) ∙ ap (λ us. us ++ Sign Semicolon ∷ []) (units_spelled a.unit))

param_spelled : (p : Param) → map part_token (param_parts p) ≡ param_tokens p
param_spelled p = of p.mode p refl where
  of : (m : Mode) (q : Param) → q.mode ≡ m → map part_token (param_parts q) ≡ param_tokens q
  of In q e = rw e refl
  of Out q e = rw e refl

more_spelled : (ps : List Param) → map part_token (flat_map (λ q. Plain (Sign Semicolon) ∷ param_parts q) ps) ≡ flat_map more_tokens ps
more_spelled [] = refl
more_spelled (p ∷ ps) =
    ap (λ us. Sign Semicolon ∷ us) (parts-append (param_parts p) (flat_map (λ q. Plain (Sign Semicolon) ∷ param_parts q) ps) ∙ ap
    (λ us. us ++ map part_token (flat_map (λ q. Plain (Sign Semicolon) ∷ param_parts q) ps)) (param_spelled p)
    ∙ ap (λ us. param_tokens p ++ us) (more_spelled ps))

params_spelled : (ps : List Param) → map part_token (params_parts ps) ≡ params_tokens ps
params_spelled [] = refl
params_spelled (p ∷ ps) =
    let rest = flat_map (λ (q : Param). Plain (Sign Semicolon) ∷ param_parts q) ps in
    ap (λ us. Sign LeftParen ∷ us) (parts-append (param_parts p) (rest ++ Plain (Sign RightParen) ∷ []) ∙ ap
    (λ us. us ++ map part_token (rest ++ Plain (Sign RightParen) ∷ [])) (param_spelled p)
    ∙ ap (λ us. param_tokens p ++ us) (parts-append rest (Plain (Sign RightParen) ∷ []) ∙ ap (λ us. us ++ Sign RightParen ∷ []) (more_spelled ps)))

constraint_spelled : (c : Option Constraint) → map part_token (constraint_parts c) ≡ constraint_tokens c
constraint_spelled None = refl
constraint_spelled (Some Aser) = refl
constraint_spelled (Some Hser) = refl
constraint_spelled (Some Pser) = refl
constraint_spelled (Some Paer) = refl

provided_spelled : (p : Provided) → line_tokens (provided_line 0 p) ≡ provided_tokens p
provided_spelled p =
    let end = Plain (Sign Semicolon) ∷ [] in
    ap (λ us. Word p.sig.name ∷ us) (parts-append (params_parts p.sig.params) (constraint_parts p.constraint ++ end) ∙ ap
    (λ us. us ++ map part_token (constraint_parts p.constraint ++ end)) (params_spelled p.sig.params)
    ∙ ap (λ us. params_tokens p.sig.params ++ us) (parts-append (constraint_parts p.constraint) end ∙ ap (λ us. us ++ Sign Semicolon ∷ [])
    (constraint_spelled p.constraint)))

-- BLOCKS, BODIES AND THREADS
plain_spelled : (ts : List Token) → map part_token (map Plain ts) ≡ ts
plain_spelled [] = refl
plain_spelled (t ∷ ts) = ap (λ us. t ∷ us) (plain_spelled ts)

plain_joined : (ls : List Line) → joined (map (λ l. line l.level (map Plain l.tokens)) ls) ≡ seq.joined ls
plain_joined [] = refl
plain_joined (l ∷ ls) = ap (λ us. us ++ joined (map (λ k. line k.level (map Plain k.tokens)) ls)) (plain_spelled l.tokens) ∙ ap (λ us. l.tokens ++ us)
    (plain_joined ls)

block_joined : (n : ℕ) (b : Statements) → joined (block_parts n b) ≡ block_toks b
block_joined n b = plain_joined (seq.block_lines n b) ∙ block-level n b

two_joined : (one two : List DesignLine) (us vs : List Token) → joined one ≡ us → joined two ≡ vs → joined (one ++ two) ≡ us ++ vs
two_joined one two us vs e f = joined-append one two ∙ ap (λ ws. ws ++ joined two) e ∙ ap (λ ws. us ++ ws) f

-- the line at the end of a body or a thread
abbrev end_line : ℕ → Name → List DesignLine
end_line n name = line n (Capital (codes "end") ∷ Plain (Word name) ∷ Plain (Sign Semicolon) ∷ []) ∷ []

body_joined : (n : ℕ) (b : Body) → joined (body_lines n b) ≡ body_tokens b
body_joined n b =
    ap (λ us. Word (codes "operation") ∷ Word b.name ∷ Word (codes "is") ∷ us)
    (two_joined (map (datum_line (suc n)) b.locals) (line n (Capital (codes "begin") ∷ []) ∷ (block_parts (suc n) b.block ++ end_line n b.name))
    (flat_map datum_tokens b.locals) (Word (codes "begin") ∷ (block_toks b.block ++ end_tokens b.name))
    (items_joined (datum_line (suc n)) datum_tokens (λ d. refl) b.locals)
    (ap (λ us. Word (codes "begin") ∷ us) (two_joined (block_parts (suc n) b.block) (end_line n b.name) (block_toks b.block) (end_tokens b.name)
    (block_joined (suc n) b.block) refl)))

bodies_joined : (n : ℕ) (bs : List Body) → joined (flat_map (body_lines n) bs) ≡ flat_map body_tokens bs
bodies_joined n [] = refl
bodies_joined n (b ∷ bs) =
    joined-append (body_lines n b) (flat_map (body_lines n) bs) ∙ ap (λ us. us ++ joined (flat_map (body_lines n) bs)) (body_joined n b) ∙ ap
    (λ us. body_tokens b ++ us) (bodies_joined n bs)

thread_joined : (n : ℕ) (t : Option Statements) → joined (thread_lines n t) ≡ thread_tokens t
thread_joined n None = refl
thread_joined n (Some b) =
    ap (λ us. Word (codes "thread") ∷ us)
    (two_joined (block_parts (suc n) b) (line n (Capital (codes "end") ∷ Capital (codes "thread") ∷ Plain (Sign Semicolon) ∷ []) ∷ []) (block_toks b)
    (end_tokens (codes "thread")) (block_joined (suc n) b) refl)

-- OBJECTS
-- the tokens before the objects inside one, and behind them
abbrev before_tokens : Object → List Token
before_tokens o =
    section_tokens (codes "attributes") attribute_tokens o.attrs ++ (section_tokens (codes "provides") provided_tokens o.provides
    ++ (section_tokens (codes "requires") needed_tokens o.needs
    ++ (section_tokens (codes "data") datum_tokens o.vars ++ (flat_map body_tokens o.bodies ++ thread_tokens o.thread))))

abbrev behind_tokens : Object → List Token
behind_tokens o = section_tokens (codes "implements") link_tokens o.links ++ end_tokens o.name

front_joined : (n : ℕ) (o : Object) → joined (front_lines n o) ≡ Word (codes "object") ∷ Word o.name ∷ Word (codes "is") ∷ Word (kind_word o.kind)
    ∷ before_tokens o
front_joined n o =
    let m = suc (suc n) in
    ap (λ t. Word (codes "object") ∷ Word o.name ∷ Word (codes "is") ∷ t ∷ joined (parts_of n o)) (kind_spelled o.kind)
    ∙ ap (λ us. Word (codes "object") ∷ Word o.name ∷ Word (codes "is") ∷ Word (kind_word o.kind) ∷ us)
    (two_joined (section (suc n) "attributes" (map (attribute_line m) o.attrs)) _ _ _
    (section_joined (suc n) "attributes" (attribute_line m) attribute_tokens attribute_spelled o.attrs)
    (two_joined (section (suc n) "provides" (map (provided_line m) o.provides)) _ _ _
    (section_joined (suc n) "provides" (provided_line m) provided_tokens provided_spelled o.provides)
    (two_joined (section (suc n) "requires" (map (needed_line m) o.needs)) _ _ _
    (section_joined (suc n) "requires" (needed_line m) needed_tokens (λ q. refl) o.needs)
    (two_joined (section (suc n) "data" (map (datum_line m) o.vars)) _ _ _
    (section_joined (suc n) "data" (datum_line m) datum_tokens (λ d. refl) o.vars)
    (two_joined (flat_map (body_lines (suc n)) o.bodies) _ _ _ (bodies_joined (suc n) o.bodies) (thread_joined (suc n) o.thread)))))) where
      parts_of : ℕ → Object → List DesignLine
      parts_of k p =
          section (suc k) "attributes" (map (attribute_line (suc (suc k))) p.attrs)
          ++ (section (suc k) "provides" (map (provided_line (suc (suc k))) p.provides)
          ++ (section (suc k) "requires" (map (needed_line (suc (suc k))) p.needs) ++ (section (suc k) "data" (map (datum_line (suc (suc k))) p.vars)
          ++ (flat_map (body_lines (suc k)) p.bodies ++ thread_lines (suc k) p.thread))))

back_joined : (n : ℕ) (o : Object) → joined (back_lines n o) ≡ behind_tokens o
back_joined n o =
    two_joined (section (suc n) "implements" (map (link_line (suc (suc n))) o.links)) _ _ _
    (section_joined (suc n) "implements" (link_line (suc (suc n))) link_tokens (λ k. refl) o.links) refl

six : (a b c d e f x : List Token) → (a ++ (b ++ (c ++ (d ++ (e ++ f))))) ++ x ≡ a ++ (b ++ (c ++ (d ++ (e ++ (f ++ x)))))
six a b c d e f x =
    append_assoc a (b ++ (c ++ (d ++ (e ++ f)))) x ∙ ap (λ us. a ++ us)
    (append_assoc b (c ++ (d ++ (e ++ f))) x ∙ ap (λ us. b ++ us) (append_assoc c (d ++ (e ++ f)) x
    ∙ ap (λ us. c ++ us) (append_assoc d (e ++ f) x ∙ ap (λ us. d ++ us) (append_assoc e f x))))

object_joined : (o : Object) (inside : List Token) →
    (Word (codes "object") ∷ Word o.name ∷ Word (codes "is") ∷ Word (kind_word o.kind) ∷ before_tokens o) ++ (inside ++ behind_tokens o)
    ≡ object_tokens o inside
object_joined o inside =
    ap (λ us. Word (codes "object") ∷ Word o.name ∷ Word (codes "is") ∷ Word (kind_word o.kind) ∷ us)
    (six (section_tokens (codes "attributes") attribute_tokens o.attrs) (section_tokens (codes "provides") provided_tokens o.provides)
    (section_tokens (codes "requires") needed_tokens o.needs)
    (section_tokens (codes "data") datum_tokens o.vars) (flat_map body_tokens o.bodies) (thread_tokens o.thread) (inside ++ behind_tokens o))

mutual
  tree_joined : (n : ℕ) (t : Tree) → joined (tree_lines n t) ≡ tree_tokens t
  tree_joined n (Node o kids) =
      two_joined (front_lines n o) (section (suc n) "objects" (trees_lines (suc (suc n)) kids) ++ back_lines n o) _ _ (front_joined n o)
      (two_joined (section (suc n) "objects" (trees_lines (suc (suc n)) kids)) (back_lines n o) _ _ (children_joined n kids) (back_joined n o))
      ∙ object_joined o (children_tokens kids)

  trees_joined : (n : ℕ) (ts : Trees) → joined (trees_lines n ts) ≡ trees_tokens ts
  trees_joined n Empty = refl
  trees_joined n (With t ts) = two_joined (tree_lines n t) (trees_lines n ts) _ _ (tree_joined n t) (trees_joined n ts)

  children_joined : (n : ℕ) (ts : Trees) → joined (section (suc n) "objects" (trees_lines (suc (suc n)) ts)) ≡ children_tokens ts
  children_joined n Empty = refl
  children_joined n (With (Node o kids) ts) =
      ap (λ us. Word (codes "objects") ∷ us)
      (two_joined (tree_lines (suc (suc n)) (Node o kids)) (trees_lines (suc (suc n)) ts) _ _ (tree_joined (suc (suc n)) (Node o kids))
      (trees_joined (suc (suc n)) ts))

-- DESIGNS
range_joined : (r : Option (ℕ × ℕ)) → joined (priority_lines r) ≡ range_tokens r
range_joined None = refl
range_joined (Some r) = refl

head_joined : (x : Design) → joined (head_lines x.name x.version) ≡ Word (codes "design") ∷ Word x.name ∷ version_tokens x.version
head_joined x = of x.name x.version where
  of : (n : Name) (v : Option VersionTwo) → joined (head_lines n v) ≡ Word (codes "design") ∷ Word n ∷ version_tokens v
  of n None = refl
  of n (Some v) =
      ap (λ t. Word (codes "design") ∷ Word n ∷ Word (codes "version") ∷ Number 2 ∷ Word (codes "is") ∷ Word (codes "tick") ∷ Sign Equal
      ∷ Number v.tick ∷ t ∷ Sign Semicolon ∷ joined (priority_lines v.priorities)) (unit_spelled v.unit)
      ∙ ap (λ us. Word (codes "design") ∷ Word n ∷ Word (codes "version") ∷ Number 2 ∷ Word (codes "is") ∷ Word (codes "tick") ∷ Sign Equal
      ∷ Number v.tick ∷ Word (unit_word v.unit) ∷ Sign Semicolon ∷ us) (range_joined v.priorities)

pub design_joined : (x : Design) → design_text x ≡ design_tokens x
design_joined x =
    let end = end_line 0 x.name in
    sym (two_joined (head_lines x.name x.version) (cost_lines x.costs ++ (tree_lines 1 x.root ++ end)) _ _ (head_joined x)
    (two_joined (cost_lines x.costs) (tree_lines 1 x.root ++ end) (costs_tokens x.costs) (tree_tokens x.root ++ (end_tokens x.name ++ [])) refl
    (two_joined (tree_lines 1 x.root) end (tree_tokens x.root) (end_tokens x.name ++ []) (tree_joined 1 x.root) refl)))
