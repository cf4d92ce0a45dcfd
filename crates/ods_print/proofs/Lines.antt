-- The lines of a design, part by part; from ten levels on, deeper lines begin with as many spaces.
use Rattle.std.proofs.Common.{◌≡◌, ◌<◌, length, drop, get_or, add-one, drop-cons, option_map, ℕ, suc, ◌+◌, min, Option, Some, None, List, []}
use Rattle.std.proofs.Common.{◌∷◌, ◌++◌, map, flat_map, codes, decimal, refl, sym, ap, ◌∙◌, append_assoc, append-nil, arith}
use Prim.Native.String.{String}
use Rattle.std.proofs.lemmas.Grind.{flat_map-append}
use Rattle.seq_tree.specs.Layout.{gap, layout, token_text, tokens_text}
use Rattle.seq_tree.specs.Spelling.{Line, block_lines}
use Rattle.seq_tree.specs.Statements.{Statements}
use Rattle.seq_tree.specs.declared.token.Token.{Token}
use Rattle.seq_tree.specs.declared.token.Token.TheVariants.{Word, Sign}
use Rattle.seq_tree.specs.declared.token.Mark.TheVariants.{Semicolon}
use Rattle.seq_tree.specs.declared.tree.Costs.{Costs}
use Rattle.seq_print.proofs.Shared.Depths.{both, same-block, same-deeper, same-indent, indent}
use Rattle.ods_tree.specs.Designs.{Body, Design, Object, Tree, Trees, Node, Empty, With}
use Rattle.ods_tree.specs.Layout.{capital, parts_text, design_line_text, design_text}
use Rattle.ods_tree.specs.Spelling.{Part, Capital, Plain, DesignLine, line, attribute_line, back_lines, block_parts, body_lines, cost_lines}
use Rattle.ods_tree.specs.Spelling.{datum_line, front_lines, head_lines, link_line, needed_line, provided_line, section, thread_lines}
use Rattle.ods_tree.specs.Spelling.{tree_lines, trees_lines}
use Rattle.ods_tree.specs.Trees.{body_of, node_layer, provided_of, tree_of, trees_of}
use Rattle.ods_tree.specs.Walk.{own_of}
use Rattle.seq_tree.specs.Trees.{block_of}
use Rattle.ods_tree.specs.declared.design.Node as nodes
use Rattle.ods_tree.specs.declared.design.Node.{out-Node, fold_out-Node}
use Rattle.ods_tree.specs.declared.design.Provided as provided
use Rattle.ods_print.specs.Parts.{heading, item_lines, lines_text, object_line}
use Rattle.ods_print.proofs.Parting.{cost-text}

pub lines-append : (xs ys : List DesignLine) → lines_text (xs ++ ys) ≡ lines_text xs ++ lines_text ys
lines-append xs ys = flat_map-append design_line_text xs ys

-- tokens as parts
plain-text : (ts : List Token) → parts_text (map Plain ts) ≡ tokens_text ts
plain-text [] = refl
plain-text (t ∷ []) = refl
plain-text (t ∷ u ∷ ts) = ap (λ x. token_text t ++ (gap t u ++ x)) (plain-text (u ∷ ts))

plain-lines : (ls : List Line) → lines_text (map (λ l. line l.level (map Plain l.tokens)) ls) ≡ layout ls
plain-lines [] = refl
plain-lines (l ∷ ls) =
    ap (λ x. (indent l.level ++ (x ++ codes "\n")) ++ lines_text (map (λ k. line k.level (map Plain k.tokens)) ls)) (plain-text l.tokens)
    ∙ ap (λ x. (indent l.level ++ (tokens_text l.tokens ++ codes "\n")) ++ x) (plain-lines ls)

block-text : (level : ℕ) (b : Statements) → lines_text (block_parts level b) ≡ layout (block_lines level b)
block-text level b = plain-lines (block_lines level b)

capped : (level inner : ℕ) → inner ≡ min level 10 + 1 → min inner 10 ≡ min (suc level) 10
capped level inner e = grind arith

-- a block one level deeper
block-deeper : (level inner : ℕ) (b : Statements) → inner ≡ min level 10 + 1 → layout (block_lines inner b) ≡ lines_text (block_parts (suc level) b)
block-deeper level inner b e = same-block b inner (suc level) (capped level inner e) ∙ sym (block-text (suc level) b)

same-line : (n m : ℕ) → min n 10 ≡ min m 10 → (ps : List Part) → design_line_text (line n ps) ≡ design_line_text (line m ps)
same-line n m e ps = ap (λ x. x ++ (parts_text ps ++ codes "\n")) (same-indent n m e)

same-items : {A : Type 0} (p : A → List Part) (n m : ℕ) → min n 10 ≡ min m 10 → (xs : List A)
    → lines_text (item_lines n p xs) ≡ lines_text (item_lines m p xs)
same-items p n m e [] = refl
same-items p n m e (x ∷ xs) = both (design_line_text (line n (p x))) (design_line_text (line m (p x))) (lines_text (item_lines n p xs))
    (lines_text (item_lines m p xs)) (same-line n m e (p x)) (same-items p n m e xs)

same-heading : {A : Type 0} (word : List ℕ) (n m : ℕ) → min n 10 ≡ min m 10 → (xs : List A) → heading n word xs ≡ heading m word xs
same-heading word n m e [] = refl
same-heading word n m e (x ∷ xs) = same-line n m e (Plain (Word word) ∷ [])

heading-section : {A : Type 0} (word : String) (p : A → List Part) (n k : ℕ) (xs : List A)
    → heading n (map capital (codes word)) xs ++ lines_text (item_lines k p xs) ≡ lines_text (section n word (item_lines k p xs))
heading-section word p n k [] = refl
heading-section word p n k (x ∷ xs) = refl

-- a section one level deeper
pub section-text : {A : Type 0} (word : String) (p : A → List Part) (level inner : ℕ) (xs : List A) → inner ≡ min level 10 + 1
    → heading inner (map capital (codes word)) xs ++ lines_text (item_lines (min inner 10 + 1) p xs)
    ≡ lines_text (section (suc level) word (item_lines (suc (suc level)) p xs))
section-text word p level inner xs e =
    let once = capped level inner e in
    let twice = capped inner (min inner 10 + 1) refl ∙ same-deeper inner (suc level) once in
    both (heading inner (map capital (codes word)) xs) (heading (suc level) (map capital (codes word)) xs)
    (lines_text (item_lines (min inner 10 + 1) p xs)) (lines_text (item_lines (suc (suc level)) p xs))
    (same-heading (map capital (codes word)) inner (suc level) once xs) (same-items p (min inner 10 + 1) (suc (suc level)) twice xs)
    ∙ heading-section word p (suc level) (suc (suc level)) xs

-- the body of an operation
pub body-text : (level inner : ℕ) (b : Body) → inner ≡ min level 10 + 1
    → (indent level ++ (codes "OPERATION " ++ (b.name ++ codes " IS\n")))
    ++ (lines_text (item_lines inner (λ d. (datum_line 0 d).parts) b.locals)
    ++ ((indent level ++ (codes "BEGIN" ++ codes "\n")) ++ (layout (block_lines inner b.block)
    ++ (indent level ++ (codes "END " ++ (b.name ++ codes ";\n"))))))
    ≡ lines_text (body_lines level b)
body-text level inner b e =
    let head = indent level ++ (codes "OPERATION " ++ (b.name ++ codes " IS\n")) in
    let begin = indent level ++ (codes "BEGIN" ++ codes "\n") in
    let end = indent level ++ (codes "END " ++ (b.name ++ codes ";\n")) in
    let locals = map (datum_line (suc level)) b.locals in
    let blocks = block_parts (suc level) b.block in
    let last = line level (Capital (codes "end") ∷ Plain (Word b.name) ∷ Plain (Sign Semicolon) ∷ []) in
    let end-text : end ≡ design_line_text last ++ [] =
    ap (λ x. indent level ++ (codes "END " ++ x)) (sym (append_assoc b.name (codes ";") (codes "\n"))) ∙ sym (append-nil (design_line_text last)) in
    let head-text : head ≡ design_line_text (line level (Capital (codes "operation") ∷ Plain (Word b.name) ∷ Capital (codes "is") ∷ [])) =
    ap (λ x. indent level ++ (codes "OPERATION " ++ x)) (sym (append_assoc b.name (codes " IS") (codes "\n"))) in
    ap (λ x. x ++ (lines_text (item_lines inner (λ d. (datum_line 0 d).parts) b.locals)
    ++ (begin ++ (layout (block_lines inner b.block) ++ end)))) head-text
    ∙ ap (λ x. design_line_text (line level (Capital (codes "operation") ∷ Plain (Word b.name) ∷ Capital (codes "is") ∷ [])) ++ x)
    (ap (λ x. x ++ (begin ++ (layout (block_lines inner b.block) ++ end)))
    (same-items (λ d. (datum_line 0 d).parts) inner (suc level) (capped level inner e) b.locals)
    ∙ ap (λ x. lines_text locals ++ (begin ++ x)) (both (layout (block_lines inner b.block)) (lines_text blocks) end (design_line_text last ++ [])
    (block-deeper level inner b.block e) end-text ∙ sym (lines-append blocks (last ∷ [])))
    ∙ sym (lines-append locals (line level (Capital (codes "begin") ∷ []) ∷ (blocks ++ last ∷ []))))

-- the thread
pub thread-text : (level inner : ℕ) (b : Statements) → inner ≡ min level 10 + 1
    → (indent level ++ (codes "THREAD" ++ codes "\n")) ++ (layout (block_lines inner b) ++ (indent level ++ (codes "END THREAD;" ++ codes "\n")))
    ≡ lines_text (thread_lines level (Some b))
thread-text level inner b e =
    let last = line level (Capital (codes "end") ∷ Capital (codes "thread") ∷ Plain (Sign Semicolon) ∷ []) in
    ap (λ x. (indent level ++ (codes "THREAD" ++ codes "\n")) ++ x)
    (both (layout (block_lines inner b)) (lines_text (block_parts (suc level) b)) (design_line_text last) (design_line_text last ++ [])
    (block-deeper level inner b e) (sym (append-nil (design_line_text last)))
    ∙ sym (lines-append (block_parts (suc level) b) (last ∷ [])))

same-body : (n m : ℕ) → min n 10 ≡ min m 10 → (b : Body) → lines_text (body_lines n b) ≡ lines_text (body_lines m b)
same-body n m e b =
    let inner = min n 10 + 1 in
    let locals = lines_text (item_lines inner (λ d. (datum_line 0 d).parts) b.locals) in
    sym (body-text n inner b refl)
    ∙ ap (λ x. (x ++ (codes "OPERATION " ++ (b.name ++ codes " IS\n")))
    ++ (locals ++ ((x ++ (codes "BEGIN" ++ codes "\n")) ++ (layout (block_lines inner b.block) ++ (x ++ (codes "END " ++ (b.name ++ codes ";\n")))))))
    (same-indent n m e)
    ∙ body-text m inner b (ap (λ k. k + 1) e)

same-bodies : (n m : ℕ) → min n 10 ≡ min m 10 → (bs : List Body) → lines_text (flat_map (body_lines n) bs) ≡ lines_text (flat_map (body_lines m) bs)
same-bodies n m e [] = refl
same-bodies n m e (b ∷ bs) =
    lines-append (body_lines n b) (flat_map (body_lines n) bs)
    ∙ both (lines_text (body_lines n b)) (lines_text (body_lines m b)) (lines_text (flat_map (body_lines n) bs))
    (lines_text (flat_map (body_lines m) bs)) (same-body n m e b) (same-bodies n m e bs)
    ∙ sym (lines-append (body_lines m b) (flat_map (body_lines m) bs))

same-thread : (n m : ℕ) → min n 10 ≡ min m 10 → (o : Option Statements) → lines_text (thread_lines n o) ≡ lines_text (thread_lines m o)
same-thread n m e None = refl
same-thread n m e (Some b) =
    let inner = min n 10 + 1 in
    sym (thread-text n inner b refl)
    ∙ ap (λ x. (x ++ (codes "THREAD" ++ codes "\n")) ++ (layout (block_lines inner b) ++ (x ++ (codes "END THREAD;" ++ codes "\n"))))
    (same-indent n m e)
    ∙ thread-text m inner b (ap (λ k. k + 1) e)

-- what a section adds, at the level of its word
abbrev pub section_bytes : {A : Type 0} → String → (A → List Part) → ℕ → List A → List ℕ
section_bytes word p inner xs = heading inner (map capital (codes word)) xs ++ lines_text (item_lines (min inner 10 + 1) p xs)

-- the lines of an object before the objects inside it
abbrev front_bytes : ℕ → Object → List ℕ
front_bytes inner o =
    section_bytes "attributes" (λ a. (attribute_line 0 a).parts) inner o.attrs
    ++ (section_bytes "provides" (λ q. (provided_line 0 q).parts) inner o.provides
    ++ (section_bytes "requires" (λ q. (needed_line 0 q).parts) inner o.needs
    ++ (section_bytes "data" (λ d. (datum_line 0 d).parts) inner o.vars
    ++ (lines_text (flat_map (body_lines inner) o.bodies) ++ lines_text (thread_lines inner o.thread)))))

joined-two : (a b : List DesignLine) (x y : List ℕ) → x ≡ lines_text a → y ≡ lines_text b → x ++ y ≡ lines_text (a ++ b)
joined-two a b x y e f = both x (lines_text a) y (lines_text b) e f ∙ sym (lines-append a b)

pub front-text : (level inner : ℕ) (o : Object) → inner ≡ min level 10 + 1 → design_line_text (object_line level o.name o.kind) ++ front_bytes inner o
    ≡ lines_text (front_lines level o)
front-text level inner o e =
    let once = capped level inner e in
    let s1 = section (suc level) "attributes" (map (attribute_line (suc (suc level))) o.attrs) in
    let s2 = section (suc level) "provides" (map (provided_line (suc (suc level))) o.provides) in
    let s3 = section (suc level) "requires" (map (needed_line (suc (suc level))) o.needs) in
    let s4 = section (suc level) "data" (map (datum_line (suc (suc level))) o.vars) in
    let bs = flat_map (body_lines (suc level)) o.bodies in
    let th = thread_lines (suc level) o.thread in
    ap (λ x. design_line_text (object_line level o.name o.kind) ++ x)
    (joined-two s1 (s2 ++ (s3 ++ (s4 ++ (bs ++ th)))) _ _ (section-text "attributes" (λ a. (attribute_line 0 a).parts) level inner o.attrs e)
    (joined-two s2 (s3 ++ (s4 ++ (bs ++ th))) _ _ (section-text "provides" (λ q. (provided_line 0 q).parts) level inner o.provides e)
    (joined-two s3 (s4 ++ (bs ++ th)) _ _ (section-text "requires" (λ q. (needed_line 0 q).parts) level inner o.needs e)
    (joined-two s4 (bs ++ th) _ _ (section-text "data" (λ d. (datum_line 0 d).parts) level inner o.vars e)
    (joined-two bs th _ _ (same-bodies inner (suc level) once o.bodies) (same-thread inner (suc level) once o.thread))))))

-- the lines of an object behind the objects inside it
pub back-text : (level inner : ℕ) (o : Object) → inner ≡ min level 10 + 1
    → section_bytes "implements" (λ l. (link_line 0 l).parts) inner o.links ++ (indent level ++ (codes "END " ++ (o.name ++ codes ";\n")))
    ≡ lines_text (back_lines level o)
back-text level inner o e =
    let last = line level (Capital (codes "end") ∷ Plain (Word o.name) ∷ Plain (Sign Semicolon) ∷ []) in
    joined-two (section (suc level) "implements" (map (link_line (suc (suc level))) o.links)) (last ∷ []) _ _
    (section-text "implements" (λ l. (link_line 0 l).parts) level inner o.links e)
    (ap (λ x. indent level ++ (codes "END " ++ x)) (sym (append_assoc o.name (codes ";") (codes "\n"))) ∙ sym (append-nil (design_line_text last)))

same-front : (n m : ℕ) → min n 10 ≡ min m 10 → (o : Object) → lines_text (front_lines n o) ≡ lines_text (front_lines m o)
same-front n m e o =
    sym (front-text n (min n 10 + 1) o refl)
    ∙ ap (λ x. x ++ front_bytes (min n 10 + 1) o) (same-line n m e (object_line 0 o.name o.kind).parts)
    ∙ front-text m (min n 10 + 1) o (ap (λ k. k + 1) e)

same-back : (n m : ℕ) → min n 10 ≡ min m 10 → (o : Object) → lines_text (back_lines n o) ≡ lines_text (back_lines m o)
same-back n m e o =
    sym (back-text n (min n 10 + 1) o refl)
    ∙ ap (λ x. section_bytes "implements" (λ l. (link_line 0 l).parts) (min n 10 + 1) o.links ++ (x ++ (codes "END " ++ (o.name ++ codes ";\n"))))
    (same-indent n m e)
    ∙ back-text m (min n 10 + 1) o (ap (λ k. k + 1) e)

-- the section of the objects inside an object begins with its word
objects-section : (n k : ℕ) (t : Tree) (ts : Trees) → lines_text (section n "objects" (trees_lines k (With t ts)))
    ≡ design_line_text (line n (Capital (codes "objects") ∷ [])) ++ lines_text (trees_lines k (With t ts))
objects-section n k (Node own children) ts = refl

same-join : (a b c d : List DesignLine) → lines_text a ≡ lines_text b → lines_text c ≡ lines_text d → lines_text (a ++ c) ≡ lines_text (b ++ d)
same-join a b c d e f = lines-append a c ∙ joined-two b d (lines_text a) (lines_text c) e f

mutual
  pub same-tree : (t : Tree) (n m : ℕ) → min n 10 ≡ min m 10 → lines_text (tree_lines n t) ≡ lines_text (tree_lines m t)
  same-tree (Node own children) n m e =
      same-join (front_lines n own) (front_lines m own) (section (suc n) "objects" (trees_lines (suc (suc n)) children) ++ back_lines n own)
      (section (suc m) "objects" (trees_lines (suc (suc m)) children) ++ back_lines m own)
      (same-front n m e own)
      (same-join (section (suc n) "objects" (trees_lines (suc (suc n)) children)) (section (suc m) "objects" (trees_lines (suc (suc m)) children))
      (back_lines n own) (back_lines m own)
      (same-objects children (suc n) (suc m) (same-deeper n m e)) (same-back n m e own))

  pub same-trees : (ts : Trees) (n m : ℕ) → min n 10 ≡ min m 10 → lines_text (trees_lines n ts) ≡ lines_text (trees_lines m ts)
  same-trees Empty n m e = refl
  same-trees (With t ts) n m e = same-join (tree_lines n t) (tree_lines m t) (trees_lines n ts) (trees_lines m ts) (same-tree t n m e)
      (same-trees ts n m e)

  same-objects : (ts : Trees) (n m : ℕ) → min n 10 ≡ min m 10 → lines_text (section n "objects" (trees_lines (suc n) ts))
      ≡ lines_text (section m "objects" (trees_lines (suc m) ts))
  same-objects Empty n m e = refl
  same-objects (With t ts) n m e =
      objects-section n (suc n) t ts
      ∙ both (design_line_text (line n (Capital (codes "objects") ∷ []))) (design_line_text (line m (Capital (codes "objects") ∷ [])))
      (lines_text (trees_lines (suc n) (With t ts))) (lines_text (trees_lines (suc m) (With t ts)))
      (same-line n m e (Capital (codes "objects") ∷ [])) (same-join (tree_lines (suc n) t) (tree_lines (suc m) t) (trees_lines (suc n) ts)
      (trees_lines (suc m) ts) (same-tree t (suc n) (suc m) (same-deeper n m e)) (same-trees ts (suc n) (suc m) (same-deeper n m e)))
      ∙ sym (objects-section m (suc m) t ts)

heading-objects : (n k : ℕ) (ns : List nodes.Node) → heading n (codes "OBJECTS") ns ++ lines_text (trees_lines k (trees_of (map tree_of ns)))
    ≡ lines_text (section n "objects" (trees_lines k (trees_of (map tree_of ns))))
heading-objects n k [] = refl
heading-objects n k (x ∷ xs) = sym (objects-section n k (tree_of x) (trees_of (map tree_of xs)))

-- the lines of an object and of those inside it
pub tree-text : (level inner innest : ℕ) (own : Object) (ns : List nodes.Node) → inner ≡ min level 10 + 1 → innest ≡ min inner 10 + 1
    → lines_text (front_lines level own) ++ (heading inner (codes "OBJECTS") ns
    ++ (lines_text (trees_lines innest (trees_of (map tree_of ns))) ++ lines_text (back_lines level own)))
    ≡ lines_text (tree_lines level (Node own (trees_of (map tree_of ns))))
tree-text level inner innest own ns e f =
    let once = capped level inner e in
    let twice = capped inner innest f ∙ same-deeper inner (suc level) once in
    let objects = section (suc level) "objects" (trees_lines (suc (suc level)) (trees_of (map tree_of ns))) in
    ap (λ x. lines_text (front_lines level own) ++ x)
    (ap (λ x. x ++ (lines_text (trees_lines innest (trees_of (map tree_of ns))) ++ lines_text (back_lines level own)))
    (same-heading (codes "OBJECTS") inner (suc level) once ns)
    ∙ ap (λ x. heading (suc level) (codes "OBJECTS") ns ++ (x ++ lines_text (back_lines level own)))
    (same-trees (trees_of (map tree_of ns)) innest (suc (suc level)) twice)
    ∙ sym (append_assoc (heading (suc level) (codes "OBJECTS") ns) (lines_text (trees_lines (suc (suc level)) (trees_of (map tree_of ns))))
    (lines_text (back_lines level own)))
    ∙ ap (λ x. x ++ lines_text (back_lines level own)) (heading-objects (suc level) (suc (suc level)) ns)
    ∙ sym (lines-append objects (back_lines level own)))
    ∙ sym (lines-append (front_lines level own) (objects ++ back_lines level own))

-- an object by itself, and the tree of it and those inside it
abbrev object_of : nodes.Node → Object
object_of n = record {
  name = (out-Node n).name;
  kind = (out-Node n).kind;
  attrs = (out-Node n).attrs.items;
  provides = map provided_of (out-Node n).provides.items;
  needs = (out-Node n).needs.items;
  vars = (out-Node n).vars.items;
  bodies = map body_of (out-Node n).bodies.items;
  thread = option_map block_of (out-Node n).thread;
  links = (out-Node n).links.items;
}

pub node-tree : (n : nodes.Node) → tree_of n ≡ Node (object_of n) (trees_of (map tree_of (out-Node n).children.items))
node-tree n = fold_out-Node Tree node_layer n

-- provided operations, by those of the code
pub provided-items : (k : ℕ) (ps : List provided.Provided) → item_lines k (λ p. (provided_line 0 (provided_of p)).parts) ps
    ≡ item_lines k (λ q. (provided_line 0 q).parts) (map provided_of ps)
provided-items k [] = refl
provided-items k (p ∷ ps) = ap (λ x. line k (provided_line 0 (provided_of p)).parts ∷ x) (provided-items k ps)

provided-heading : (n : ℕ) (word : List ℕ) (ps : List provided.Provided) → heading n word ps ≡ heading n word (map provided_of ps)
provided-heading n word [] = refl
provided-heading n word (p ∷ ps) = refl

pub provided-bytes : (inner : ℕ) (ps : List provided.Provided)
    → section_bytes "provides" (λ p. (provided_line 0 (provided_of p)).parts) inner ps
    ≡ section_bytes "provides" (λ q. (provided_line 0 q).parts) inner (map provided_of ps)
provided-bytes inner ps =
    ap (λ x. x ++ lines_text (item_lines (min inner 10 + 1) (λ p. (provided_line 0 (provided_of p)).parts) ps))
    (provided-heading inner (codes "PROVIDES") ps)
    ∙ ap (λ x. heading inner (codes "PROVIDES") (map provided_of ps) ++ lines_text x) (provided-items (min inner 10 + 1) ps)

pub front-node : (level inner : ℕ) (n : nodes.Node) → inner ≡ min level 10 + 1
    → design_line_text (object_line level (out-Node n).name (out-Node n).kind)
    ++ (section_bytes "attributes" (λ a. (attribute_line 0 a).parts) inner (out-Node n).attrs.items
    ++ (section_bytes "provides" (λ p. (provided_line 0 (provided_of p)).parts) inner (out-Node n).provides.items
    ++ (section_bytes "requires" (λ q. (needed_line 0 q).parts) inner (out-Node n).needs.items
    ++ (section_bytes "data" (λ d. (datum_line 0 d).parts) inner (out-Node n).vars.items
    ++ (lines_text (flat_map (body_lines inner) (map body_of (out-Node n).bodies.items))
    ++ lines_text (thread_lines inner (option_map block_of (out-Node n).thread)))))))
    ≡ lines_text (front_lines level (own_of (tree_of n)))
front-node level inner n e =
    let rest = section_bytes "requires" (λ q. (needed_line 0 q).parts) inner (out-Node n).needs.items
    ++ (section_bytes "data" (λ d. (datum_line 0 d).parts) inner (out-Node n).vars.items
    ++ (lines_text (flat_map (body_lines inner) (map body_of (out-Node n).bodies.items))
    ++ lines_text (thread_lines inner (option_map block_of (out-Node n).thread)))) in
    ap (λ x. design_line_text (object_line level (out-Node n).name (out-Node n).kind)
    ++ (section_bytes "attributes" (λ a. (attribute_line 0 a).parts) inner (out-Node n).attrs.items ++ (x ++ rest)))
    (provided-bytes inner (out-Node n).provides.items)
    ∙ front-text level inner (object_of n) e
    ∙ sym (ap (λ t. lines_text (front_lines level (own_of t))) (node-tree n))

pub back-node : (level inner : ℕ) (n : nodes.Node) → inner ≡ min level 10 + 1
    → section_bytes "implements" (λ l. (link_line 0 l).parts) inner (out-Node n).links.items
    ++ (indent level ++ (codes "END " ++ ((out-Node n).name ++ codes ";\n"))) ≡ lines_text (back_lines level (own_of (tree_of n)))
back-node level inner n e = back-text level inner (object_of n) e ∙ sym (ap (λ t. lines_text (back_lines level (own_of t))) (node-tree n))

pub node-text : (level inner innest : ℕ) (n : nodes.Node) → inner ≡ min level 10 + 1 → innest ≡ min inner 10 + 1
    → lines_text (front_lines level (own_of (tree_of n)))
    ++ (heading inner (codes "OBJECTS") (out-Node n).children.items
    ++ (lines_text (trees_lines innest (trees_of (map tree_of (out-Node n).children.items))) ++ lines_text (back_lines level (own_of (tree_of n)))))
    ≡ lines_text (tree_lines level (tree_of n))
node-text level inner innest n e f =
    let between = heading inner (codes "OBJECTS") (out-Node n).children.items in
    let inside = lines_text (trees_lines innest (trees_of (map tree_of (out-Node n).children.items))) in
    ap (λ t. lines_text (front_lines level (own_of t)) ++ (between ++ (inside ++ lines_text (back_lines level (own_of t))))) (node-tree n)
    ∙ tree-text level inner innest (object_of n) (out-Node n).children.items e f
    ∙ sym (ap (λ t. lines_text (tree_lines level t)) (node-tree n))

-- objects beside each other
pub nodes-next : (level : ℕ) (ns : List nodes.Node) (i : ℕ) (n : nodes.Node) → i < length ns → n ≡ get_or ns i n
    → lines_text (trees_lines level (trees_of (map tree_of (drop i ns)))) ≡ lines_text (tree_lines level (tree_of n))
    ++ lines_text (trees_lines level (trees_of (map tree_of (drop (i + 1) ns))))
nodes-next level ns i n h e =
    let d : drop i ns ≡ n ∷ drop (i + 1) ns = rw (add-one, drop-cons ns i n h) (ap (λ x. x ∷ drop (suc i) ns) (sym e)) in
    rw d (lines-append (tree_lines level (tree_of n)) (trees_lines level (trees_of (map tree_of (drop (i + 1) ns)))))

-- the costs
pub costs-text : (c : Costs)
    → codes "   COSTS\n"
    ++ ((codes "      ASSIGN = " ++ (decimal c.assign ++ codes ";\n"))
    ++ ((codes "      TEST = " ++ (decimal c.test ++ codes ";\n"))
    ++ ((codes "      TURN = " ++ (decimal c.turn ++ codes ";\n"))
    ++ ((codes "      CALL = " ++ (decimal c.call ++ codes ";\n"))
    ++ ((codes "      NULL = " ++ (decimal c.nothing ++ codes ";\n"))
    ++ ((codes "      PUT = " ++ (decimal c.put ++ codes ";\n"))
    ++ ((codes "      FINISH = " ++ (decimal c.finish ++ codes ";\n"))
    ++ codes "   END COSTS;\n")))))))
    ≡ lines_text (cost_lines c)
costs-text c =
    ap (λ x. codes "   COSTS\n" ++ x)
    (both _ _ _ _ (cost-text c.assign (codes "assign"))
    (both _ _ _ _ (cost-text c.test (codes "test"))
    (both _ _ _ _ (cost-text c.turn (codes "turn"))
    (both _ _ _ _ (cost-text c.call (codes "call"))
    (both _ _ _ _ (cost-text c.nothing (codes "null"))
    (both _ _ _ _ (cost-text c.put (codes "put"))
    (both _ _ _ _ (cost-text c.finish (codes "finish")) refl)))))))

-- a design
pub whole-text : (x : Design) → lines_text (head_lines x.name x.version)
    ++ (lines_text (cost_lines x.costs) ++ (lines_text (tree_lines 1 x.root) ++ (codes "END " ++ (x.name ++ codes ";\n")))) ≡ design_text x
whole-text x =
    let last = line 0 (Capital (codes "end") ∷ Plain (Word x.name) ∷ Plain (Sign Semicolon) ∷ []) in
    let end-text : codes "END " ++ (x.name ++ codes ";\n") ≡ lines_text (last ∷ []) =
    ap (λ y. codes "END " ++ y) (sym (append_assoc x.name (codes ";") (codes "\n"))) ∙ sym (append-nil (design_line_text last)) in
    joined-two (head_lines x.name x.version) (cost_lines x.costs ++ (tree_lines 1 x.root ++ last ∷ [])) _ _ refl
    (joined-two (cost_lines x.costs) (tree_lines 1 x.root ++ last ∷ []) _ _ refl (joined-two (tree_lines 1 x.root) (last ∷ []) _ _ refl end-text))

-- four texts, one after another
pub four : (none one two three all a b c d : List ℕ) → none ≡ [] → one ≡ none ++ a → two ≡ one ++ b → three ≡ two ++ c → all ≡ three ++ d
    → all ≡ a ++ (b ++ (c ++ d))
four none one two three all a b c d e f g h k =
    k ∙ ap (λ x. x ++ d) (h ∙ ap (λ x. x ++ c) (g ∙ ap (λ x. x ++ b) (f ∙ ap (λ x. x ++ a) e))) ∙ append_assoc
    (a ++ b) c d ∙ append_assoc a b (c ++ d)
