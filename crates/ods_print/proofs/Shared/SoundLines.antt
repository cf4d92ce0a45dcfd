-- Each line of a design is sound: its capitals read as their words, and its dots stay apart.
use Rattle.std.proofs.Common.{◌≡◌, ℕ, suc, Bool, true, Option, Some, None, List, [], ◌∷◌, ◌++◌, map, flat_map, codes, refl, ap, ◌∙◌, append_assoc}
use Rattle.std.proofs.lemmas.Bool.{and_from, and_parts}
use Rattle.std.proofs.lemmas.List.Folds.{list_all-append}
use Rattle.seq_tree.specs.Expressions.{Expression, Number, Variable, Paren, Not, Binary}
use Rattle.seq_tree.specs.Names.{Name}
use Rattle.seq_tree.specs.Statements.{Statement, Statements, Branches, Null, Assign, If, For, ExitWhen, Call, Work, Put, End, Then, Nothing}
use Rattle.seq_tree.specs.Statements.{Else, When}
use Rattle.seq_tree.specs.Spelling.{Line, block_lines, branch_lines, statement_lines, expression_tokens, actual_tokens, more_actuals, op_token}
use Rattle.seq_tree.specs.declared.token.Token.{Token}
use Rattle.seq_tree.specs.declared.token.Token.TheVariants.{Word, Sign}
use Rattle.seq_tree.specs.declared.token.Mark.TheVariants.{RightParen, Semicolon}
use Rattle.seq_tree.specs.declared.tree.BinOp.{BinOp}
use Rattle.seq_tree.specs.declared.tree.BinOp.TheVariants.{And, Or, Xor, Eq, Ne, Lt, Le, Gt, Ge, Add, Sub, Mul, Div, Mod}
use Rattle.seq_tree.specs.declared.tree.Mode.{Mode}
use Rattle.seq_tree.specs.declared.tree.Mode.TheVariants.{In, Out}
use Rattle.seq_tree.specs.declared.tree.Param.{Param}
use Rattle.seq_tree.specs.declared.tree.Datum.{Datum}
use Rattle.seq_tree.specs.declared.tree.OpName.{OpName}
use Rattle.ods_tree.specs.Designs.{Body, Design, Object, Provided, Tree, Trees, Node, Empty, With}
use Rattle.ods_tree.specs.Spelling.{Part, Capital, Plain, DesignLine, line, attribute_line, attribute_part, back_lines, block_parts, body_lines}
use Rattle.ods_tree.specs.Spelling.{constraint_parts, cost_lines, datum_line, design_lines, front_lines, head_lines, kind_part, link_line}
use Rattle.ods_tree.specs.Spelling.{needed_line, param_parts, params_parts, priority_lines, provided_line, section, thread_lines, tree_lines}
use Rattle.ods_tree.specs.Spelling.{trees_lines, unit_parts}
use Rattle.ods_tree.specs.declared.design.Kind.{Kind}
use Rattle.ods_tree.specs.declared.design.Kind.TheVariants.{Passive, Active, Protected, Cyclic, Sporadic}
use Rattle.ods_tree.specs.declared.design.Constraint.{Constraint}
use Rattle.ods_tree.specs.declared.design.Constraint.TheVariants.{Aser, Hser, Pser, Paer}
use Rattle.ods_tree.specs.declared.design.AttrKey.{AttrKey}
use Rattle.ods_tree.specs.declared.design.AttrKey.TheVariants.{Period, Offset, Separation, Deadline, ThreadBudget, ArrivalJitter}
use Rattle.ods_tree.specs.declared.design.TickUnit.{TickUnit}
use Rattle.ods_tree.specs.declared.design.TickUnit.TheVariants.{Us, Ms, S}
use Rattle.ods_tree.specs.declared.design.VersionTwo.{VersionTwo}
use Rattle.ods_tree.specs.declared.design.Attr.{Attr}
use Rattle.ods_tree.specs.declared.design.Link.{Link}
use Rattle.ods_print.specs.Parts.{item_lines}
use Rattle.ods_print.proofs.Shared.PartLaws.{are_sound, is_capital, is_sound, leaves}
use Prim.Native.String.{String}

sound-append : (xs ys : List DesignLine) → are_sound xs ≡ true → are_sound ys ≡ true → are_sound (xs ++ ys) ≡ true
sound-append xs ys a b = list_all-append (λ l. is_sound l.parts) xs ys ∙ and_from (are_sound xs) (are_sound ys) a b

-- tokens as parts
abbrev sound_tokens : List Token → Bool
sound_tokens ts = is_sound (map Plain ts)

-- an operator leaves what follows apart
op-leaves : (op : BinOp) (ps : List Part) → leaves (op_token op) ps ≡ true
op-leaves And ps = refl
op-leaves Or ps = refl
op-leaves Xor ps = refl
op-leaves Eq ps = refl
op-leaves Ne ps = refl
op-leaves Lt ps = refl
op-leaves Le ps = refl
op-leaves Gt ps = refl
op-leaves Ge ps = refl
op-leaves Add ps = refl
op-leaves Sub ps = refl
op-leaves Mul ps = refl
op-leaves Div ps = refl
op-leaves Mod ps = refl

-- an expression before what is sound
expression-sound : (e : Expression) (rest : List Token) → sound_tokens rest ≡ true → sound_tokens (expression_tokens e ++ rest) ≡ true
expression-sound (Number n) rest ok = ok
expression-sound (Variable name) rest ok = ok
expression-sound (Paren e) rest ok =
    ap sound_tokens (append_assoc (expression_tokens e) (Sign RightParen ∷ []) rest) ∙ expression-sound e (Sign RightParen ∷ rest) ok
expression-sound (Not e) rest ok = expression-sound e rest ok
expression-sound (Binary op left right) rest ok =
    ap sound_tokens (append_assoc (expression_tokens left) (op_token op ∷ expression_tokens right) rest)
    ∙ expression-sound left (op_token op ∷ (expression_tokens right ++ rest))
    (and_from _ _ (op-leaves op (map Plain (expression_tokens right ++ rest))) (expression-sound right rest ok))

more-sound : (es : List Expression) (rest : List Token) → sound_tokens rest ≡ true → sound_tokens (more_actuals es ++ rest) ≡ true
more-sound [] rest ok = ok
more-sound (e ∷ es) rest ok =
    ap sound_tokens (append_assoc (expression_tokens e) (more_actuals es) rest) ∙ expression-sound e (more_actuals es ++ rest) (more-sound es rest ok)

actuals-sound : (es : List Expression) → sound_tokens (actual_tokens es ++ Sign Semicolon ∷ []) ≡ true
actuals-sound [] = refl
actuals-sound (e ∷ es) =
    ap sound_tokens (append_assoc (expression_tokens e) (more_actuals es ++ Sign RightParen ∷ []) (Sign Semicolon ∷ []))
    ∙ expression-sound e ((more_actuals es ++ Sign RightParen ∷ []) ++ Sign Semicolon ∷ [])
    (ap sound_tokens (append_assoc (more_actuals es) (Sign RightParen ∷ []) (Sign Semicolon ∷ [])) ∙ more-sound es
    (Sign RightParen ∷ Sign Semicolon ∷ []) refl)

-- lines of tokens
abbrev plain_lines : List Line → List DesignLine
plain_lines ls = map (λ l. line l.level (map Plain l.tokens)) ls

plain-append : (xs ys : List Line) → are_sound (plain_lines xs) ≡ true → are_sound (plain_lines ys) ≡ true → are_sound (plain_lines (xs ++ ys)) ≡ true
plain-append [] ys a b = b
plain-append (x ∷ xs) ys a b = let p = and_parts (sound_tokens x.tokens) _ a in and_from _ _ p.0 (plain-append xs ys p.1 b)

mutual
  statement-sound : (level : ℕ) (s : Statement) → are_sound (plain_lines (statement_lines level s)) ≡ true
  statement-sound level Null = refl
  statement-sound level (Assign target value) = and_from _ _ (expression-sound value (Sign Semicolon ∷ []) refl) refl
  statement-sound level (If branches) = plain-append (branch_lines (codes "if") level branches) _ (branches-sound (codes "if") level branches) refl
  statement-sound level (For name low high body) = plain-append (block_lines (suc level) body) _ (block-sound (suc level) body) refl
  statement-sound level (ExitWhen condition) = and_from _ _ (expression-sound condition (Sign Semicolon ∷ []) refl) refl
  statement-sound level (Call object op actuals) = and_from _ _ (actuals-sound actuals) refl
  statement-sound level (Work ticks) = refl
  statement-sound level (Put value) = and_from _ _ (expression-sound value (Sign RightParen ∷ Sign Semicolon ∷ []) refl) refl

  block-sound : (level : ℕ) (b : Statements) → are_sound (plain_lines (block_lines level b)) ≡ true
  block-sound level End = refl
  block-sound level (Then first rest) = plain-append (statement_lines level first) (block_lines level rest) (statement-sound level first)
      (block-sound level rest)

  branches-sound : (word : List ℕ) (level : ℕ) (b : Branches) → are_sound (plain_lines (branch_lines word level b)) ≡ true
  branches-sound word level Nothing = refl
  branches-sound word level (Else block) = block-sound (suc level) block
  branches-sound word level (When condition block others) =
      and_from _ _ (expression-sound condition (Word (codes "then") ∷ []) refl)
      (plain-append (block_lines (suc level) block) (branch_lines (codes "elsif") level others) (block-sound (suc level) block)
      (branches-sound (codes "elsif") level others))

-- items, and a section of them
items-sound : {A : Type 0} (p : A → List Part) → ((x : A) → is_sound (p x) ≡ true) → (level : ℕ) (xs : List A)
    → are_sound (item_lines level p xs) ≡ true
items-sound p each level [] = refl
items-sound p each level (x ∷ xs) = and_from _ _ (each x) (items-sound p each level xs)

section-sound : (level : ℕ) (word : String) (ls : List DesignLine) → is_capital (codes word) ≡ true → are_sound ls ≡ true
    → are_sound (section level word ls) ≡ true
section-sound level word [] ok sound = refl
section-sound level word (l ∷ ls) ok sound = and_from _ _ (and_from _ _ ok refl) sound

key-sound : (k : AttrKey) (ps : List Part) → is_sound ps ≡ true → is_sound (attribute_part k ∷ ps) ≡ true
key-sound Period ps ok = ok
key-sound Offset ps ok = ok
key-sound Separation ps ok = ok
key-sound Deadline ps ok = ok
key-sound ThreadBudget ps ok = ok
key-sound ArrivalJitter ps ok = ok

kind-sound : (k : Kind) → is_sound (kind_part k ∷ []) ≡ true
kind-sound Passive = refl
kind-sound Active = refl
kind-sound Protected = refl
kind-sound Cyclic = refl
kind-sound Sporadic = refl

unit-sound : (u : Option TickUnit) → is_sound (unit_parts u ++ Plain (Sign Semicolon) ∷ []) ≡ true
unit-sound None = refl
unit-sound (Some Us) = refl
unit-sound (Some Ms) = refl
unit-sound (Some S) = refl

constraint-sound : (o : Option Constraint) → is_sound (constraint_parts o ++ Plain (Sign Semicolon) ∷ []) ≡ true
constraint-sound None = refl
constraint-sound (Some Aser) = refl
constraint-sound (Some Hser) = refl
constraint-sound (Some Pser) = refl
constraint-sound (Some Paer) = refl

param-sound : (n : Name) (m : Mode) (rest : List Part) → is_sound rest ≡ true → is_sound (param_parts (record { name = n; mode = m }) ++ rest) ≡ true
param-sound n In rest ok = ok
param-sound n Out rest ok = ok

more_params-sound : (ps : List Param) (rest : List Part) → is_sound rest ≡ true
    → is_sound (flat_map (λ q. Plain (Sign Semicolon) ∷ param_parts q) ps ++ rest) ≡ true
more_params-sound [] rest ok = ok
more_params-sound (p ∷ ps) rest ok = param-sound p.name p.mode (flat_map (λ q. Plain (Sign Semicolon) ∷ param_parts q) ps ++ rest)
    (more_params-sound ps rest ok)

params-sound : (ps : List Param) (rest : List Part) → is_sound rest ≡ true → is_sound (params_parts ps ++ rest) ≡ true
params-sound [] rest ok = ok
params-sound (p ∷ ps) rest ok =
    let more = flat_map (λ q. Plain (Sign Semicolon) ∷ param_parts q) ps in
    param-sound p.name p.mode ((more ++ Plain (Sign RightParen) ∷ []) ++ rest)
    (ap is_sound (append_assoc more (Plain (Sign RightParen) ∷ []) rest) ∙ more_params-sound ps (Plain (Sign RightParen) ∷ rest) ok)

attribute-sound : (a : Attr) → is_sound (attribute_line 0 a).parts ≡ true
attribute-sound a = key-sound a.key _ (unit-sound a.unit)

provided-sound : (p : Provided) → is_sound (provided_line 0 p).parts ≡ true
provided-sound p = params-sound p.sig.params _ (constraint-sound p.constraint)

needed-sound : (o : OpName) → is_sound (needed_line 0 o).parts ≡ true
needed-sound o = refl

datum-sound : (d : Datum) → is_sound (datum_line 0 d).parts ≡ true
datum-sound d = refl

link-sound : (l : Link) → is_sound (link_line 0 l).parts ≡ true
link-sound l = refl

body-sound : (level : ℕ) (b : Body) → are_sound (body_lines level b) ≡ true
body-sound level b =
    sound-append (map (datum_line (suc level)) b.locals) _ (items-sound (λ d. (datum_line 0 d).parts) datum-sound (suc level) b.locals)
    (sound-append (block_parts (suc level) b.block) _ (block-sound (suc level) b.block) refl)

bodies-sound : (level : ℕ) (bs : List Body) → are_sound (flat_map (body_lines level) bs) ≡ true
bodies-sound level [] = refl
bodies-sound level (b ∷ bs) = sound-append (body_lines level b) (flat_map (body_lines level) bs) (body-sound level b) (bodies-sound level bs)

thread-sound : (level : ℕ) (o : Option Statements) → are_sound (thread_lines level o) ≡ true
thread-sound level None = refl
thread-sound level (Some b) = sound-append (block_parts (suc level) b) _ (block-sound (suc level) b) refl

front-sound : (level : ℕ) (o : Object) → are_sound (front_lines level o) ≡ true
front-sound level o =
    and_from _ _ (kind-sound o.kind)
    (sound-append (section (suc level) "attributes" (map (attribute_line (suc (suc level))) o.attrs)) _
    (section-sound (suc level) "attributes" (map (attribute_line (suc (suc level))) o.attrs) refl
    (items-sound (λ a. (attribute_line 0 a).parts) attribute-sound (suc (suc level)) o.attrs))
    (sound-append (section (suc level) "provides" (map (provided_line (suc (suc level))) o.provides)) _
    (section-sound (suc level) "provides" (map (provided_line (suc (suc level))) o.provides) refl
    (items-sound (λ q. (provided_line 0 q).parts) provided-sound (suc (suc level)) o.provides))
    (sound-append (section (suc level) "requires" (map (needed_line (suc (suc level))) o.needs)) _
    (section-sound (suc level) "requires" (map (needed_line (suc (suc level))) o.needs) refl
    (items-sound (λ q. (needed_line 0 q).parts) needed-sound (suc (suc level)) o.needs))
    (sound-append (section (suc level) "data" (map (datum_line (suc (suc level))) o.vars)) _
    (section-sound (suc level) "data" (map (datum_line (suc (suc level))) o.vars) refl
    (items-sound (λ d. (datum_line 0 d).parts) datum-sound (suc (suc level)) o.vars))
    (sound-append (flat_map (body_lines (suc level)) o.bodies) (thread_lines (suc level) o.thread) (bodies-sound (suc level) o.bodies)
    (thread-sound (suc level) o.thread))))))

back-sound : (level : ℕ) (o : Object) → are_sound (back_lines level o) ≡ true
back-sound level o =
    sound-append (section (suc level) "implements" (map (link_line (suc (suc level))) o.links)) _
    (section-sound (suc level) "implements" (map (link_line (suc (suc level))) o.links) refl
    (items-sound (λ l. (link_line 0 l).parts) link-sound (suc (suc level)) o.links)) refl

mutual
  tree-sound : (level : ℕ) (t : Tree) → are_sound (tree_lines level t) ≡ true
  tree-sound level (Node own children) =
      sound-append (front_lines level own) _ (front-sound level own)
      (sound-append (section (suc level) "objects" (trees_lines (suc (suc level)) children)) (back_lines level own)
      (section-sound (suc level) "objects" (trees_lines (suc (suc level)) children) refl (trees-sound (suc (suc level)) children))
      (back-sound level own))

  trees-sound : (level : ℕ) (ts : Trees) → are_sound (trees_lines level ts) ≡ true
  trees-sound level Empty = refl
  trees-sound level (With t ts) = sound-append (tree_lines level t) (trees_lines level ts) (tree-sound level t) (trees-sound level ts)

priorities-sound : (o : Option (ℕ × ℕ)) → are_sound (priority_lines o) ≡ true
priorities-sound None = refl
priorities-sound (Some range) = refl

head-sound : (name : Name) (v : Option VersionTwo) → are_sound (head_lines name v) ≡ true
head-sound name None = refl
head-sound name (Some v) = and_from _ _ refl (and_from _ _ (unit-sound (Some v.unit)) (priorities-sound v.priorities))

-- the lines of a design
pub design-sound : (x : Design) → are_sound (design_lines x) ≡ true
design-sound x =
    let last : List DesignLine = line 0 (Capital (codes "end") ∷ Plain (Word x.name) ∷ Plain (Sign Semicolon) ∷ []) ∷ [] in
    sound-append (head_lines x.name x.version) (cost_lines x.costs ++ (tree_lines 1 x.root ++ last)) (head-sound x.name x.version)
    (sound-append (cost_lines x.costs) (tree_lines 1 x.root ++ last) refl (sound-append (tree_lines 1 x.root) last (tree-sound 1 x.root) refl))
