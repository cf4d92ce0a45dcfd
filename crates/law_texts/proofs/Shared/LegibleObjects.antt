-- Where a text can hold each token of a design, it can hold the names and numbers of each of its objects.
-- A line of an object is one of the design's, and a part of a line gives a token.
use Rattle.std.proofs.Common.{◌≡◌, ℕ, suc, true, List, [], ◌∷◌, map, flat_map, codes, Option, Some, None, refl, ap, subst, inl, inr, ◌⊎◌}
use Prim.Native.String.{String}
use Rattle.seq_tree.specs.Statements.{Statements}
use Rattle.seq_tree.specs.Spelling.{Line, block_lines, joined}
use Rattle.seq_tree.specs.declared.token.Token.{Token}
use Rattle.seq_tree.specs.declared.token.Token.TheVariants.{Word, Number, Sign}
use Rattle.seq_tree.specs.declared.token.Mark.TheVariants.{Semicolon}
use Rattle.seq_tree.specs.declared.tree.Param.{Param}
use Rattle.seq_tree.specs.declared.tree.Datum.{Datum}
use Rattle.ods_tree.specs.Designs.{Provided, Body, Object, Tree, Trees, Node, Empty, With, Design}
use Rattle.ods_tree.specs.Walk.{Standing, own_of, roots, standings, inner_standings, objects}
use Rattle.ods_tree.specs.Spelling.{Part, Capital, Plain, DesignLine, line, part_token, section, param_parts, params_parts, provided_line}
use Rattle.ods_tree.specs.Spelling.{datum_line, block_parts, body_lines, thread_lines, front_lines, back_lines, tree_lines, trees_lines}
use Rattle.ods_tree.specs.Spelling.{head_lines, cost_lines, design_lines, design_tokens, attribute_line, needed_line}
use Rattle.seq_print.specs.Readable.{is_readable}
use Rattle.ada_print.specs.Writable.{is_word, is_number}
use Rattle.law_lists.proofs.Shared.Lists.{IsIn, in-left, in-right, in-map, in-flat, in-some}
use Rattle.law_designs.proofs.Shared.Lists.{in-cases, all-from, all-in}
use Rattle.law_texts.proofs.Tokens.{AreLegible}

-- lines among others
abbrev pub Within : List DesignLine → List DesignLine → Type 0
Within ls ms = (l : DesignLine) → IsIn l ls → IsIn l ms

in-section : (level : ℕ) (word : String) (ls : List DesignLine) → Within ls (section level word ls)
in-section level word [] l h = h
in-section level word (i ∷ is') l h = inr h

-- the lines of each object stand among those of its tree
mutual
  tree-front : (level : ℕ) (parent : Option Object) (siblings : List Object) (t : Tree) (s : Standing) → IsIn s (standings parent siblings t)
      → (k : ℕ) × Within (front_lines k s.own) (tree_lines level t)
  tree-front level parent siblings (Node own children) s (inl e) = (
    level,
    (let P : Standing → Type 0 = λ z. Within (front_lines level z.own) (tree_lines level (Node own children))
        in subst P e (λ l h. in-left l (front_lines level own) _ h)),
  )
  tree-front level parent siblings (Node own children) s (inr h) =
      let r = trees-front (suc (suc level)) (Some own) (roots children) children s h in (
        r.0,
        λ l k. in-right l (front_lines level own) _ (in-left l (section (suc level) "objects" (trees_lines (suc (suc level)) children))
            (back_lines level own)
            (in-section (suc level) "objects" (trees_lines (suc (suc level)) children) l (r.1 l k))),
      )

  trees-front : (level : ℕ) (parent : Option Object) (siblings : List Object) (ts : Trees) (s : Standing)
      → IsIn s (inner_standings parent siblings ts)
      → (k : ℕ) × Within (front_lines k s.own) (trees_lines level ts)
  trees-front level parent siblings Empty s h = absurd h
  trees-front level parent siblings (With first rest) s h =
      by (tree-front level parent siblings first s) (trees-front level parent siblings rest s)
      (in-cases (standings parent siblings first) (inner_standings parent siblings rest) s h)
    where
      by : (IsIn s (standings parent siblings first) → (k : ℕ) × Within (front_lines k s.own) (tree_lines level first))
          → (IsIn s (inner_standings parent siblings rest) → (k : ℕ) × Within (front_lines k s.own) (trees_lines level rest))
          → IsIn s (standings parent siblings first) ⊎ IsIn s (inner_standings parent siblings rest)
          → (k : ℕ) × Within (front_lines k s.own) (trees_lines level (With first rest))
      by f g (inl a) = let r = f a in (r.0, λ l k. in-left l (tree_lines level first) (trees_lines level rest) (r.1 l k))
      by f g (inr a) = let r = g a in (r.0, λ l k. in-right l (tree_lines level first) (trees_lines level rest) (r.1 l k))

-- an object whose lines are among these
abbrev pub Shows : List DesignLine → Object → Type 0
Shows ls o = (k : ℕ) × Within (front_lines k o) ls

pub object-shown : (x : Design) (s : Standing) → IsIn s (objects x) → Shows (design_lines x) s.own
object-shown x s h =
    let r = tree-front 1 None (own_of x.root ∷ []) x.root s h in
    (r.0, λ l k. in-right l (head_lines x.name x.version) _ (in-right l (cost_lines x.costs) _ (in-left l (tree_lines 1 x.root) _ (r.1 l k))))

-- parameters
abbrev pub named_part : Param → Part
named_part q = Plain (Word q.name)

param-in : (q : Param) (ps : List Param) → IsIn q ps → IsIn (named_part q) (params_parts ps)
param-in q [] h = absurd h
param-in q (p ∷ ps) (inl e) = inr (inl (ap named_part e))
param-in q (p ∷ ps) (inr h) =
    inr (in-right (named_part q) (param_parts p) _ (in-left (named_part q) (flat_map (λ r. Plain (Sign Semicolon) ∷ param_parts r) ps) _
    (in-flat (λ (r : Param). Plain (Sign Semicolon) ∷ param_parts r) q (named_part q) ps h (inr (inl refl)))))

-- blocks: a token stands in a line, and this is one of the design's
block-token : (level : ℕ) (b : Statements) (t : Token) → IsIn t (joined (block_lines level b))
    → (l : DesignLine) × IsIn l (block_parts level b) × IsIn (Plain t) l.parts
block-token level b t h =
    let r = in-some (λ (l : Line). l.tokens) (block_lines level b) t h in
    let made : Line → DesignLine = λ l. line l.level (map Plain l.tokens) in
    (made r.0, in-map made r.0 (block_lines level b) r.1, in-map Plain t r.0.tokens r.2)

-- lines each of whose parts gives a token that a text can hold
abbrev pub AllLegible : List DesignLine → Type 0
AllLegible ls = (l : DesignLine) (p : Part) → IsIn l ls → IsIn p l.parts → is_readable (part_token p) ≡ true

pub lines-legible : (x : Design) → AreLegible (design_tokens x) → AllLegible (design_lines x)
lines-legible x h l p i j =
    all-in is_readable (design_tokens x) (part_token p) h (in-flat (λ (m : DesignLine). map part_token m.parts) l (part_token p) (design_lines x) i
    (in-map part_token p l.parts j))

-- what a text can hold of an object
pub record IsLegibleObject (o : Object) : Type 0 where
  pub name : is_word o.name ≡ true
  pub ops : (p : Provided) → IsIn p o.provides → is_word p.sig.name ≡ true
  pub params : (p : Provided) (q : Param) → IsIn p o.provides → IsIn q p.sig.params → is_word q.name ≡ true
  pub vars : (d : Datum) → IsIn d o.vars → (is_word d.name ≡ true) × (is_number d.value ≡ true)
  pub locals : (b : Body) (d : Datum) → IsIn b o.bodies → IsIn d b.locals → (is_word d.name ≡ true) × (is_number d.value ≡ true)
  pub blocks : (b : Body) → IsIn b o.bodies → (level : ℕ) × AreLegible (joined (block_lines level b.block))
  pub thread : (b : Statements) → o.thread ≡ Some b → (level : ℕ) × AreLegible (joined (block_lines level b))

module _ (ls : List DesignLine) (all : AllLegible ls) (o : Object) (k : ℕ) (shown : Within (front_lines k o) ls) where
  abbrev attributes : List DesignLine
  attributes = section (suc k) "attributes" (map (attribute_line (suc (suc k))) o.attrs)

  abbrev provides : List DesignLine
  provides = section (suc k) "provides" (map (provided_line (suc (suc k))) o.provides)

  abbrev needs : List DesignLine
  needs = section (suc k) "requires" (map (needed_line (suc (suc k))) o.needs)

  abbrev vars : List DesignLine
  vars = section (suc k) "data" (map (datum_line (suc (suc k))) o.vars)

  abbrev bodies : List DesignLine
  bodies = flat_map (body_lines (suc k)) o.bodies

  provided-in : (p : Provided) → IsIn p o.provides → IsIn (provided_line (suc (suc k)) p) ls
  provided-in p h =
      let l : DesignLine = provided_line (suc (suc k)) p in
      shown l (inr (in-right l attributes _ (in-left l provides _
      (in-section (suc k) "provides" (map (provided_line (suc (suc k))) o.provides) l (in-map (provided_line (suc (suc k))) p o.provides h)))))

  var-in : (d : Datum) → IsIn d o.vars → IsIn (datum_line (suc (suc k)) d) ls
  var-in d h =
      let l : DesignLine = datum_line (suc (suc k)) d in
      shown l (inr (in-right l attributes _ (in-right l provides _ (in-right l needs _ (in-left l vars _
      (in-section (suc k) "data" (map (datum_line (suc (suc k))) o.vars) l (in-map (datum_line (suc (suc k))) d o.vars h)))))))

  body-in : (b : Body) → IsIn b o.bodies → Within (body_lines (suc k) b) ls
  body-in b h l j =
      shown l (inr (in-right l attributes _ (in-right l provides _ (in-right l needs _ (in-right l vars _
      (in-left l bodies (thread_lines (suc k) o.thread) (in-flat (body_lines (suc k)) b l o.bodies h j)))))))

  thread-in : Within (thread_lines (suc k) o.thread) ls
  thread-in l j = shown l (inr (in-right l attributes _
      (in-right l provides _ (in-right l needs _ (in-right l vars _ (in-right l bodies (thread_lines (suc k) o.thread) j))))))

  datum-legible : (level : ℕ) (d : Datum) → IsIn (datum_line level d) ls → (is_word d.name ≡ true) × (is_number d.value ≡ true)
  datum-legible level d h = (
    all (datum_line level d) (Plain (Word d.name)) h (inl refl),
    all (datum_line level d) (Plain (Number d.value)) h (inr
        (inr (inr (inr (inl refl))))),
  )

  block-legible : (level : ℕ) (b : Statements) → Within (block_parts level b) ls → AreLegible (joined (block_lines level b))
  block-legible level b within = all-from is_readable (joined (block_lines level b)) (λ t h.
      let r = block-token level b t h in all r.0 (Plain t) (within r.0 r.1) r.2)

  local-in : (b : Body) (d : Datum) → IsIn b o.bodies → IsIn d b.locals → IsIn (datum_line (suc (suc k)) d) ls
  local-in b d h j =
      let l : DesignLine = datum_line (suc (suc k)) d in
      body-in b h l (inr (in-left l (map (datum_line (suc (suc k))) b.locals) _ (in-map (datum_line (suc (suc k))) d b.locals j)))

  block-in : (b : Body) → IsIn b o.bodies → Within (block_parts (suc (suc k)) b.block) ls
  block-in b h l j = body-in b h l
      (inr (in-right l (map (datum_line (suc (suc k))) b.locals) _ (inr (in-left l (block_parts (suc (suc k)) b.block) _ j))))

  run-in : (t : Option Statements) (b : Statements) → t ≡ Some b → Within (thread_lines (suc k) t) ls → Within (block_parts (suc (suc k)) b) ls
  run-in None b e within = absurd (let z : None ≡ Some b = e in cc)
  run-in (Some c) b e within =
      let z : Some c ≡ Some b = e in
      let same : c ≡ b = cc in
      let P : Statements → Type 0 = λ y. Within (block_parts (suc (suc k)) y) ls in
      subst P same (λ l j. within l (inr (in-left l (block_parts (suc (suc k)) c) _ j)))

  pub object-legible : IsLegibleObject o
  object-legible = record {
    name = all _ (Plain (Word o.name)) (shown _ (inl refl)) (inr (inl refl));
    ops = λ p h. all (provided_line (suc (suc k)) p) (Plain (Word p.sig.name)) (provided-in p h) (inl refl);
    params = λ p q h j. all (provided_line (suc (suc k)) p) (named_part q) (provided-in p h) (inr
        (in-left (named_part q) (params_parts p.sig.params) _ (param-in q p.sig.params j)));
    vars = λ d h. datum-legible (suc (suc k)) d (var-in d h);
    locals = λ b d h j. datum-legible (suc (suc k)) d (local-in b d h j);
    blocks = λ b h. (suc (suc k), block-legible (suc (suc k)) b.block (block-in b h));
    thread = λ b e. (suc (suc k), block-legible (suc (suc k)) b (run-in o.thread b e thread-in));
  }

-- every object of a design each of whose tokens a text can hold
pub objects-legible : (x : Design) → AreLegible (design_tokens x) → (s : Standing) → IsIn s (objects x) → IsLegibleObject s.own
objects-legible x h s i = let r = object-shown x s i in object-legible (design_lines x) (lines-legible x h) s.own r.0 r.1

-- the name of the design
pub name-legible : (x : Design) → AreLegible (design_tokens x) → is_word x.name ≡ true
name-legible x h =
    let l : DesignLine = line 0 (Capital (codes "end") ∷ Plain (Word x.name) ∷ Plain (Sign Semicolon) ∷ []) in
    lines-legible x h l (Plain (Word x.name)) (in-right l (head_lines x.name x.version) _
    (in-right l (cost_lines x.costs) _ (in-right l (tree_lines 1 x.root) _ (inl refl)))) (inr (inl refl))
