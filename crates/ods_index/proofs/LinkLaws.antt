-- Objects kept at places, tables of the places of their names, and what a name leads to through them.
use Rattle.std.proofs.Common.{◌≡◌, ◌++◌, ℕ, zero, suc, Bool, true, false, cond, List, [], ◌∷◌, map, length, Option, Some, None}
use Rattle.std.proofs.Common.{option_and_then, unwrap_or, if◌then◌else◌, refl, sym, ap, subst, ◌∙◌}
use Rattle.std.specs.List.{slice_get}
use Rattle.std.proofs.lemmas.List.{length-map, map-append}
use Rattle.seq_tree.specs.Names.{Name, same_name}
use Rattle.seq_tree.specs.declared.tree.OpName.{OpName}
use Rattle.name_sets.specs.declared.places.Places.{Places}
use Rattle.name_sets.specs.Places.{place_in}
use Rattle.ods_tree.specs.declared.design.Link.{Link}
use Rattle.ods_tree.specs.declared.design.Node as nodes
use Rattle.ods_tree.specs.declared.design.Node.{out-Node, fold_out-Node}
use Rattle.ods_tree.specs.Designs.{Object, Tree, Trees, Node, Empty, With, Design}
use Rattle.ods_tree.specs.Links.{child_op, first_of, inner_named, link_for, resolve, terminal_op, tree_named}
use Rattle.ods_tree.specs.Trees.{node_layer, tree_of, trees_of}
use Rattle.ods_tree.specs.Walk.{own_of}
use Rattle.ods_index.specs.declared.scopes.Scope.{Scope}
use Rattle.ods_index.specs.Linked.{by_links}
use Rattle.ods_index.specs.Scoped.{AreChildren, AreNamed, Covers, Finds, Keeps, child_named, inner_of, meaning_at, scope_trees}

-- what is at the place that was found
found_tree : (ts : List Tree) (o : Option ℕ) (t : Option Tree) → Finds ts o t → option_and_then (slice_get ts) o ≡ t
found_tree ts None None f = refl
found_tree ts None (Some t) f = absurd f
found_tree ts (Some p) None f = absurd f
found_tree ts (Some p) (Some t) f = f

-- what was found is found later
found_later : (old new : List Tree) (o : Option ℕ) (t : Option Tree) → Keeps old new → Finds old o t → Finds new o t
found_later old new None None keeps f = f
found_later old new None (Some t) keeps f = f
found_later old new (Some p) None keeps f = f
found_later old new (Some p) (Some t) keeps f = keeps p t f

-- one more name
found_or : (ts : List Tree) (b : Bool) (p : ℕ) (t : Tree) (o : Option ℕ) (found : Option Tree) → slice_get ts p ≡ Some t → Finds ts o found
    → Finds ts (cond b (Some p) o) (if b then Some t else found)
found_or ts true p t o found at f = at
found_or ts false p t o found at f = f

-- the same of two
then_same : {A B : Type 0} (f g : A → Option B) → ((a : A) → f a ≡ g a) → (o : Option A) → option_and_then f o ≡ option_and_then g o
then_same f g same None = refl
then_same f g same (Some a) = same a

-- an operation of a child
child_then : (b : Bool) (op : Name) (first : Tree) (rest : Option OpName) (found : Option Tree) → rest ≡ option_and_then (λ t. terminal_op t op) found
    → (if b then terminal_op first op else rest) ≡ option_and_then (λ t. terminal_op t op) (if b then Some first else found)
child_then true op first rest found e = refl
child_then false op first rest found e = e

child_meant : (ts : Trees) (to : OpName) → child_op ts to ≡ option_and_then (λ t. terminal_op t to.op) (child_named to.object ts)
child_meant Empty to = refl
child_meant (With first rest) to =
    child_then (same_name (own_of first).name to.object) to.op first (child_op rest to) (child_named to.object rest) (child_meant rest to)

-- what links give by the places of children is what they mean
links_meant : (ts : List Tree) (places : Places) (children : Trees) (o : Option OpName) → AreChildren ts places children
    → option_and_then (λ to. meaning_at ts places to.object to.op) o ≡ option_and_then (child_op children) o
links_meant ts places children o are =
    then_same (λ to. meaning_at ts places to.object to.op) (child_op children)
    (λ to. ap (option_and_then (λ t. terminal_op t to.op))
    (found_tree ts (place_in places to.object) (child_named to.object children) (are to.object)) ∙ sym (child_meant children to)) o

-- one place more
push_keeps : (ts : List Tree) (t : Tree) → Keeps ts (ts ++ t ∷ [])
push_keeps [] t p u e = absurd (cc)
push_keeps (x ∷ xs) t zero u e = e
push_keeps (x ∷ xs) t (suc p) u e = push_keeps xs t p u e

push_at : (ts : List Tree) (t : Tree) → slice_get (ts ++ t ∷ []) (length ts) ≡ Some t
push_at [] t = refl
push_at (x ∷ xs) t = push_at xs t

-- one object more
pushed_trees : (n : nodes.Node) (mid new : List Scope) (s : Scope) → s.node.now ≡ n → new ≡ mid ++ s ∷ [] → scope_trees new ≡ scope_trees mid
    ++ tree_of n ∷ []
pushed_trees n mid new s same is =
    ap scope_trees is ∙ map-append (λ r. tree_of r.node.now) mid (s ∷ []) ∙ ap (λ m. scope_trees mid ++ tree_of m ∷ []) same

pushed_keeps : (old mid new : List Tree) (t : Tree) → Keeps old mid → new ≡ mid ++ t ∷ [] → Keeps old new
pushed_keeps old mid new t keeps is p u e =
    let P : List Tree → Type 0 = λ ts. slice_get ts p ≡ Some u in
    subst P (sym is) (push_keeps mid t p u (keeps p u e))

pub object_kept : (n : nodes.Node) (old mid new : List Scope) (s : Scope) → s.node.now ≡ n → new ≡ mid ++ s ∷ []
    → Keeps (scope_trees old) (scope_trees mid) → Keeps (scope_trees old) (scope_trees new)
object_kept n old mid new s same is keeps =
    pushed_keeps (scope_trees old) (scope_trees mid) (scope_trees new) (tree_of n) keeps (pushed_trees n mid new s same is)

pub object_placed : (n : nodes.Node) (mid new : List Scope) (s : Scope) (p : ℕ) → s.node.now ≡ n → new ≡ mid ++ s ∷ [] → p ≡ length mid
    → slice_get (scope_trees new) p ≡ Some (tree_of n)
object_placed n mid new s p same is at =
    ap (λ ts. slice_get ts p) (pushed_trees n mid new s same is)
    ∙ ap (slice_get (scope_trees mid ++ tree_of n ∷ [])) (at ∙ sym (length-map mid (λ r. tree_of r.node.now)))
    ∙ push_at (scope_trees mid) (tree_of n)

first_if : (b : Bool) (t : Tree) (inner found : Option Tree) → (if b then Some t else first_of inner found)
    ≡ first_of (if b then Some t else inner) found
first_if true t inner found = refl
first_if false t inner found = refl

covers_whole : (old mid new : List Tree) (initial before after : Places) (own : Object) (kids : Trees) (p : ℕ) → Keeps mid new → slice_get new p
    ≡ Some (Node own kids)
    → Covers (λ n. inner_named n kids) old initial mid before
    → ((n : Name) → place_in after n ≡ cond (same_name own.name n) (Some p) (place_in before n))
    → Covers (λ n. tree_named n (Node own kids)) old initial new after
covers_whole old mid new initial before after own kids p keeps at was made n found f =
    let b : Bool = same_name own.name n in
    let t : Tree = Node own kids in
    let P : Option ℕ → Type 0 = λ o. Finds new o (first_of (tree_named n t) found) in
    let Q : Option Tree → Type 0 = λ u. Finds new (cond b (Some p) (place_in before n)) u in
    subst P (sym (made n)) (subst Q (first_if b t (inner_named n kids) found)
    (found_or new b p t (place_in before n) (first_of (inner_named n kids) found) at
    (found_later mid new (place_in before n) (first_of (inner_named n kids) found) keeps (was n found f))))

-- an object with those inside it
inner_node : (n : nodes.Node) → inner_of (tree_of n) ≡ trees_of (map tree_of (out-Node n).children.items)
inner_node n = ap inner_of (fold_out-Node Tree node_layer n)

links_node : (n : nodes.Node) → (own_of (tree_of n)).links ≡ (out-Node n).links.items
links_node n = ap (λ t. (own_of t).links) (fold_out-Node Tree node_layer n)

name_node : (n : nodes.Node) → (own_of (tree_of n)).name ≡ (out-Node n).name
name_node n = ap (λ t. (own_of t).name) (fold_out-Node Tree node_layer n)

-- what its links give is what they mean
by_inner : (t : Tree) (op : Name) → by_links t op ≡ option_and_then (child_op (inner_of t)) (link_for op (own_of t).links)
by_inner (Node own children) op = refl

pub scope_right : (n : nodes.Node) (ts : List Tree) (children : Places) (given : Name → Option OpName) (links : List Link) → links
    ≡ (out-Node n).links.items
    → AreChildren ts children (inner_of (tree_of n))
    → ((op : Name) → given op ≡ option_and_then (λ to. meaning_at ts children to.object to.op) (link_for op links))
    → (op : Name) → given op ≡ by_links (tree_of n) op
scope_right n ts children given links same are is op =
    is op ∙ links_meant ts children (inner_of (tree_of n)) (link_for op links) are
    ∙ ap (λ ls. option_and_then (child_op (inner_of (tree_of n))) (link_for op ls)) (same ∙ sym (links_node n))
    ∙ sym (by_inner (tree_of n) op)

covers_tree : (t : Tree) (old mid new : List Tree) (initial before after : Places) (p : ℕ) → Keeps mid new → slice_get new p ≡ Some t
    → Covers (λ n. inner_named n (inner_of t)) old initial mid before
    → ((n : Name) → place_in after n ≡ cond (same_name (own_of t).name n) (Some p) (place_in before n))
    → Covers (λ n. tree_named n t) old initial new after
covers_tree (Node own children) old mid new initial before after p keeps at was made =
    covers_whole old mid new initial before after own children p keeps at was made

pub object_named : (n : nodes.Node) (old mid new : List Scope) (s : Scope) (initial before after : Places) (kids : List nodes.Node)
    (name : Name) (p : ℕ)
    → s.node.now ≡ n → new ≡ mid ++ s ∷ [] → p ≡ length mid → kids ≡ (out-Node n).children.items → name ≡ (out-Node n).name
    → Covers (λ m. inner_named m (trees_of (map tree_of kids))) (scope_trees old) initial (scope_trees mid) before
    → ((m : Name) → place_in after m ≡ cond (same_name name m) (Some p) (place_in before m))
    → Covers (λ m. tree_named m (tree_of n)) (scope_trees old) initial (scope_trees new) after
object_named n old mid new s initial before after kids name p same is at inside named was made =
    let P : Trees → Type 0 = λ us. Covers (λ m. inner_named m us) (scope_trees old) initial (scope_trees mid) before in
    covers_tree (tree_of n) (scope_trees old) (scope_trees mid) (scope_trees new) initial before after p
    (pushed_keeps (scope_trees mid) (scope_trees mid) (scope_trees new) (tree_of n) (λ q u e. e) (pushed_trees n mid new s same is))
    (object_placed n mid new s p same is at)
    (subst P (ap (λ ns. trees_of (map tree_of ns)) inside ∙ sym (inner_node n)) was)
    (λ m. made m ∙ ap (λ k. cond (same_name k m) (Some p) (place_in before m)) (named ∙ sym (name_node n)))

-- a table of the names of a whole design
first_none : (a : Option Tree) → first_of a None ≡ a
first_none None = refl
first_none (Some t) = refl

none_found : (ts : List Tree) (o : Option ℕ) → o ≡ None → Finds ts o None
none_found ts o e = let P : Option ℕ → Type 0 = λ q. Finds ts q None in subst P (sym e) tt

pub names_whole : (old new : List Tree) (before after : Places) (t : Tree) → ((n : Name) → place_in before n ≡ None)
    → Covers (λ n. tree_named n t) old before new after → AreNamed new after t
names_whole old new before after t none covers object op =
    let P : Option Tree → Type 0 = λ u. Finds new (place_in after object) u in
    ap (option_and_then (λ u. terminal_op u op)) (found_tree new (place_in after object) (tree_named object t)
    (subst P (first_none (tree_named object t)) (covers object None (none_found old (place_in before object) (none object)))))

-- what a name among objects leads to is what it means
pub resolved : (ts : List Tree) (names : Places) (x : Design) (name : OpName) (o : Option OpName) → AreNamed ts names x.root → o
    ≡ meaning_at ts names name.object name.op
    → unwrap_or o name ≡ resolve x name
resolved ts names x name o named is = ap (λ z. unwrap_or z name) (is ∙ named name.object name.op)
