-- A list that is changed item by item, and an object whose attributes and children are.
use Rattle.std.proofs.Common.{◌≡◌, ℕ, zero, suc, ◌+◌, ◌<◌, List, [], ◌∷◌, ◌++◌, map, take, drop, length, option_map, Vec, refl, sym, ap, subst}
use Rattle.std.proofs.Common.{◌∙◌, arith}
use Rattle.std.specs.declared.alloc.Global.{Global}
use Rattle.std.proofs.Math.ListN.{get_or, set}
use Rattle.std.proofs.lemmas.List.{map-set, length-map, with_items_is}
use Rattle.std.specs.Vec.{with_items}
use Rattle.seq_tree.specs.Trees.{block_of}
use Rattle.ods_tree.specs.Designs.{Object, Tree, Node, With}
use Rattle.ods_tree.specs.Trees.{provided_of, body_of, trees_of, node_layer, tree_of}
use Rattle.ods_tree.specs.declared.design.Attr.{Attr}
use Rattle.ods_tree.specs.declared.design.Node as nodes
use Rattle.ods_tree.specs.declared.design.Node.{Node-F, out-Node, roll-Node, fold-roll-Node, fold_out-Node}
use Rattle.ods_forms.specs.Whole.{attribute_set, tree_set, trees_set}

-- the item at a place is as it was
unchanged_at : {A : Type 0} (f : A → A) (xs : List A) (i : ℕ) (d : A) → i < length xs → get_or (map f (take i xs) ++ drop i xs) i d ≡ get_or xs i d
unchanged_at f [] i d low = absurd (omega (arith, low))
unchanged_at f (x ∷ xs) zero d low = refl
unchanged_at f (x ∷ xs) (suc i) d low = unchanged_at f xs i d (omega (arith, low))

-- one item more is changed
changed_at : {A : Type 0} (f : A → A) (xs : List A) (i : ℕ) (d : A) → i < length xs →
    set (map f (take i xs) ++ drop i xs) i (f (get_or xs i d)) ≡ map f (take (suc i) xs) ++ drop (suc i) xs
changed_at f [] i d low = absurd (omega (arith, low))
changed_at f (x ∷ xs) zero d low = refl
changed_at f (x ∷ xs) (suc i) d low = ap (λ ys. f x ∷ ys) (changed_at f xs i d (omega (arith, low)))

one_on : (i : ℕ) → suc i ≡ i + 1
one_on i = omega arith

pub written : {A : Type 0} (f : A → A) (xs ys : List A) (i : ℕ) (d : A) → i < length xs → ys ≡ map f (take i xs) ++ drop i xs →
    set ys i (f (get_or ys i d)) ≡ map f (take (i + 1) xs) ++ drop (i + 1) xs
written f xs ys i d low e =
    ap (λ zs. set zs i (f (get_or zs i d))) e ∙ ap (λ x. set (map f (take i xs) ++ drop i xs) i (f x)) (unchanged_at f xs i d low)
    ∙ changed_at f xs i d low ∙ ap (λ k. map f (take k xs) ++ drop k xs) (one_on i)

seen_at : {A B : Type 0} (g : A → B) (xs : List A) (i : ℕ) (d : A) → g (get_or xs i d) ≡ get_or (map g xs) i (g d)
seen_at g [] i d = refl
seen_at g (x ∷ xs) zero d = refl
seen_at g (x ∷ xs) (suc i) d = seen_at g xs i d

-- the same of what is seen of the items
pub written_seen : {A B : Type 0} (g : A → B) (f : B → B) (xs ys : List A) (i : ℕ) (d new : A) → i < length xs →
    map g ys ≡ map f (take i (map g xs)) ++ drop i (map g xs) → g new ≡ f (g (get_or ys i d)) →
    map g (set ys i new) ≡ map f (take (i + 1) (map g xs)) ++ drop (i + 1) (map g xs)
written_seen g f xs ys i d new low e h =
    map-set g ys i new ∙ ap (set (map g ys) i) (h ∙ ap f (seen_at g ys i d))
    ∙ written f (map g xs) (map g ys) i (g d) (subst (λ n. i < n) (sym (length-map xs g)) low) e

pub ruleset set_steps = (written_seen)

set_trees : (tick : ℕ) (ts : List Tree) → trees_of (map (tree_set tick) ts) ≡ trees_set tick (trees_of ts)
set_trees tick [] = refl
set_trees tick (t ∷ ts) = ap (λ us. With (tree_set tick t) us) (set_trees tick ts)

-- what is written over all items of a list is all that it has
overwritten : {A : Type 0} (v : Vec A Global) (ws : List A) → length ws ≡ length v.items → (with_items v ws).items ≡ ws
overwritten v ws e = with_items_is v ws (omega (arith, e, v.ok.0))

same_length : {A B : Type 0} (g : A → B) (f : B → B) (xs ys : List A) → map g xs ≡ map f (map g ys) → length xs ≡ length ys
same_length g f xs ys e = sym (length-map xs g) ∙ ap length e ∙ length-map (map g ys) f ∙ length-map ys g

-- the tree of an object whose attributes and children are set
pub set_tree : (n : nodes.Node) (bs : List Attr) (ks : List nodes.Node) (tick : ℕ) →
    bs ≡ map (attribute_set tick) (out-Node n).attrs.items → map tree_of ks ≡ map (tree_set tick) (map tree_of (out-Node n).children.items) →
    tree_of (roll-Node (record (out-Node n) { attrs = with_items (out-Node n).attrs bs; children = with_items (out-Node n).children ks }))
    ≡ tree_set tick (tree_of n)
set_tree n bs ks tick attrs kids =
    let with_attrs : List Attr → Object = λ cs. record {
      name = (out-Node n).name;
      kind = (out-Node n).kind;
      attrs = cs;
      provides = map provided_of (out-Node n).provides.items;
      needs = (out-Node n).needs.items;
      vars = (out-Node n).vars.items;
      bodies = map body_of (out-Node n).bodies.items;
      thread = option_map block_of (out-Node n).thread;
      links = (out-Node n).links.items;
    } in
    let one : (with_items (out-Node n).attrs bs).items ≡ map (attribute_set tick) (out-Node n).attrs.items =
    overwritten (out-Node n).attrs bs (ap length attrs ∙ length-map (out-Node n).attrs.items (attribute_set tick)) ∙ attrs in
    let other : map tree_of (with_items (out-Node n).children ks).items ≡ map (tree_set tick) (map tree_of (out-Node n).children.items) =
    ap (map tree_of) (overwritten (out-Node n).children ks (same_length tree_of (tree_set tick) ks (out-Node n).children.items kids)) ∙ kids in
    fold-roll-Node Tree node_layer (record (out-Node n) { attrs = with_items (out-Node n).attrs bs; children = with_items (out-Node n).children ks })
    ∙ ap (λ cs. Node (with_attrs cs) (trees_of (map tree_of (with_items (out-Node n).children ks).items))) one
    ∙ ap (λ ts. Node (with_attrs (map (attribute_set tick) (out-Node n).attrs.items)) (trees_of ts)) other
    ∙ ap (λ us. Node (with_attrs (map (attribute_set tick) (out-Node n).attrs.items)) us) (set_trees tick (map tree_of (out-Node n).children.items))
    ∙ sym (ap (tree_set tick) (fold_out-Node Tree node_layer n))

-- the same where the attributes were set before the children
pub set_twice : (n : nodes.Node) (bs : List Attr) (ks : List nodes.Node) (tick : ℕ) (m : Node-F nodes.Node) →
    m ≡ record (out-Node n) { attrs = with_items (out-Node n).attrs bs } →
    bs ≡ map (attribute_set tick) (out-Node n).attrs.items → map tree_of ks ≡ map (tree_set tick) (map tree_of m.children.items) →
    tree_of (roll-Node (record m { children = with_items m.children ks })) ≡ tree_set tick (tree_of n)
set_twice n bs ks tick m e attrs kids =
    ap (λ k. tree_of (roll-Node (record k { children = with_items k.children ks }))) e
    ∙ set_tree n bs ks tick attrs (kids ∙ ap (λ k. map (tree_set tick) (map tree_of k.children.items)) e)
