-- Objects that are made hard in their place: their kinds and attributes first, then their operations and the objects inside them.
use Rattle.std.proofs.Common.{◌≡◌, Bool, true, false, List, [], ◌∷◌, map, length, option_map, Vec, refl, sym, ap, ap₂, ◌∙◌, arith}
use Rattle.std.specs.Prelude.{if◌then◌else◌}
use Rattle.std.specs.declared.alloc.Global.{Global}
use Rattle.std.proofs.lemmas.List.{length-map, with_items_is}
use Rattle.std.specs.Vec.{with_items}
use Rattle.seq_tree.specs.Trees.{block_of}
use Rattle.ods_tree.specs.Designs.{Object, Tree, Trees, Node, Empty, With}
use Rattle.ods_tree.specs.Trees.{provided_of, body_of, trees_of, node_layer, tree_of}
use Rattle.ods_tree.specs.Walk.{is_empty}
use Rattle.ods_tree.specs.declared.design.Kind.TheVariants as kind
use Rattle.ods_tree.specs.declared.design.Provided as provided
use Rattle.ods_tree.specs.declared.design.Node as nodes
use Rattle.ods_tree.specs.declared.design.Node.{Node-F, out-Node, roll-Node, fold-roll-Node, fold_out-Node}
use Rattle.ods_index.specs.Walking.{inside}
use Rattle.background_designs.specs.Clients.{is_client, is_server}
use Rattle.background_designs.specs.HardParts.{soft_operation, soft_object, hard_tree, hard_trees}
use Rattle.background.specs.Hardening.{client_attributes, retyped_object, retyped}

-- the operations of an object, and the objects inside it, made hard
abbrev made_hard : Tree → Tree
made_hard (Node own children) = Node (soft_object own) (hard_trees children)

-- behind its kind and attributes that makes an object hard
retyped-hard : (t : Tree) → made_hard (retyped t) ≡ hard_tree t
retyped-hard (Node own Empty) = by (is_client own) (is_server own)
  where
    by : (b c : Bool)
        → Node (soft_object (if b then record own { kind = kind.Cyclic; attrs = client_attributes }
        else (if c then record own { kind = kind.Protected } else own))) Empty
        ≡ Node (if b then record (soft_object own) { kind = kind.Cyclic; attrs = client_attributes }
        else (if c then record (soft_object own) { kind = kind.Protected } else soft_object own)) Empty
    by true c = refl
    by false true = refl
    by false false = refl
retyped-hard (Node own (With first rest)) = refl

-- what is written over all items of a list is all that it has
overwritten : {A : Type 0} (v : Vec A Global) (ws : List A) → length ws ≡ length v.items → (with_items v ws).items ≡ ws
overwritten v ws e = with_items_is v ws (omega (arith, e, v.ok.0))

same_length : {A B : Type 0} (g : A → B) (f : B → B) (xs ys : List A) → map g xs ≡ map f (map g ys) → length xs ≡ length ys
same_length g f xs ys e = sym (length-map xs g) ∙ ap length e ∙ length-map (map g ys) f ∙ length-map ys g

all-hard : (ts : List Tree) → trees_of (map hard_tree ts) ≡ hard_trees (trees_of ts)
all-hard [] = refl
all-hard (t ∷ ts) = ap (λ us. With (hard_tree t) us) (all-hard ts)

-- the tree of an object whose operations and children were made hard
hard-parts : (n : nodes.Node) (ps : List provided.Provided) (ks : List nodes.Node) →
    map provided_of ps ≡ map soft_operation (map provided_of (out-Node n).provides.items) →
    map tree_of ks ≡ map hard_tree (map tree_of (out-Node n).children.items) →
    tree_of (roll-Node (record (out-Node n) { provides = with_items (out-Node n).provides ps; children = with_items (out-Node n).children ks }))
    ≡ made_hard (tree_of n)
hard-parts n ps ks ops kids =
    let with_ops : List _ → Object = λ qs. record {
      name = (out-Node n).name;
      kind = (out-Node n).kind;
      attrs = (out-Node n).attrs.items;
      provides = qs;
      needs = (out-Node n).needs.items;
      vars = (out-Node n).vars.items;
      bodies = map body_of (out-Node n).bodies.items;
      thread = option_map block_of (out-Node n).thread;
      links = (out-Node n).links.items;
    } in
    let one : map provided_of (with_items (out-Node n).provides ps).items ≡ map soft_operation (map provided_of (out-Node n).provides.items) =
    ap (map provided_of) (overwritten (out-Node n).provides ps (same_length provided_of soft_operation ps (out-Node n).provides.items ops)) ∙ ops in
    let other : map tree_of (with_items (out-Node n).children ks).items ≡ map hard_tree (map tree_of (out-Node n).children.items) =
    ap (map tree_of) (overwritten (out-Node n).children ks (same_length tree_of hard_tree ks (out-Node n).children.items kids)) ∙ kids in
    fold-roll-Node Tree node_layer (record (out-Node n) {
      provides = with_items (out-Node n).provides ps;
      children = with_items
          (out-Node n).children ks;
    })
    ∙ ap (λ qs. Node (with_ops qs) (trees_of (map tree_of (with_items (out-Node n).children ks).items))) one
    ∙ ap (λ ts. Node (with_ops (map soft_operation (map provided_of (out-Node n).provides.items))) (trees_of ts)) other
    ∙ ap (λ us. Node (with_ops (map soft_operation (map provided_of (out-Node n).provides.items))) us) (all-hard (map tree_of
    (out-Node n).children.items))
    ∙ sym (ap made_hard (fold_out-Node Tree node_layer n))

-- the same where the operations were made so before the children of an object that has some
by-tree : (t : Tree) → is_empty (inside t) ≡ false → made_hard t ≡ hard_tree t
by-tree (Node own Empty) e = absurd (cc)
by-tree (Node own (With first rest)) e = refl

pub parent-hard : (n : nodes.Node) (ps : List provided.Provided) (ks : List nodes.Node) (m : Node-F nodes.Node) →
    is_empty (inside (tree_of n)) ≡ false → m ≡ record (out-Node n) { provides = with_items (out-Node n).provides ps } →
    map provided_of ps ≡ map soft_operation (map provided_of (out-Node n).provides.items) →
    map tree_of ks ≡ map hard_tree (map tree_of m.children.items) →
    tree_of (roll-Node (record m { children = with_items m.children ks })) ≡ hard_tree (tree_of n)
parent-hard n ps ks m some e ops kids =
    ap (λ k. tree_of (roll-Node (record k { children = with_items k.children ks }))) e
    ∙ hard-parts n ps ks ops (kids ∙ ap (λ k. map hard_tree (map tree_of k.children.items)) e)
    ∙ by-tree (tree_of n) some

-- the operations of an object that has its kind and no children
alone : (t : Tree) (own : Object) (ts : Trees) → is_empty (inside t) ≡ true → retyped t ≡ Node own ts → Node (soft_object own) ts ≡ hard_tree t
alone (Node o Empty) own ts e h =
    let same : own ≡ retyped_object o = cc in
    let none : ts ≡ Empty = cc in
    ap₂ (λ a b. Node (soft_object a) b) same none ∙ retyped-hard (Node o Empty)
alone (Node o (With first rest)) own ts e h = absurd (cc)

pub terminal-hard : (n : nodes.Node) (t : Tree) (ps : List provided.Provided) → is_empty (inside t) ≡ true → tree_of n ≡ retyped t →
    map provided_of ps ≡ map soft_operation (map provided_of (out-Node n).provides.items) →
    tree_of (roll-Node (record (out-Node n) { provides = with_items (out-Node n).provides ps })) ≡ hard_tree t
terminal-hard n t ps none typed ops =
    let ts : Trees = trees_of (map tree_of (out-Node n).children.items) in
    let own : Object = record {
      name = (out-Node n).name;
      kind = (out-Node n).kind;
      attrs = (out-Node n).attrs.items;
      provides = map provided_of (out-Node n).provides.items;
      needs = (out-Node n).needs.items;
      vars = (out-Node n).vars.items;
      bodies = map body_of (out-Node n).bodies.items;
      thread = option_map block_of (out-Node n).thread;
      links = (out-Node n).links.items;
    } in
    let opened : tree_of n ≡ Node own ts = fold_out-Node Tree node_layer n in
    let one : map provided_of (with_items (out-Node n).provides ps).items ≡ map soft_operation (map provided_of (out-Node n).provides.items) =
    ap (map provided_of) (overwritten (out-Node n).provides ps (same_length provided_of soft_operation ps (out-Node n).provides.items ops)) ∙ ops in
    fold-roll-Node Tree node_layer (record (out-Node n) { provides = with_items (out-Node n).provides ps })
    ∙ ap (λ qs. Node (record own { provides = qs }) ts) one
    ∙ alone t own ts none (sym typed ∙ opened)
