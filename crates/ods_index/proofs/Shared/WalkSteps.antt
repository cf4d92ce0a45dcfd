-- The objects inside an object, and how an object opens into itself and those inside it.
use Rattle.std.proofs.Common.{◌≡◌, ◌++◌, ℕ, ◌≤◌, List, [], ◌∷◌, map, drop, length, Option, Some, option_map, refl, ap, sym, ◌∙◌, append_assoc}
use Rattle.std.proofs.lemmas.List.{append-nil, map-append}
use Rattle.std.proofs.Math.ListN.{drop_of_length-le}
use Rattle.seq_tree.specs.Trees.{block_of}
use Rattle.ods_tree.specs.Designs.{Object, Tree, Node}
use Rattle.ods_tree.specs.Trees.{provided_of, body_of, trees_of, node_layer, tree_of}
use Rattle.ods_tree.specs.Walk as walk
use Rattle.ods_tree.specs.Walk.{own_of, roots, standings, inner_standings}
use Rattle.ods_tree.specs.declared.design.Node as nodes
use Rattle.ods_tree.specs.declared.design.Node.{out-Node, fold_out-Node}
use Rattle.ods_index.specs.Walking.{object_of, inside, parent_of, siblings_of, standing_of}
use Rattle.ods_index.specs.declared.walk.Standing.{Standing}

-- the objects at the roots of trees are those of their nodes
pub roots_of_nodes : (ns : List nodes.Node) → roots (trees_of (map tree_of ns)) ≡ map object_of ns
roots_of_nodes [] = refl
roots_of_nodes (n ∷ ns) = ap (λ os. object_of n ∷ os) (roots_of_nodes ns)

-- the objects of a tree, by the nodes of its children
standings_by : (t : Tree) (own : Object) (kids : List nodes.Node) (p : Option Object) (s : List Object) → t ≡ Node own (trees_of (map tree_of kids)) →
    standings p s t ≡ record { own = own_of t; parent = p; siblings = s; children = inside t }
    ∷ inner_standings (Some (own_of t)) (map object_of kids) (trees_of (map tree_of kids))
standings_by t own kids p s e =
    rw e (ap (λ os. record { own = own; parent = p; siblings = s; children = roots (trees_of (map tree_of kids)) }
    ∷ inner_standings (Some own) os (trees_of (map tree_of kids))) (roots_of_nodes kids))

-- the objects of a node, by those of its children
pub standings_of_node : (n : nodes.Node) (p : Option Object) (s : List Object) →
    standings p s (tree_of n) ≡ record { own = object_of n; parent = p; siblings = s; children = inside (tree_of n) }
    ∷ inner_standings (Some (object_of n)) (map object_of (out-Node n).children.items) (trees_of (map tree_of (out-Node n).children.items))
standings_of_node n p s = standings_by (tree_of n) _ (out-Node n).children.items p s (fold_out-Node Tree node_layer n)

-- an object with no fields hidden, and those inside it
pub own_fields : (n : nodes.Node) → object_of n ≡ record {
  name = (out-Node n).name;
  kind = (out-Node n).kind;
  attrs = (out-Node n).attrs.items;
  provides = map provided_of (out-Node n).provides.items;
  needs = (out-Node n).needs.items;
  vars = (out-Node n).vars.items;
  bodies = map body_of (out-Node n).bodies.items;
  thread = option_map block_of (out-Node n).thread;
  links = (out-Node n).links.items;
}
own_fields n = ap own_of (fold_out-Node Tree node_layer n)

pub inside_fields : (n : nodes.Node) → inside (tree_of n) ≡ map object_of (out-Node n).children.items
inside_fields n = ap inside (fold_out-Node Tree node_layer n) ∙ roots_of_nodes (out-Node n).children.items

pub ruleset node_steps = (own_fields, inside_fields)

-- what was there, then an object with all those inside it
pub walked : (s : Standing) (old one new : List Standing) (kids : List nodes.Node) (i : ℕ) →
    one ≡ old ++ s ∷ [] → kids ≡ (out-Node s.node.now).children.items → length kids ≤ i →
    map standing_of new ++ inner_standings (Some (object_of s.node.now)) (map object_of kids) (trees_of (map tree_of (drop i kids)))
    ≡ map standing_of one ++ inner_standings (Some (object_of s.node.now)) (map object_of kids) (trees_of (map tree_of kids)) →
    map standing_of new ≡ map standing_of old ++ standings (parent_of s.parent) (siblings_of (object_of s.node.now) s.siblings) (tree_of s.node.now)
walked s old one new kids i pushed here done e =
    let inner : List nodes.Node → List nodes.Node
    → List walk.Standing = λ ks ls. inner_standings (Some (object_of s.node.now)) (map object_of ks) (trees_of (map tree_of ls)) in
    sym (append-nil (map standing_of new)) ∙ ap (λ ks. map standing_of new ++ inner kids ks) (sym (drop_of_length-le kids done))
    ∙ e ∙ ap (λ ss. ss ++ inner kids kids) (ap (map standing_of) pushed ∙ map-append standing_of old (s ∷ []))
    ∙ append_assoc (map standing_of old) (standing_of s ∷ []) (inner kids kids)
    ∙ ap (λ ks. map standing_of old ++ standing_of s ∷ inner ks ks) here
    ∙ ap (λ os. map standing_of old ++ os) (sym (standings_of_node s.node.now (parent_of s.parent) (siblings_of (object_of s.node.now) s.siblings)))
