-- The tree of an object that is put together in code, by its parts.
use Rattle.std.specs.Prelude.{◌≡◌, map, option_map}
use Rattle.seq_tree.specs.Trees.{block_of}
use Rattle.ods_tree.specs.Designs.{Tree, Node}
use Rattle.ods_tree.specs.Trees.{provided_of, body_of, trees_of, node_layer, tree_of}
use Rattle.ods_tree.specs.declared.design.Node.{Node-F, roll-Node, fold-roll-Node}

pub tree_of_roll : (x : Node-F _) → tree_of (roll-Node x) ≡ Node (record {
  name = x.name;
  kind = x.kind;
  attrs = x.attrs.items;
  provides = map provided_of x.provides.items;
  needs = x.needs.items;
  vars = x.vars.items;
  bodies = map body_of x.bodies.items;
  thread = option_map block_of x.thread;
  links = x.links.items;
}) (trees_of (map tree_of x.children.items))
tree_of_roll x = fold-roll-Node Tree node_layer x
