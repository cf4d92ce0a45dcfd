-- What the objects of a design stand for as they are walked: each with its parent, the children of its parent, and its own.
-- They go in flattened order.
use Rattle.std.specs.Prelude.{List, [], ◌∷◌, map, Option, Some, None, option_map}
use Rattle.std.specs.Borrow.{Bor}
use Rattle.ods_tree.specs.Designs as designs
use Rattle.ods_tree.specs.Designs.{Object, Tree}
use Rattle.ods_tree.specs.Trees.{tree_of}
use Rattle.ods_tree.specs.Walk as walk
use Rattle.ods_tree.specs.Walk.{own_of, roots}
use Rattle.ods_tree.specs.declared.design.Node.{Node}
use Rattle.ods_index.specs.declared.walk.Standing.{Standing}

-- an object by itself
abbrev pub object_of : Node → Object
object_of n = own_of (tree_of n)

-- the objects at the roots of those inside an object
abbrev pub inside : Tree → List Object
inside (designs.Node own children) = roots children

-- the object in which an object stands, where it stands in one
abbrev pub parent_of : Option (Bor Node) → Option Object
parent_of parent = option_map (λ n. object_of n.now) parent

-- the children of the parent of an object; the root is beside itself
abbrev pub siblings_of : Object → Option (Bor (List Node)) → List Object
siblings_of own None = own ∷ []
siblings_of own (Some nodes) = map object_of nodes.now

-- an object with those round it
abbrev pub standing_of : Standing → walk.Standing
standing_of s = record {
  own = object_of s.node.now;
  parent = parent_of s.parent;
  siblings = siblings_of (object_of s.node.now) s.siblings;
  children = inside (tree_of s.node.now);
}
