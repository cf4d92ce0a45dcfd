-- What the objects that the code keeps stand for.
use Rattle.std.specs.Borrow.{Bor}
use Rattle.seq_tree.specs.Names.{Name}
use Rattle.ods_tree.specs.Designs.{Object}
use Rattle.ods_tree.specs.declared.design.Node.{Node}
use Rattle.ods_index.specs.Walking.{object_of}

-- an object by itself
abbrev pub node_object : Bor Node → Object
node_object n = object_of n.now

-- and its name
abbrev pub node_name : Bor Node → Name
node_name n = (object_of n.now).name
