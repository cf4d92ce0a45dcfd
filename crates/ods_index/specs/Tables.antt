-- The names by which operations and objects are found.
use Rattle.seq_tree.specs.Names.{Name}
use Rattle.ods_tree.specs.declared.design.Provided.{Provided}
use Rattle.ods_index.specs.declared.walk.Standing.{Standing}
use Rattle.ods_index.specs.Walking.{object_of}

-- the name of an operation, and of an object
abbrev pub op_name : Provided → Name
op_name p = p.sig.name

abbrev pub object_name : Standing → Name
object_name s = (object_of s.node.now).name
