-- Operations as the code keeps them: by the names that they are borrowed from.
-- Of an object with children its links say what each of its operations means.
use Rattle.std.specs.Prelude.{Option, option_map, option_and_then}
use Rattle.seq_tree.specs.Names.{Name}
use Rattle.seq_tree.specs.declared.tree.OpName.{OpName}
use Rattle.name_sets.specs.Tables.{named}
use Rattle.name_sets.specs.declared.name_table.NameTable.{NameTable}
use Rattle.seq_cost.specs.declared.written.Call.{Call}
use Rattle.seq_cost.specs.Different.{call_of}
use Rattle.ods_tree.specs.Designs.{Tree, Node}
use Rattle.ods_tree.specs.Links.{child_op, link_for}

-- what an operation of a tree's root stands for by its links
abbrev pub by_links : Tree → Name → Option OpName
by_links (Node own children) op = option_and_then (child_op children) (link_for op own.links)

-- the terminal operation that is kept for an operation
abbrev pub meaning_in : NameTable (Option Call) → Name → Option OpName
meaning_in t op = option_and_then (option_map call_of) (named t op)
