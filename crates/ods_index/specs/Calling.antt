-- What the bodies of the operations of a design call, as their objects require it, links followed.
-- They stand in flattened order, and in each object in its own; objects with children have none.
use Rattle.std.specs.Prelude.{List, map, filter, flat_map}
use Rattle.std.specs.List.{list_any}
use Rattle.seq_tree.specs.Calls.{block_calls, same_op}
use Rattle.seq_tree.specs.Names.{Name}
use Rattle.seq_tree.specs.Statements.{Statements}
use Rattle.seq_tree.specs.Trees.{block_of}
use Rattle.seq_tree.specs.declared.tree.OpName.{OpName}
use Rattle.ods_tree.specs.Designs.{Body, Design, Object}
use Rattle.ods_tree.specs.Links.{resolve}
use Rattle.ods_tree.specs.Walk.{terminals}
use Rattle.ods_tree.specs.declared.design.Kind.{Kind}
use Rattle.ods_index.specs.declared.calls.OpCalls.{OpCalls}
use Rattle.seq_cost.specs.Different.{call_of}

-- the body of an operation, with the kind of its object, what that requires, and what of it the body calls
pub record Calls : Type 0 where
  pub kind : Kind
  pub name : OpName
  pub needs : List OpName
  pub block : Statements
  pub meant : List OpName

-- what a block calls of what is required, links followed: `meant_calls` of `Rings`, by what its object requires
abbrev pub meant_by : Design → List OpName → Statements → List OpName
meant_by x needs b = map (resolve x) (filter (λ c. list_any (same_op c) needs) (block_calls b))

-- a body of an object
abbrev pub body_calls : Design → Kind → Name → List OpName → Body → Calls
body_calls x kind object needs b = record {
  kind = kind;
  name = record { object = object; op = b.name };
  needs = needs;
  block = b.block;
  meant = meant_by x needs b.block;
}

-- those of an object
abbrev pub object_calls : Design → Object → List Calls
object_calls x o = map (body_calls x o.kind o.name o.needs) o.bodies

-- those of the objects of a design that have no children
abbrev pub design_calls : Design → List Calls
design_calls x = flat_map (λ s. object_calls x s.own) (terminals x)

-- one as the code keeps it
abbrev pub calls_of : OpCalls → Calls
calls_of c = record {
  kind = c.kind;
  name = record { object = c.object.now; op = c.op.now };
  needs = c.needs.value.ops.now;
  block = block_of c.block.now;
  meant = map call_of c.meant.items;
}
