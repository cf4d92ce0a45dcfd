-- The operations that may be called: a name, and what a call runs.
-- Plain procedures run at the priority of their callers, the others at a ceiling.
use Rattle.std.specs.Prelude.{List, map}
use Rattle.seq_tree.specs.Names.{Name}
use Rattle.seq_tree.specs.Statements.{Statements}
use Rattle.seq_tree.specs.Operations.{Signature, Operation}
use Rattle.seq_tree.specs.Trees.{block_of}
use Rattle.seq_tree.specs.declared.tree.OpName.{OpName}
use Rattle.ods_tree.specs.Flats.{Flat}
use Rattle.ods_tree.specs.Services.{Sort, Service, flat_services}
use Rattle.ods_tree.specs.Services as sort
use Rattle.call_graph.specs.declared.services.Body.{Body}
use Rattle.call_graph.specs.declared.services.Body.TheVariants as body
use Rattle.call_graph.specs.declared.services.Served.{Served}

-- what a call runs
pub data Work : Type 0 where
  Plain : (block : Statements) → Work
  Protected : (block : Statements) → Work
  Asked : Work

-- an operation that may be called
pub record Entry : Type 0 where
  pub name : OpName
  pub work : Work

-- an operation of a passive object, one of a protected object, and a request
abbrev pub plain_entry : Name → Operation → Entry
plain_entry object o = record { name = record { object = object; op = o.sig.name }; work = Plain o.block }

abbrev pub protected_entry : Name → Operation → Entry
protected_entry object o = record { name = record { object = object; op = o.sig.name }; work = Protected o.block }

abbrev pub request_entry : Name → Signature → Entry
request_entry object sig = record { name = record { object = object; op = sig.name }; work = Asked }

-- an operation of a flat design
abbrev pub entry_by : Name → Sort → Operation → Entry
entry_by object sort.Plain o = plain_entry object o
entry_by object sort.Protected o = protected_entry object o
entry_by object sort.Request o = request_entry object o.sig

abbrev pub entry_of : Service → Entry
entry_of s = entry_by s.object s.sort s.op

-- all of them
abbrev pub entries : Flat → List Entry
entries f = map entry_of (flat_services f)

-- what the code keeps of one
abbrev pub work_of : Body → Work
work_of (body.Plain block) = Plain (block_of block.now)
work_of (body.Protected block) = Protected (block_of block.now)
work_of body.Asked = Asked

abbrev pub entry_at : Served → Entry
entry_at s = record { name = record { object = s.object.now; op = s.op.now }; work = work_of s.body }
