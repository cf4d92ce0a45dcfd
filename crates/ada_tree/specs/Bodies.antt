-- The bodies of a unit, what can be called, and what is known inside a body.
-- Visibility is that of ISO/IEC 8652:2012, 8.3, cut to this profile.
use Rattle.std.specs.Prelude.{false, List, [], ◌∷◌, ◌++◌, map, flat_map, Option, None}
use Rattle.seq_tree.specs.Statements.{Statements}
use Rattle.seq_tree.specs.Operations.{Signature, Operation, Offer, out_names}
use Rattle.seq_tree.specs.Faults.{Scope, BodyFault, or_else, block_fault}
use Rattle.seq_tree.specs.declared.tree.Param.{Param}
use Rattle.seq_tree.specs.declared.tree.Datum.{Datum}
use Rattle.ada_tree.specs.Programs.{Form, Unit, Program, Passive, Shared, Cyclic, Sporadic}

-- a body: its parameters, its locals and its block
pub record Body : Type 0 where
  pub params : List Param
  pub locals : List Datum
  pub block : Statements

-- the body of an operation
abbrev pub op_body : Operation → Body
op_body o = record { params = o.sig.params; locals = o.locals; block = o.block }

-- the bodies of a unit; a task gets the parameter of its request
abbrev pub bodies : Form → List Body
bodies (Passive ops) = map op_body ops
bodies (Shared ceiling vars ops) = map op_body ops
bodies (Cyclic priority offset period vars block) = record { params = []; locals = []; block = block } ∷ []
bodies (Sporadic priority ceiling op separation jitter external vars block) = record { params = op.params; locals = []; block = block } ∷ []

-- the data of a unit
abbrev pub data_of : Form → List Datum
data_of (Passive ops) = []
data_of (Shared ceiling vars ops) = vars
data_of (Cyclic priority offset period vars block) = vars
data_of (Sporadic priority ceiling op separation jitter external vars block) = vars

-- the operations of a unit that can be called, by their heads
abbrev pub heads : Form → List Signature
heads (Passive ops) = map (λ o. o.sig) ops
heads (Shared ceiling vars ops) = map (λ o. o.sig) ops
heads (Cyclic priority offset period vars block) = []
heads (Sporadic priority ceiling op separation jitter external vars block) = op ∷ []

-- all operations of a program that can be called
abbrev pub offers : Program → List Offer
offers p = flat_map (λ u. map (λ h. record { object = u.name; sig = h }) (heads u.form)) p.units

-- what is known at the beginning of a body
abbrev pub scope : Program → Form → Body → Scope
scope p form b = record {
  reads = map (λ d. d.name) (data_of form) ++ (map (λ q. q.name) b.params ++ map (λ d. d.name) b.locals);
  writes = map (λ d. d.name) (data_of form) ++ (out_names b.params ++ map (λ d. d.name) b.locals);
  calls = offers p;
  in_loop = false;
}

-- the first fault of the bodies of a unit
abbrev pub bodies_fault : Program → Form → List Body → Option BodyFault
bodies_fault p form [] = None
bodies_fault p form (b ∷ bs) = or_else (block_fault (scope p form b) b.block) (bodies_fault p form bs)

-- the first fault of a unit
abbrev pub unit_fault : Program → Unit → Option BodyFault
unit_fault p u = bodies_fault p u.form (bodies u.form)
