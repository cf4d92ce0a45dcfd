-- Small parts of designs for examples: a call of q.set, a protected object and a thread that make it, a sporadic object, and a design.
use Rattle.std.specs.Prelude.{List, [], ◌∷◌, Some, None, codes}
use Rattle.seq_tree.specs.Statements.{Statements, Call, End, Then}
use Rattle.seq_tree.specs.declared.tree.Costs.{Costs}
use Rattle.seq_tree.specs.declared.tree.OpName.{OpName}
use Rattle.ods_tree.specs.Designs.{Body, Design, Empty, Node, Object}
use Rattle.ods_tree.specs.declared.design.AttrKey.TheVariants.{ArrivalJitter, Period}
use Rattle.ods_tree.specs.declared.design.Kind.TheVariants.{Cyclic, Protected, Sporadic}

abbrev pub put : OpName
put = record { object = codes "k"; op = codes "put" }

abbrev pub set : OpName
set = record { object = codes "q"; op = codes "set" }

abbrev pub free : Costs
free = record { assign = 1; test = 1; turn = 1; call = 1; nothing = 1; put = 1; finish = 1 }

abbrev pub calls_set : Statements
calls_set = Then (Call (codes "q") (codes "set") []) End

abbrev pub put_body : Body
put_body = record { name = codes "put"; locals = []; block = calls_set }

-- a protected object whose operation calls q.set, where it requires these operations
abbrev pub keeper : List OpName → Object
keeper needs = record {
  name = codes "k";
  kind = Protected;
  attrs = [];
  provides = [];
  needs = needs;
  vars = [];
  bodies = put_body ∷ [];
  thread = None;
  links = [];
}

-- a sporadic object that is requested from outside
abbrev pub outer : Object
outer = record {
  name = codes "q";
  kind = Sporadic;
  attrs = record { key = ArrivalJitter; value = 0; unit = None } ∷ [];
  provides = [];
  needs = [];
  vars = [];
  bodies = [];
  thread = None;
  links = [];
}

-- a thread that calls q.set, where it requires these operations
abbrev pub caller : List OpName → Object
caller needs = record {
  name = codes "a";
  kind = Cyclic;
  attrs = record { key = Period; value = 5; unit = None } ∷ [];
  provides = [];
  needs = needs;
  vars = [];
  bodies = record { name = codes "do"; locals = []; block = calls_set } ∷ [];
  thread = Some calls_set;
  links = [];
}

-- a design of one object
abbrev pub small : Object → Design
small o = record { name = codes "d"; version = None; costs = free; root = Node o Empty }
