-- The operations that are known in the bodies of an object, and what is told of these.
-- Visibility is that of HRT-HOOD's REQUIRES (Burns and Wellings 1995).
use Rattle.std.specs.Prelude.{List, ◌++◌, filter_map, Option, option_map, option_to_list}
use Rattle.seq_tree.specs.Names.{Name}
use Rattle.seq_tree.specs.Statements.{Statements}
use Rattle.seq_tree.specs.Operations.{Offer}
use Rattle.seq_tree.specs.Faults.{Scope, block_fault}
use Rattle.seq_tree.specs.declared.tree.OpName.{OpName}
use Rattle.ods_tree.specs.Designs.{Object, Design}
use Rattle.design_rules.specs.Broken.{Broken, V13}
use Rattle.design_rules.specs.Bodies.{body_fault, thread_fault}
use Rattle.design_rules.specs.Lookups.{operation_named}

-- an operation that an object requires, where it is there
abbrev pub offer_by : Design → OpName → Option Offer
offer_by x n = option_map (λ p. record { object = n.object; sig = p.sig }) (operation_named x n)

-- what is told of a part of an object in which this is known
abbrev pub part_fault : Name → Option Name → Scope → Statements → Option Broken
part_fault object part c b = option_map (V13 object part) (block_fault c b)

-- what is told of the bodies and the thread of an object
abbrev pub faults_in : Design → Object → List Broken
faults_in x o = filter_map (body_fault x o) o.bodies ++ filter_map (thread_fault x o) (option_to_list o.thread)
