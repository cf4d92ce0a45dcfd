use Rattle.std.proofs.Common.{◌≡◌, map, take}
use Rattle.seq_tree.specs.Trees.{operation_of}
use Rattle.ada_tree.specs.Bodies.{op_body}
use Rattle.ada_rules.specs.Parts.{body_of}
use Rattle.ada_rules.proofs.parts.op_bodies.Given as goal

-- the bodies so far are those of the operations so far
abbrev pub invariant-ops : goal.invariant-ops
invariant-ops l = map body_of l.bodies.items ≡ map op_body (map operation_of (take l.op-index l.ops))
