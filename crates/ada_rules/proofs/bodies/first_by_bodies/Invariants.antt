use Rattle.ada_tree.specs.Trees.{program_of, unit_of}
use Rattle.std.proofs.Common.{map}
use Rattle.ada_rules.specs.FaultsTold.{HasFault}
use Rattle.ada_rules.specs.Firsts.{NoneBefore}
use Rattle.ada_rules.proofs.bodies.first_by_bodies.Given as goal

-- no unit before has a fault
abbrev pub invariant-units : goal.invariant-units
invariant-units l = NoneBefore (λ place u. HasFault (program_of l.program) u) (map unit_of l.list) l.place
