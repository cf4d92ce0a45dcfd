use Rattle.std.proofs.Common.{◌≡◌, map, drop}
use Rattle.seq_check.specs.Views.{offers_of}
use Rattle.ada_rules.specs.FaultsTold.{bodies_fault_at}
use Rattle.ada_rules.specs.Parts.{body_of}
use Rattle.ada_rules.proofs.bodies.bodies_fault.Given as goal

-- it is up to the bodies that are left
abbrev pub invariant-bodies : goal.invariant-bodies
invariant-bodies l = bodies_fault_at (offers_of l.calls) l.shared.vars.now (map body_of (drop l.body-index l.bodies))
    ≡ bodies_fault_at (offers_of l.calls) l.shared.vars.now (map body_of l.bodies)
