use Rattle.std.proofs.Common.{◌-◌, length, map, drop}
use Rattle.linker.specs.Callees.{body_of}
use Rattle.linker.specs.Parts.{PartsLeft}
use Rattle.linker.specs.Programs.{op_part}
use Rattle.linker.specs.Standing.{lists_of}
use Rattle.linker.specs.declared.code.Ins.TheVariants as ins
use Rattle.linker.proofs.program.link_ops.Given as goal

-- the bodies that are left are still to be linked
abbrev pub invariant-ops : goal.invariant-ops
invariant-ops g l = PartsLeft (g.C.Calls.leads l.calls) ins.Return (lists_of l.fn.code) (lists_of l.code) (map op_part (map body_of l.bodies))
    (map op_part (map body_of (drop l.at l.bodies))) l.starts.items

abbrev pub decreases-ops : goal.decreases-ops
decreases-ops g l = length l.bodies - l.at
