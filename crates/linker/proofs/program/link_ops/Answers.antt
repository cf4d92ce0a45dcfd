use Rattle.std.proofs.Common.{map}
use Rattle.linker.specs.Callees.{body_of}
use Rattle.linker.specs.Programs.{op_part}
use Rattle.linker.specs.Standing.{lists_of}
use Rattle.linker.specs.declared.code.Ins.TheVariants as ins
use Rattle.linker.proofs.Parting.{parts_all, parts_next, parts_end}
use Rattle.linker.proofs.program.link_ops.Goals as goal

pub ops-init : goal.ops-init
ops-init g c =
    rw c.new-starts.ensures.items
    (parts_all (g.C.Calls.leads c.args.calls.now) ins.Return (lists_of c.args.code.now) (map op_part (map body_of c.args.bodies.now)))

pub ops-preserved : goal.ops-preserved
ops-preserved g c =
    parts_next (g.C.Calls.leads c.args.calls.now) ins.Return (lists_of c.args.code.now) (lists_of c.ops.code) _ c.args.bodies.now c.ops.at
    c.index-bodies-at.result c.ops.starts.items _ c.in_ok-start.start c.ops-test.true c.index-bodies-at.is c.ops.invariant c.in_ok-start.ensures
    c.in_ok-push.ensures.items

pub returns : goal.returns
returns g c =
    parts_end (g.C.Calls.leads c.args.calls.now) ins.Return (lists_of c.args.code.now) (lists_of c.ops.code) c.args.bodies.now c.ops.at
    c.ops.starts.items c.ops-test.false c.ops.invariant
