use Rattle.std.proofs.Common.{◌<◌, length, arith}
use Rattle.ada_rules.proofs.NameSteps.{left_one}
use Rattle.ada_rules.proofs.clashes.leave.Goals as goal

pub returns : goal.returns
returns c =
    left_one c.args.inside.now.items c.pop.new.self.items c.pop.result c.pop.ensures.items
    (λ (h : 0 < length c.args.inside.now.items). c.pop.ensures.variant.1 (omega (arith, h, c.args.inside.now.ok.0)))
