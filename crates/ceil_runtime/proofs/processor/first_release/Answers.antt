use Rattle.std.proofs.Common.{◌≤◌, arith}
use Rattle.ceil_runtime.proofs.Aheads.{wake-none}
use Rattle.ceil_runtime.proofs.Alone.{wake-from}
use Rattle.ceil_runtime.proofs.processor.first_release.Goals as goal

pub returns-in-Some-clause-wake : goal.returns-in-Some-clause-wake
returns-in-Some-clause-wake c =
    wake-from c.in-Some.wake c.min.result c.args.links.now.asleep c.in-Some.ensures.sound.by_time c.in-Some.ensures.wake
    (omega (arith, c.min.ensures))

pub returns-in-None-clause-wake : goal.returns-in-None-clause-wake
returns-in-None-clause-wake c = wake-none (λ e. c.args.until ≤ e.1) c.args.links.now.asleep c.in-None.ensures.wake
