use Rattle.std.proofs.Common.{arith, ◌<◌}
use Rattle.ceil_runtime.proofs.Aheads.{wake-first, wake-most, wake-none}
use Rattle.ceil_runtime.proofs.processor.until_wake.Goals as goal

pub returns-in-Some-clause-wake : goal.returns-in-Some-clause-wake
returns-in-Some-clause-wake c =
    let later : c.args.time < c.in-Some.wake
    = wake-first c.args.time c.args.links.now.asleep c.in-Some.wake c.requires.later c.in-Some.ensures.wake in
    wake-most c.args.time c.min.result c.args.links.now.asleep c.in-Some.wake c.in-Some.ensures.sound.by_time c.in-Some.ensures.wake (omega arith)

pub returns-in-None-clause-wake : goal.returns-in-None-clause-wake
returns-in-None-clause-wake c = wake-none _ c.args.links.now.asleep c.in-None.ensures.wake
