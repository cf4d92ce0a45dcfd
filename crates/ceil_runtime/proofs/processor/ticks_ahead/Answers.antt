use Rattle.ceil_runtime.proofs.Aheads.{each-fewer, fewer-arrival}
use Rattle.std.proofs.Common.{arith}
use Rattle.ceil_runtime.proofs.processor.ticks_ahead.Goals as goal

pub returns-clause-wake : goal.returns-clause-wake
returns-clause-wake c = each-fewer c.args.time _ c.until_wake.result c.args.links.now.asleep
    (omega (arith, c.until_arrival-most.ensures.most, c.until_effect.ensures.most)) c.until_wake.ensures.wake

pub returns-clause-arrival : goal.returns-clause-arrival
returns-clause-arrival c = fewer-arrival c.args.arrivals.now c.args.time _ c.until_arrival-most.result c.until_effect.ensures.most
    c.until_arrival-most.ensures.arrival
