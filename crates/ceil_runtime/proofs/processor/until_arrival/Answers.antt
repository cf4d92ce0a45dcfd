use Rattle.std.proofs.Common.{arith}
use Rattle.ceil_runtime.proofs.Aheads.{before-arrival}
use Rattle.ceil_runtime.proofs.processor.until_arrival.Goals as goal

pub returns-then-time-arrival-clause-arrival : goal.returns-then-time-arrival-clause-arrival
returns-then-time-arrival-clause-arrival c =
    before-arrival c.args.arrivals.now c.in-Some.arrival.now _ c.args.time c.min.result c.in-Some.ensures.cases.0
    (λ later. omega (arith, c.min.ensures))

pub returns-else-time-arrival-clause-arrival : goal.returns-else-time-arrival-clause-arrival
returns-else-time-arrival-clause-arrival c =
    before-arrival c.args.arrivals.now c.in-Some.arrival.now _ c.args.time c.args.most c.in-Some.ensures.cases.0
    (λ later. omega (arith, c.if-time-arrival.false, later))
