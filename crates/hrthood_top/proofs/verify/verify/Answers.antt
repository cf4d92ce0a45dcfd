use Rattle.std.proofs.Common.{refl}
use Rattle.hrthood_top.specs.Fetches.{texts_of}
use Rattle.hrthood_top.specs.Verifies.{verifies}
use Rattle.hrthood_top.proofs.Ending.{ends-streamed, ends-stop}
use Rattle.hrthood_top.proofs.verify.verify.Goals as goal

pub returns-in-Ok : goal.returns-in-Ok
returns-in-Ok g c =
    ends-streamed (verifies c.args.design.now c.args.arrivals.now) _ (texts_of c.in-Ok.texts) _ _ c.in-Ok.ensures.0 c.in-Ok.ensures.1
    (c.verify_texts.ensures c.args.design.now c.args.arrivals.now)

pub returns-in-Err : goal.returns-in-Err
returns-in-Err g c = ends-stop texts_of (verifies c.args.design.now c.args.arrivals.now) _ _ _ _ c.in-Err.ensures c.tell_stop.ensures refl
