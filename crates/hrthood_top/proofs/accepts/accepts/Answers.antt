use Rattle.std.proofs.Common.{ℕ, refl, Vec, Global}
use Rattle.hrthood_top.specs.Fetches.{texts_of}
use Rattle.hrthood_top.specs.Acceptances.{acceptances}
use Rattle.hrthood_top.proofs.Ending.{ends-stop, ends-streamed}
use Rattle.hrthood_top.proofs.Streamed.{streams-made}
use Rattle.hrthood_top.proofs.accepts.accepts.Goals as goal

pub returns-in-Ok : goal.returns-in-Ok
returns-in-Ok g c =
    let v = acceptances c.args.design.now c.args.arrivals.now c.args.trace.now in
    ends-streamed v _ (texts_of c.in-Ok.texts) _ _ c.in-Ok.ensures.0 c.in-Ok.ensures.1
    (streams-made (λ (v : Vec ℕ Global). v.items) v (texts_of c.in-Ok.texts) _ _ _ _ _ _ _ _ _ _
    (rw (c.deref.ensures.value, c.deref-in-Ok.ensures.value, c.deref-in-Ok-2.ensures.value) at c.accepts_text.ensures) c.finish.ensures)

pub returns-in-Err : goal.returns-in-Err
returns-in-Err g c = ends-stop texts_of (acceptances c.args.design.now c.args.arrivals.now c.args.trace.now) _ _ _ _ c.in-Err.ensures
    c.tell_stop.ensures refl
