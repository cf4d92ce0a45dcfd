use Rattle.std.proofs.Common.{refl, sym, subst, ◌∙◌}
use Rattle.trace_read.specs.Deeds.{Reaches}
use Rattle.trace_read.proofs.Telling.{reaches-at}
use Rattle.trace_read.proofs.told.Events.reach.Goals as goal

pub returns-in_err-event : goal.returns-in_err-event
returns-in_err-event c = λ these stands fewer.
    subst (Reaches c.args.self.now these c.args.last.now c.args.last.now) (sym c.from_residual.ensures) (sym stands.1 ∙ c.in_err-event.ensures, refl)

pub returns : goal.returns
returns c = λ these stands fewer.
    reaches-at c.args.self.now these c.args.last.now c.args.index c.in_ok-event.event stands fewer c.in_ok-event.ensures
