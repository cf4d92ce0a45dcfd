use Rattle.std.proofs.Common.{◌∙◌}
use Rattle.linker.proofs.Scoping.{next_last}
use Rattle.linker.proofs.LinkSteps.{if_ok}
use Rattle.linker.proofs.scope.next_of.Goals as goal

pub returns-in-Some : goal.returns-in-Some
returns-in-Some c =
    if_ok c.after.result _ _ (λ end h. h ∙ next_last c.args.slots.now c.in-Some.field-0-1.now c.in-Some.last.now c.in-Some.ensures.cases.0)
    c.after.ensures
