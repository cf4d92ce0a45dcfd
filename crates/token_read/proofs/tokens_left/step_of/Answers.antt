use Rattle.std.proofs.Common.{◌∙◌}
use Rattle.token_read.specs.Fronts.{front_view}
use Rattle.token_read.proofs.Shared.BehindSteps.{fault-some, front-fault, seen-led, step-turn}
use Rattle.token_read.proofs.tokens_left.step_of.Goals as goal

pub returns-in-Ok-clause-behind : goal.returns-in-Ok-clause-behind
returns-in-Ok-clause-behind c = λ whole.
    let turn = step-turn c.args.first c.args.rest.now c.args.bytes.now _ (front_view c.in-Ok.field-0) c.requires.parts
    c.in-Ok.ensures.front c.in-Ok.ensures.len.0 c.split_at.ensures.back in
    turn.1 whole ∙ seen-led c.in-Ok.field-0.token _

pub returns-in-Ok-clause-whole : goal.returns-in-Ok-clause-whole
returns-in-Ok-clause-whole c =
    (step-turn c.args.first c.args.rest.now c.args.bytes.now _ (front_view c.in-Ok.field-0) c.requires.parts
    c.in-Ok.ensures.front c.in-Ok.ensures.len.0 c.split_at.ensures.back).0

pub returns-in-Err-clause-fault : goal.returns-in-Err-clause-fault
returns-in-Err-clause-fault c =
    let fault = fault-some front_view c.in-Err.field-0 _ c.in-Err.ensures.front c.in-Err.ensures.ample in
    front-fault c.args.first c.args.rest.now c.args.bytes.now fault.0 c.requires.parts fault.1
