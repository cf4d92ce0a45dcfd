use Rattle.bridge.specs.declared.taking.Untaken.TheVariants as untaken
use Rattle.hrthood_top.specs.declared.generate.GenerateRefusal.TheVariants as refusal
use Rattle.hrthood_top.proofs.GenerateLaws.{can_or_refuses}
use Rattle.hrthood_top.proofs.sample.deliver_text.Goals as goal

pub unreachable-requires : goal.unreachable-requires
unreachable-requires c =
    can_or_refuses c.args.design.now c.requires (refusal.Untaken (untaken.Text c.in-Err-Text.field-0-0))
    (rw c.in-Err-Text.field-0-is at c.in-Err-Text.ensures)

pub unreachable-requires-in-Err-Rule : goal.unreachable-requires-in-Err-Rule
unreachable-requires-in-Err-Rule c =
    can_or_refuses c.args.design.now c.requires (refusal.Untaken (untaken.Rule c.in-Err-Rule.field-0-0))
    (rw c.in-Err-Rule.field-0-is at c.in-Err-Rule.ensures)

pub unreachable-requires-in-Err-Miss : goal.unreachable-requires-in-Err-Miss
unreachable-requires-in-Err-Miss c =
    can_or_refuses c.args.design.now c.requires (refusal.Miss c.in-Err-Miss.field-0-0 c.in-Err-Miss.field-0-1)
    (rw c.in-Err-Miss.field-0-is at c.in-Err-Miss.ensures)

pub unreachable-requires-in-Err-Long : goal.unreachable-requires-in-Err-Long
unreachable-requires-in-Err-Long c =
    can_or_refuses c.args.design.now c.requires refusal.Long (rw c.in-Err-Long.field-0-is at c.in-Err-Long.ensures)
