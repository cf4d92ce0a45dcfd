use Rattle.std.proofs.Common.{length, map, ap, ◌∙◌, option_map}
use Rattle.analysis.specs.Tables.{downwards}
use Rattle.block_causes.specs.Causes.{cause}
use Rattle.rt_block.specs.Causes.{cause_of}
use Rattle.rt_block.specs.Designs.{design_of}
use Rattle.rt_block.proofs.CauseSteps.{level-next}
use Rattle.rt_block.proofs.causes.causes_of.Goals as goal

pub levels-preserved : goal.levels-preserved
levels-preserved c =
    let f = design_of c.args.facts.now in
    let ps = c.args.order.now.threads.items in
    level-next (option_map cause_of) (cause f ps) c.levels.found.items c.push.new.self.items c.in_ok-cause_of_level.field-0
    (map (cause f ps) (downwards (length ps))) c.levels.level c.levels-test.true c.in_ok-push.ensures.items
    (c.in_ok-cause_of_level.ensures ∙ ap (λ qs. cause f qs c.levels.level) c.in_ok-levels.ensures.order) c.levels.invariant
