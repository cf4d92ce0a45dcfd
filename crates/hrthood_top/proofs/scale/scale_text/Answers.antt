use Rattle.ods_rules.specs.Checks.{checked_design}
use Rattle.hrthood_top.proofs.ScaleLaws.{scaled-as}
use Rattle.hrthood_top.proofs.scale.scale_text.Goals as goal

pub returns-in-Ok-margin_lines : goal.returns-in-Ok-margin_lines
returns-in-Ok-margin_lines c =
    scaled-as c.args.design.now c.in-Ok-margin_lines.lines.items (checked_design c.in-Ok.checked) c.in-Ok-margin_of.margin c.in-Ok.ensures
    c.in-Ok-margin_of.ensures c.in-Ok-margin_lines.ensures
