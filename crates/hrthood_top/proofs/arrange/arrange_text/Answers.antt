use Rattle.std.proofs.Common.{ℕ, Vec, Global}
use Rattle.ods_rules.specs.Checks.{checked_design}
use Rattle.hrthood_top.proofs.ArrangeLaws.{arranged-as}
use Rattle.hrthood_top.proofs.arrange.arrange_text.Goals as goal

pub returns-in-Ok : goal.returns-in-Ok
returns-in-Ok c =
    arranged-as (λ (v : Vec ℕ Global). v.items) c.args.design.now (checked_design c.in-Ok.checked) _ c.in-Ok.ensures c.arrange_checked.ensures
