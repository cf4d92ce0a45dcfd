use Rattle.ods_rules.specs.Checks.{checked_design}
use Rattle.hrthood_top.proofs.AcceptanceLaws.{taken-meets, taken-plain}
use Rattle.hrthood_top.proofs.accepts.accepts_text.Goals as goal

pub accepts_checked-requires-clause-meets : goal.accepts_checked-requires-clause-meets
accepts_checked-requires-clause-meets c = taken-meets c.args.design.now (checked_design c.in-Ok.checked) c.in-Ok.ensures

pub accepts_checked-requires-clause-plain : goal.accepts_checked-requires-clause-plain
accepts_checked-requires-clause-plain c = taken-plain c.args.design.now (checked_design c.in-Ok.checked) c.in-Ok.ensures
