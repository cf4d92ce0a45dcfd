use Rattle.std.proofs.Common.{sym, subst}
use Rattle.ods_tree.specs.Designs.{Design}
use Rattle.ods_index.specs.Judging.{Passes}
use Rattle.design_rules.specs.Rules.{Version}
use Rattle.ods_rules.proofs.verdict.judge_design.Goals as goal

pub judge_all-requires-clause-version : goal.judge_all-requires-clause-version
judge_all-requires-clause-version c =
    let Fine : Design → Type 0 = λ x. Passes x Version in subst Fine (sym c.in_ok-index.ensures.same) c.requires.version
