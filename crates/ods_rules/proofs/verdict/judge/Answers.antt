use Rattle.std.proofs.Common.{subst}
use Rattle.ods_tree.specs.Trees.{design_of}
use Rattle.ods_rules.specs.declared.verdict.Rule.{Rule}
use Rattle.ods_index.specs.Judging.{PassesBefore}
use Rattle.ods_rules.specs.Orders.{rule_of}
use Rattle.ods_rules.proofs.verdict.judge.Goals as goal

pub first_ringed_op-requires-clause-before : goal.first_ringed_op-requires-clause-before
first_ringed_op-requires-clause-before c =
    let P : Rule → Type 0 = λ r. PassesBefore (design_of c.args.index.now.design.now) (rule_of r) in subst P c.in-CallRing.is c.requires.before

pub first_ringed_thread-requires-clause-before : goal.first_ringed_thread-requires-clause-before
first_ringed_thread-requires-clause-before c =
    let P : Rule → Type 0 = λ r. PassesBefore (design_of c.args.index.now.design.now) (rule_of r) in subst P c.in-StartRing.is c.requires.before

pub first_bad_source-requires-clause-before : goal.first_bad_source-requires-clause-before
first_bad_source-requires-clause-before c =
    let P : Rule → Type 0 = λ r. PassesBefore (design_of c.args.index.now.design.now) (rule_of r) in subst P c.in-Source.is c.requires.before

pub first_bad_spacing-requires-clause-before : goal.first_bad_spacing-requires-clause-before
first_bad_spacing-requires-clause-before c =
    let P : Rule → Type 0 = λ r. PassesBefore (design_of c.args.index.now.design.now) (rule_of r) in subst P c.in-Spacing.is c.requires.before

pub returns-in-CallRing : goal.returns-in-CallRing
returns-in-CallRing c = rw c.in-CallRing.is c.first_ringed_op.ensures

pub returns-in-ObjectRing : goal.returns-in-ObjectRing
returns-in-ObjectRing c = rw c.in-ObjectRing.is c.first_ringed_object.ensures

pub returns-in-StartRing : goal.returns-in-StartRing
returns-in-StartRing c = rw c.in-StartRing.is c.first_ringed_thread.ensures

pub judge_budgets-requires-clause-before : goal.judge_budgets-requires-clause-before
judge_budgets-requires-clause-before c =
    let P : Rule → Type 0 = λ r. PassesBefore (design_of c.args.index.now.design.now) (rule_of r) in subst P c.in-Budget.is c.requires.before

pub judge_sizes-requires-clause-before : goal.judge_sizes-requires-clause-before
judge_sizes-requires-clause-before c =
    let P : Rule → Type 0 = λ r. PassesBefore (design_of c.args.index.now.design.now) (rule_of r) in subst P c.in-Size.is c.requires.before
