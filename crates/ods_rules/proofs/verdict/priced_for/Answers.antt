use Rattle.std.proofs.Common.{rules, ◌≡◌, ◌≤◌, arith}
use Rattle.design_rules.specs.Rules.{Budget, number_of}
use Rattle.ods_rules.specs.Orders.{rule_of}
use Rattle.ods_rules.proofs.verdict.priced_for.Goals as goal

pub new-requires-clause-before : goal.new-requires-clause-before
new-requires-clause-before c = λ lower low.
    let late : number_of Budget ≤ number_of (rule_of c.args.rule) = search rules in c.requires.before lower (omega (arith, low, late))
