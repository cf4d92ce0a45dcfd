use Rattle.std.proofs.Common.{rules, ◌≡◌, ◌<◌, length, sym, subst, Err}
use Rattle.ods_tree.specs.Designs.{Design}
use Rattle.ods_tree.specs.Trees.{design_of}
use Rattle.ods_tree.specs.Walk.{objects}
use Rattle.ods_rules.proofs.Shared.CountLaws.{few_in_ticks}
use Rattle.ods_rules.proofs.Shared.VerdictLaws.{meets_at, met_at, passes_at, says_at}
use Rattle.ods_rules.proofs.verdict.check.Goals as goal

pub judge_design-requires-clause-few : goal.judge_design-requires-clause-few
judge_design-requires-clause-few c =
    let Few : Design → Type 0 = λ x. length (objects x) < 4294967296
    in subst Few (sym c.set_ticks.ensures) (few_in_ticks (design_of c.args.design) c.requires)

pub judge_design-requires-clause-version : goal.judge_design-requires-clause-version
judge_design-requires-clause-version c = passes_at (design_of c.args.design) (design_of c.set_ticks.new.design) c.set_ticks.ensures
    c.in_ok-first_bad_version.ensures

pub returns-in_err-judge_design : goal.returns-in_err-judge_design
returns-in_err-judge_design c =
    let result : c.from_residual-in_err-judge_design.result ≡ Err c.in_err-judge_design.field-0.0 = search rules in
    rw result (says_at (design_of c.args.design) (design_of c.set_ticks.new.design) c.in_err-judge_design.field-0.0 c.set_ticks.ensures
    c.in_ok-first_bad_version.ensures
    c.in_err-judge_design.ensures)

pub invariant_of-result : goal.invariant_of-result
invariant_of-result c = record {
  meets = met_at (design_of c.args.design) (design_of c.set_ticks.new.design) c.set_ticks.ensures c.in_ok-judge_design.ensures;
  ticked = c.in_ok-judge_design.ensures;
}

pub returns : goal.returns
returns c = (
  c.set_ticks.ensures,
  meets_at (design_of c.args.design) (design_of
      c.set_ticks.new.design) c.set_ticks.ensures c.in_ok-first_bad_version.ensures c.in_ok-judge_design.ensures,
)
