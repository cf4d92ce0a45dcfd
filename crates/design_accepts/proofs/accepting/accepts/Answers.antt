use Rattle.std.proofs.Common.{subst}
use Rattle.ada_tree.specs.Trees.{program_of}
use Rattle.arrivals_tree.specs.Arriving.{arrivals_of}
use Rattle.design_rules.specs.Rules.{AreMet}
use Rattle.guarantee.specs.Arrivals.{named_arrivals}
use Rattle.ods_rules.specs.Checks.{checked_design}
use Rattle.design_accepts.specs.Answers.{verdict_of}
use Rattle.design_accepts.proofs.Judging.{design-quick, design-told}
use Rattle.design_accepts.proofs.accepting.accepts.Goals as goal

pub judge-requires-clause-quick : goal.judge-requires-clause-quick
judge-requires-clause-quick c =
    design-quick (checked_design c.args.design.now) (program_of c.args.program.now)
    (subst (λ x. AreMet x x) c.design-design.ensures.same c.design-design.ensures.ticked) c.requires.program c.requires.meets

pub returns : goal.returns
returns c = record {
  verdict = design-told (checked_design c.args.design.now) (program_of c.args.program.now)
      (named_arrivals (program_of c.args.program.now) (arrivals_of c.args.arrivals.now)) c.args.trace.now (verdict_of c.judge.result)
      c.requires.program c.judge.ensures;
}
