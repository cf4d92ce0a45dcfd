use Rattle.std.proofs.Common.{◌≡◌, map}
use Rattle.std.proofs.lemmas.Result.{IfOk-weaker}
use Rattle.ods_tree.specs.Trees.{flat_of}
use Rattle.hrthood_top.specs.Explanations.{IsToldOf, explained, with_utilisation}
use Rattle.hrthood_top.proofs.ExplainSteps.{told-of}
use Rattle.hrthood_top.proofs.explain.flat_lines.Goals as goal

pub returns : goal.returns
returns c =
    let e = c.in_ok-explanation.explanation in
    IfOk-weaker c.lines_of.result (λ v. v.items
    ≡ with_utilisation e.utilisation (explained e.late e.threads.items (map (λ c. c.items) e.chains.items) e.ceilings.items))
    (λ v. IsToldOf c.args.first (flat_of c.args.flat.now) v.items)
    (λ v told. told-of c.args.first (flat_of c.args.flat.now) e v.items c.in_ok-explanation.ensures.told told) c.lines_of.ensures
