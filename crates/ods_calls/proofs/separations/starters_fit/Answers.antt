use Rattle.std.proofs.Common.{rules, ◌≡◌, ◌∷◌, ◌+◌, ◌++◌, Bor, Err, List, flat_map, map, drop, ap, sym, subst, ◌∙◌}
use Rattle.std.specs.Prelude.{filter_map}
use Rattle.seq_tree.proofs.Shared.LoopSteps.{drop_step}
use Rattle.ods_tree.specs.Designs.{Object}
use Rattle.ods_tree.specs.Trees.{design_of}
use Rattle.ods_tree.specs.declared.design.Node.{Node}
use Rattle.design_rules.specs.Broken.{Broken}
use Rattle.ods_index.specs.Judging.{Tells, head_of}
use Rattle.ods_calls.specs.Spacings.{spaced}
use Rattle.ods_calls.specs.Spreading.{reaches}
use Rattle.ods_index.specs.Walking.{object_of}
use Rattle.ods_index.proofs.Shared.TellSteps.{tells_front}
use Rattle.ods_calls.proofs.separations.starters_fit.Goals as goal

pub returns-in_err-starter_fits : goal.returns-in_err-starter_fits
returns-in_err-starter_fits c =
    let x = design_of c.args.starts.now.links.now.design.now in
    let threads = c.args.threads.now in
    let told : Object → List Broken = λ f. filter_map (spaced (reaches x f) f) (map (λ t. object_of t.now) threads) in
    let e = c.in_err-starter_fits.field-0.0 in
    let is : c.from_residual.result ≡ Err e = search rules in
    let own = told (object_of c.from-item.result.now) in
    let later = flat_map told (map (λ t. object_of t.now) (drop (c.threads.from-index + 1) threads)) in
    let step : drop c.threads.from-index threads ≡ c.from-item.result
    ∷ drop (c.threads.from-index + 1) threads = drop_step threads c.threads.from-index c.from-item.result c.threads-test.true c.from-item.is in
    let whole : head_of (flat_map told (map (λ t. object_of t.now) threads)) ≡ head_of (own ++ later) =
    sym c.threads.invariant ∙ ap (λ (ts : List (Bor Node)). head_of (flat_map told (map (λ t. object_of t.now) ts))) step in
    subst (λ w. Tells c.from_residual.result w) (sym whole)
    (subst (λ r. Tells r (head_of (own ++ later))) (sym is) (tells_front e own later c.in_err-starter_fits.ensures))
