use Rattle.std.proofs.Common.{rules, ◌≡◌, ◌+◌, ◌++◌, ◌∷◌, Err, List, map, drop, flat_map, ap, sym, subst, ◌∙◌}
use Rattle.seq_tree.proofs.Shared.LoopSteps.{drop_step}
use Rattle.ods_tree.specs.Trees.{design_of}
use Rattle.ods_calls.specs.Costed.{dear_parts}
use Rattle.ods_index.specs.Judging.{Tells, head_of}
use Rattle.ods_index.specs.Walking.{standing_of}
use Rattle.ods_index.specs.declared.walk.Standing.{Standing}
use Rattle.ods_index.proofs.Shared.TellSteps.{head_later, tells_front}
use Rattle.ods_calls.proofs.sizes.costs_fit.Goals as goal

pub returns-in_err-parts_fit : goal.returns-in_err-parts_fit
returns-in_err-parts_fit c =
    let x = design_of c.args.priced.now.links.now.design.now in
    let items = c.args.objects.now in
    let e = c.in_err-parts_fit.field-0.0 in
    let is : c.from_residual.result ≡ Err e = search rules in
    let later = flat_map (dear_parts x) (map standing_of (drop (c.objects.standing-index + 1) items)) in
    let own = dear_parts x (standing_of c.standing-item.result) in
    let step : drop c.objects.standing-index items ≡ c.standing-item.result
    ∷ drop (c.objects.standing-index + 1) items = drop_step items c.objects.standing-index c.standing-item.result c.objects-test.true
    c.standing-item.is in
    let whole : head_of (flat_map (dear_parts x) (map standing_of items)) ≡ head_of (own ++ later) =
    sym c.objects.invariant ∙ ap (λ (ss : List Standing). head_of (flat_map (dear_parts x) (map standing_of ss))) step in
    subst (λ w. Tells c.from_residual.result w) (sym whole)
    (subst (λ r. Tells r (head_of (own ++ later))) (sym is) (tells_front e own later c.in_err-parts_fit.ensures))

pub objects-preserved : goal.objects-preserved
objects-preserved c =
    let x = design_of c.args.priced.now.links.now.design.now in
    let items = c.args.objects.now in
    let later = flat_map (dear_parts x) (map standing_of (drop (c.objects.standing-index + 1) items)) in
    let own = dear_parts x (standing_of c.standing-item.result) in
    let step : drop c.objects.standing-index items ≡ c.standing-item.result
    ∷ drop (c.objects.standing-index + 1) items = drop_step items c.objects.standing-index c.standing-item.result c.objects-test.true
    c.standing-item.is in
    sym (head_later own later c.in_ok-parts_fit.ensures)
    ∙ ap (λ (ss : List Standing). head_of (flat_map (dear_parts x) (map standing_of ss))) (sym step) ∙ c.objects.invariant
