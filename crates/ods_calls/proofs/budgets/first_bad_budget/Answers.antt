use Rattle.std.proofs.Common.{rules, ◌≡◌, ◌+◌, ◌++◌, [], ◌∷◌, Err, List, map, drop, flat_map, ap, sym, subst, ◌∙◌}
use Rattle.std.proofs.lemmas.List.{drop_all}
use Rattle.seq_tree.proofs.Shared.LoopSteps.{drop_step}
use Rattle.ods_tree.specs.Trees.{design_of}
use Rattle.ods_tree.specs.Walk.{objects}
use Rattle.design_rules.specs.Budgets.{bad_budgets}
use Rattle.ods_calls.specs.Costed.{over_budgets}
use Rattle.ods_index.specs.Judging.{Tells, head_of}
use Rattle.ods_index.specs.Walking.{standing_of}
use Rattle.ods_index.specs.declared.walk.Standing.{Standing}
use Rattle.ods_calls.proofs.BudgetSteps.{budgets-split}
use Rattle.ods_index.proofs.Shared.TellSteps.{tells_front}
use Rattle.ods_calls.proofs.budgets.first_bad_budget.Goals as goal

pub returns-in_err-object_fits : goal.returns-in_err-object_fits
returns-in_err-object_fits c =
    let x = design_of c.args.priced.now.links.now.design.now in
    let y = design_of c.args.index.now.design.now in
    let items = c.deref-standing-items.result.now in
    let all : head_of (bad_budgets y) ≡ head_of (flat_map (over_budgets x) (map standing_of c.args.index.now.objects.items)) =
    ap head_of (budgets-split y (objects y)) ∙ ap (λ ss. head_of (flat_map (over_budgets y) ss)) (sym c.requires.indexed.walked)
    ∙ ap (λ z. head_of (flat_map (over_budgets z) (map standing_of c.args.index.now.objects.items))) (sym c.requires.same) in
    let e = c.in_err-object_fits.field-0.0 in
    let is : c.from_residual.result ≡ Err e = search rules in
    let later = flat_map (over_budgets x) (map standing_of (drop (c.objects.standing-index + 1) items)) in
    let own = over_budgets x (standing_of c.standing-item.result) in
    let step : drop c.objects.standing-index items ≡ c.standing-item.result
    ∷ drop (c.objects.standing-index + 1) items = drop_step items c.objects.standing-index c.standing-item.result c.objects-test.true
    c.standing-item.is in
    let whole : head_of (bad_budgets y) ≡ head_of (own ++ later) =
    all ∙ sym c.objects.invariant ∙ ap (λ (ss : List Standing). head_of (flat_map (over_budgets x) (map standing_of ss))) step in
    subst (λ w. Tells c.from_residual.result w) (sym whole)
    (subst (λ r. Tells r (head_of (own ++ later))) (sym is) (tells_front e own later c.in_err-object_fits.ensures))

pub returns : goal.returns
returns c =
    let x = design_of c.args.priced.now.links.now.design.now in
    let y = design_of c.args.index.now.design.now in
    let items = c.deref-standing-items.result.now in
    let all : head_of (bad_budgets y) ≡ head_of (flat_map (over_budgets x) (map standing_of c.args.index.now.objects.items)) =
    ap head_of (budgets-split y (objects y)) ∙ ap (λ ss. head_of (flat_map (over_budgets y) ss)) (sym c.requires.indexed.walked)
    ∙ ap (λ z. head_of (flat_map (over_budgets z) (map standing_of c.args.index.now.objects.items))) (sym c.requires.same) in
    let left : drop c.objects.standing-index items ≡ [] = drop_all c.objects.standing-index items c.objects-test.false in
    all ∙ sym c.objects.invariant ∙ ap (λ (ss : List Standing). head_of (flat_map (over_budgets x) (map standing_of ss))) left
