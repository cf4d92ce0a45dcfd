use Rattle.std.proofs.Common.{◌≡◌, rules, [], ◌∷◌, map, refl, sym, subst}
use Rattle.seq_tree.specs.Trees.{expression_of}
use Rattle.linker.specs.Standing.{AddsValue, first_or_0, lists_of}
use Rattle.linker.proofs.LinkSteps.{empty_of}
use Rattle.linker.proofs.actuals.add_first.Goals as goal

pub returns-in_ok-add_nothing-in-None-clause-value : goal.returns-in_ok-add_nothing-in-None-clause-value
returns-in_ok-add_nothing-in-None-clause-value c =
    let none : c.args.actuals.now ≡ [] = empty_of c.args.actuals.now (search rules) in
    subst (λ xs. AddsValue c.args.scope.now c.args.mode (first_or_0 (map expression_of xs)) (lists_of c.args.code.now)
    (lists_of c.add_nothing.new.code)) (sym none) c.in_ok-add_nothing-in-None.ensures.value

pub returns-in_ok-add_nothing-in-None-clause-others : goal.returns-in_ok-add_nothing-in-None-clause-others
returns-in_ok-add_nothing-in-None-clause-others c = let none : c.args.actuals.now ≡ [] = empty_of c.args.actuals.now (search rules) in rw none refl

pub returns-in_ok-add_value-in-Some-clause-value : goal.returns-in_ok-add_value-in-Some-clause-value
returns-in_ok-add_value-in-Some-clause-value c =
    let here : c.args.actuals.now ≡ c.in-Some.actual.now ∷ c.in-Some.rest.now = search rules in
    subst (λ xs. AddsValue c.args.scope.now c.args.mode (first_or_0 (map expression_of xs)) (lists_of c.args.code.now)
    (lists_of c.add_value.new.code)) (sym here) c.in_ok-add_value-in-Some.ensures.value

pub returns-in_ok-add_value-in-Some-clause-others : goal.returns-in_ok-add_value-in-Some-clause-others
returns-in_ok-add_value-in-Some-clause-others c =
    let here : c.args.actuals.now ≡ c.in-Some.actual.now ∷ c.in-Some.rest.now = search rules in rw here refl
