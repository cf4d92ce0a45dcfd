use Rattle.std.proofs.Common.{◌≡◌, ◌∙◌, rules, [], ◌∷◌, map, length, ap, subst}
use Rattle.seq_tree.specs.Trees.{expression_of}
use Rattle.seq_tree.specs.Variables.{targets}
use Rattle.linker.specs.Standing.{lists_of}
use Rattle.linker.proofs.Handing.{Targeting, targeted_all, targeted_long, targeting_all, targeting_on}
use Rattle.linker.proofs.LinkSteps.{empty_of}
use Rattle.linker.proofs.actuals.put_targets.Goals as goal

pub params-init : goal.params-init
params-init c = targeting_all c.args.scope.now (targets c.args.params.now (map expression_of c.args.actuals.now)) (lists_of c.args.code.now)

pub params-preserved : goal.params-preserved
params-preserved c =
    let a = c.args in
    let here : c.params.left.now ≡ c.in-Some.param.now ∷ c.in-Some.others.now = search rules in
    let there : c.params.rest.now ≡ c.in-Some-split_first.actual.now ∷ c.in-Some-split_first.more.now = search rules in
    let whole = targets a.params.now (map expression_of a.actuals.now) in
    let first = length a.code.now.actuals.items in
    let from = lists_of a.code.now in
    let before = lists_of c.params.code in
    targeting_on a.scope.now first whole (targets c.in-Some.others.now (map expression_of c.in-Some-split_first.more.now)) c.in-Some.param.now.mode
    (expression_of c.in-Some-split_first.actual.now) from before (lists_of c.add_target.new.code)
    (subst (λ es. Targeting a.scope.now first whole from before (targets (c.in-Some.param.now ∷ c.in-Some.others.now) (map expression_of es))) there
    (subst (λ ps. Targeting a.scope.now first whole from before (targets ps (map expression_of c.params.rest.now))) here c.params.invariant))
    c.in_ok-add_target.ensures.added c.in_ok-add_target.ensures.target

pub returns-in_default-split_first-clause-added : goal.returns-in_default-split_first-clause-added
returns-in_default-split_first-clause-added c = c.params.invariant.added

pub returns-in_default-split_first-clause-stand : goal.returns-in_default-split_first-clause-stand
returns-in_default-split_first-clause-stand c =
    let here : c.params.left.now ≡ c.in-Some.param.now ∷ c.in-Some.others.now = search rules in
    let none : c.params.rest.now ≡ [] = empty_of c.params.rest.now (search rules) in
    targeted_all c.args.scope.now (length c.args.code.now.actuals.items) (targets c.args.params.now (map expression_of c.args.actuals.now)) _
    (lists_of c.args.code.now) (lists_of c.params.code) c.params.invariant
    (ap (λ ps. targets ps (map expression_of c.params.rest.now)) here
    ∙ ap (λ es. targets (c.in-Some.param.now ∷ c.in-Some.others.now) (map expression_of es)) none)

pub returns-in_default-split_first-clause-long : goal.returns-in_default-split_first-clause-long
returns-in_default-split_first-clause-long c =
    let here : c.params.left.now ≡ c.in-Some.param.now ∷ c.in-Some.others.now = search rules in
    let none : c.params.rest.now ≡ [] = empty_of c.params.rest.now (search rules) in
    targeted_long c.args.scope.now (length c.args.code.now.actuals.items) (targets c.args.params.now (map expression_of c.args.actuals.now)) _
    (lists_of c.args.code.now) (lists_of c.params.code) c.params.invariant
    (ap (λ ps. targets ps (map expression_of c.params.rest.now)) here
    ∙ ap (λ es. targets (c.in-Some.param.now ∷ c.in-Some.others.now) (map expression_of es)) none)

pub returns-clause-added : goal.returns-clause-added
returns-clause-added c = c.params.invariant.added

pub returns-clause-stand : goal.returns-clause-stand
returns-clause-stand c =
    let none : c.params.left.now ≡ [] = empty_of c.params.left.now (search rules) in
    targeted_all c.args.scope.now (length c.args.code.now.actuals.items) (targets c.args.params.now (map expression_of c.args.actuals.now)) _
    (lists_of c.args.code.now) (lists_of c.params.code) c.params.invariant (ap (λ ps. targets ps (map expression_of c.params.rest.now)) none)

pub returns-clause-long : goal.returns-clause-long
returns-clause-long c =
    let none : c.params.left.now ≡ [] = empty_of c.params.left.now (search rules) in
    targeted_long c.args.scope.now (length c.args.code.now.actuals.items) (targets c.args.params.now (map expression_of c.args.actuals.now)) _
    (lists_of c.args.code.now) (lists_of c.params.code) c.params.invariant (ap (λ ps. targets ps (map expression_of c.params.rest.now)) none)
