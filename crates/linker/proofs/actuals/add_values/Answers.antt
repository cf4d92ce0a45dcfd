use Rattle.std.proofs.Common.{◌≡◌, rules, [], ◌∷◌, map, drop, ap, sym, subst}
use Rattle.seq_tree.specs.Trees.{expression_of}
use Rattle.linker.specs.Standing.{first_or_0, lists_of, values_in}
use Rattle.linker.proofs.Handing.{Handing, handed_all, handed_long, handing_all, handing_on}
use Rattle.linker.proofs.LinkSteps.{empty_of}
use Rattle.linker.proofs.actuals.add_values.Goals as goal

pub params-init : goal.params-init
params-init c =
    handing_all c.args.scope.now c.in_ok-first.first (values_in c.args.params.now (map expression_of c.args.actuals.now)) (lists_of c.args.code.now)
    c.in_ok-first.ensures

pub params-preserved : goal.params-preserved
params-preserved c =
    let a = c.args in
    let here : c.params.left.now ≡ c.in-Some.param.now ∷ c.in-Some.others.now = search rules in
    let whole = values_in a.params.now (map expression_of a.actuals.now) in
    let old = map expression_of c.params.rest.now in
    let others = c.in-Some.others.now in
    let from = lists_of a.code.now in
    let before = lists_of c.params.code in
    let after = lists_of c.add_first.new.code in
    subst (λ es. Handing a.scope.now c.in_ok-first.first whole from after (values_in others es)) (sym c.in_ok-behind.ensures.others)
    (handing_on a.scope.now c.in_ok-first.first whole (values_in others (drop 1 old)) c.in-Some.param.now.mode (first_or_0 old) from before after
    (subst (λ ps. Handing a.scope.now c.in_ok-first.first whole from before (values_in ps old)) here c.params.invariant)
    c.in_ok-behind.ensures.added c.in_ok-behind.ensures.value)

pub returns-clause-added : goal.returns-clause-added
returns-clause-added c = c.params.invariant.added

pub returns-clause-stand : goal.returns-clause-stand
returns-clause-stand c =
    let none : c.params.left.now ≡ [] = empty_of c.params.left.now (search rules) in
    handed_all c.args.scope.now c.in_ok-first.first (values_in c.args.params.now (map expression_of c.args.actuals.now)) _ (lists_of c.args.code.now)
    (lists_of c.params.code) c.params.invariant (ap (λ ps. values_in ps (map expression_of c.params.rest.now)) none)

pub returns-clause-long : goal.returns-clause-long
returns-clause-long c =
    let none : c.params.left.now ≡ [] = empty_of c.params.left.now (search rules) in
    handed_long c.args.scope.now c.in_ok-first.first (values_in c.args.params.now (map expression_of c.args.actuals.now)) _ (lists_of c.args.code.now)
    (lists_of c.params.code) c.params.invariant (ap (λ ps. values_in ps (map expression_of c.params.rest.now)) none)
