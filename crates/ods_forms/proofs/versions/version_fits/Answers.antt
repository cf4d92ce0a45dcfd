use Rattle.std.proofs.Common.{rules, ◌≡◌, ◌++◌, List, map, Err, ap, sym, subst, ◌∙◌}
use Rattle.ods_tree.specs.Ticks.{tick_time}
use Rattle.ods_tree.specs.Trees.{design_of}
use Rattle.ods_tree.specs.Walk.{objects}
use Rattle.design_rules.specs.Versions.{bad_priorities, bad_tick}
use Rattle.ods_index.specs.Judging.{Tells, head_of}
use Rattle.ods_index.specs.Walking.{standing_of}
use Rattle.ods_index.specs.declared.walk.Standing.{Standing}
use Rattle.ods_index.proofs.Shared.TellSteps.{head_later, tells_front}
use Rattle.ods_forms.specs.ObjectFaults.{bad_objects}
use Rattle.ods_forms.specs.declared.objects.ObjectRule.TheVariants as rule
use Rattle.ods_forms.proofs.Shared.TickLaws.{tick_by}
use Rattle.ods_forms.proofs.versions.version_fits.Goals as goal

pub returns-in_err-tick_fits : goal.returns-in_err-tick_fits
returns-in_err-tick_fits c =
    let e = c.in_err-tick_fits.field-0.0 in
    let is : c.from_residual.result ≡ Err e = search rules in
    rw is (tells_front e (bad_tick c.args.version) _ c.in_err-tick_fits.ensures)

pub returns-in_err-priorities_fit : goal.returns-in_err-priorities_fit
returns-in_err-priorities_fit c =
    let v = c.args.version in
    let e = c.in_err-priorities_fit.field-0.0 in
    let is : c.from_residual-in_err-priorities_fit.result ≡ Err e = search rules in
    let old = bad_objects (rule.Whole (tick_time v)) (objects (design_of c.args.design.now)) in
    rw is (subst (λ w. Tells (Err e) w) (sym (head_later (bad_tick v) (bad_priorities v.priorities ++ old) c.in_ok-tick_fits.ensures))
    (tells_front e (bad_priorities v.priorities) old c.in_err-priorities_fit.ensures))

pub first_offender-requires : goal.first_offender-requires
first_offender-requires c = tick_by c.args.version c.tick_time-tick.result c.tick_time-tick.ensures c.in_ok-tick_fits.ensures

pub returns : goal.returns
returns c =
    let v = c.args.version in
    let x = design_of c.args.design.now in
    let old = bad_objects (rule.Whole (tick_time v)) (objects x) in
    let walked : map standing_of c.as_slice.result.now ≡ objects x
    = ap (λ (ss : List Standing). map standing_of ss) c.as_slice.ensures.value ∙ c.in_ok-objects.ensures in
    let same : head_of (bad_objects (rule.Whole c.tick_time-tick.result) (map standing_of c.as_slice.result.now))
    ≡ head_of (bad_tick v ++ (bad_priorities v.priorities ++ old)) =
    ap (λ t. head_of (bad_objects (rule.Whole t) (map standing_of c.as_slice.result.now))) c.tick_time-tick.ensures ∙ ap
    (λ ss. head_of (bad_objects (rule.Whole (tick_time v)) ss)) walked
    ∙ sym (head_later (bad_tick v) (bad_priorities v.priorities ++ old) c.in_ok-tick_fits.ensures ∙ head_later
    (bad_priorities v.priorities) old c.in_ok-priorities_fit.ensures) in
    subst (λ w. Tells c.first_offender.result w) same c.first_offender.ensures
