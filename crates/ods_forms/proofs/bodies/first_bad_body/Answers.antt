use Rattle.std.proofs.Common.{rules, ◌≡◌, Err}
use Rattle.ods_tree.specs.Trees.{design_of}
use Rattle.ods_forms.specs.BodyScopes.{faults_in}
use Rattle.ods_index.specs.Walking.{standing_of}
use Rattle.ods_forms.proofs.LoopSteps.{quiet_step}
use Rattle.ods_forms.proofs.ScopeSteps.{listed_told}
use Rattle.ods_forms.proofs.bodies.first_bad_body.Goals as goal

pub returns-in_err-judge_object : goal.returns-in_err-judge_object
returns-in_err-judge_object c =
    let e = c.in_err-judge_object.field-0.0 in
    let result : c.from_residual.result ≡ Err e = search rules in
    rw result (listed_told (λ s. faults_in (design_of c.args.index.now.design.now) s.own) standing_of c.as_slice-objects.result.now c.objects.place
    c.index-objects-place.result _ e
    c.objects-test.true c.index-objects-place.is c.objects.invariant c.in_err-judge_object.ensures)

pub objects-preserved : goal.objects-preserved
objects-preserved c =
    quiet_step (λ s. faults_in (design_of c.args.index.now.design.now) s.own) standing_of c.as_slice-objects.result.now c.objects.place
    c.index-objects-place.result _ c.objects-test.true c.index-objects-place.is c.in_ok-judge_object.ensures c.objects.invariant
