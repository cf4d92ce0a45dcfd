use Rattle.std.proofs.Common.{rules, ◌≡◌, Bor, Err}
use Rattle.ods_tree.specs.declared.design.Node.{Node}
use Rattle.ods_index.specs.Walking.{object_of}
use Rattle.ods_calls.specs.Spacings.{spaced}
use Rattle.ods_calls.specs.Spotted.{marked, spot_in}
use Rattle.ods_calls.specs.Starting.{Thread}
use Rattle.ods_calls.proofs.LoopSteps.{passed_step, told_step}
use Rattle.ods_calls.proofs.separations.targets_fit.Goals as goal

pub threads-preserved : goal.threads-preserved
threads-preserved c =
    passed_step (spaced (λ n. marked c.args.reached.now (spot_in c.args.spots.now (Thread n))) (object_of c.args.from.now)) (λ (t : Bor Node). object_of t.now)
    c.args.threads.now c.threads.to-index c.to-item.result _ c.threads-test.true c.to-item.is c.in_ok-target_fits.ensures c.threads.invariant

pub returns-in_err-target_fits : goal.returns-in_err-target_fits
returns-in_err-target_fits c =
    let e = c.in_err-target_fits.field-0.0 in
    let is : c.from_residual.result ≡ Err e = search rules in
    rw is (told_step (spaced (λ n. marked c.args.reached.now (spot_in c.args.spots.now (Thread n))) (object_of c.args.from.now)) (λ (t : Bor Node). object_of t.now)
    c.args.threads.now c.threads.to-index c.to-item.result _ e c.threads-test.true c.to-item.is c.threads.invariant c.in_err-target_fits.ensures)
