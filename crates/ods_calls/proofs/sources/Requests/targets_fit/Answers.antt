use Rattle.std.proofs.Common.{rules, ◌≡◌, ◌∙◌, Err, List, ap, subst}
use Rattle.std.specs.Prelude.{is_some}
use Rattle.ods_tree.specs.Designs.{Object}
use Rattle.ods_tree.specs.Trees.{design_of}
use Rattle.ods_calls.specs.Reaching.{thread_of}
use Rattle.ods_calls.specs.Requested.{source_fault}
use Rattle.ods_calls.specs.Starting.{Thread}
use Rattle.ods_calls.proofs.Items.{In, in-map, item-in}
use Rattle.ods_calls.proofs.StartReach.{thread-placed}
use Rattle.ods_calls.proofs.LoopSteps.{passed_step, told_step}
use Rattle.ods_calls.proofs.sources.Requests.targets_fit.Goals as goal

pub threads-preserved : goal.threads-preserved
threads-preserved c =
    passed_step (source_fault (design_of c.args.self.now.shown.starts.links.now.design.now)) thread_of
    c.args.threads.now c.threads.thread-index c.thread-item.result _ c.threads-test.true c.thread-item.is c.in_ok-target_fits.ensures
    c.threads.invariant

pub returns-in_err-target_fits : goal.returns-in_err-target_fits
returns-in_err-target_fits c =
    let e = c.in_err-target_fits.field-0.0 in
    let is : c.from_residual.result ≡ Err e = search rules in
    rw is (told_step (source_fault (design_of c.args.self.now.shown.starts.links.now.design.now)) thread_of
    c.args.threads.now c.threads.thread-index c.thread-item.result _ e c.threads-test.true c.thread-item.is c.threads.invariant
    c.in_err-target_fits.ensures)

pub target_fits-requires-clause-stands : goal.target_fits-requires-clause-stands
target_fits-requires-clause-stands c =
    let starts = c.args.self.now.shown.starts in
    let x = design_of starts.links.now.design.now in
    let o = thread_of c.thread-item.result in
    let P : List Object → Type 0 = λ os. In o os in
    let at = thread-placed x o
    (subst P c.requires.all (in-map thread_of c.thread-item.result c.args.threads.now
    (item-in c.args.threads.now c.threads.thread-index c.thread-item.result c.threads-test.true c.thread-item.is))) in
    ap is_some (starts.placed (Thread o.name) ∙ at.1)
