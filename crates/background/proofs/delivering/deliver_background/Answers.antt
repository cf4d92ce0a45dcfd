use Rattle.std.proofs.Common.{rules, ◌≡◌, Err}
use Rattle.ods_tree.specs.Trees.{design_of}
use Rattle.ods_rules.specs.Checks.{checked_design}
use Rattle.ods_index.specs.Told.{is_memory}
use Rattle.background.specs.Told.{refusal_by}
use Rattle.background.proofs.Deliveries.{version-told, misfit-at, few-at, hard-at, front-at, delivered-at}
use Rattle.background.proofs.delivering.deliver_background.Goals as goal

pub returns-in_err-first_bad_version : goal.returns-in_err-first_bad_version
returns-in_err-first_bad_version c =
    let e = c.in_err-first_bad_version.field-0.0 in
    let result : c.from_residual.result ≡ Err (refusal_by (is_memory e) e) = search rules in
    rw result (version-told (design_of c.args.design) e c.in_err-first_bad_version.ensures)

pub returns-in_err-misfits_fit : goal.returns-in_err-misfits_fit
returns-in_err-misfits_fit c =
    let e = c.in_err-misfits_fit.field-0.0 in
    let result : c.from_residual-in_err-misfits_fit.result ≡ Err e = search rules in
    rw result (misfit-at (design_of c.args.design) (design_of c.set_ticks.new.design) c.set_ticks.ensures c.in_ok-first_bad_version.ensures e
    c.in_err-misfits_fit.ensures)

pub check-requires : goal.check-requires
check-requires c =
    few-at (design_of c.args.design) (design_of c.set_ticks.new.design) c.set_ticks.ensures c.in_ok-first_bad_version.ensures
    c.in_ok-misfits_fit.ensures (design_of c.harden.new.design) c.in_ok-harden.ensures c.requires.few

pub returns-in_err-checked : goal.returns-in_err-checked
returns-in_err-checked c =
    let e = c.in_err-checked.field-0.0 in
    let result : c.from_residual-in_err-checked.result ≡ Err (refusal_by (is_memory e) e) = search rules in
    rw result (hard-at (design_of c.args.design) (design_of c.set_ticks.new.design) c.set_ticks.ensures c.in_ok-first_bad_version.ensures
    c.in_ok-misfits_fit.ensures (design_of c.harden.new.design) c.in_ok-harden.ensures e c.in_err-checked.ensures)

pub make-requires : goal.make-requires
make-requires c =
    front-at (design_of c.args.design) (design_of c.set_ticks.new.design) c.set_ticks.ensures c.in_ok-first_bad_version.ensures
    c.in_ok-misfits_fit.ensures (design_of c.harden.new.design) c.in_ok-harden.ensures (checked_design c.in_ok-checked.checked)
    c.in_ok-checked.ensures.0 c.in_ok-checked.ensures.1 c.requires.proper

pub returns : goal.returns
returns c =
    delivered-at (design_of c.args.design) (design_of c.set_ticks.new.design) c.set_ticks.ensures c.in_ok-first_bad_version.ensures
    c.in_ok-misfits_fit.ensures (design_of c.harden.new.design) c.in_ok-harden.ensures (checked_design c.in_ok-checked.checked)
    c.in_ok-checked.ensures.0 c.in_ok-checked.ensures.1 c.requires.proper c.make.result c.make.ensures
