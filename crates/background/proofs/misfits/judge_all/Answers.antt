use Rattle.std.proofs.Common.{rules, ◌≡◌, Err}
use Rattle.ods_tree.specs.Trees.{design_of}
use Rattle.background.proofs.MisfitLists.{shape-told, wait-told, service-told, request-told, all-told}
use Rattle.background.proofs.misfits.judge_all.Goals as goal

pub returns-in_err-judge_objects : goal.returns-in_err-judge_objects
returns-in_err-judge_objects c =
    let x = design_of c.args.index.now.design.now in
    let e = c.in_err-judge_objects.field-0.0 in
    let result : c.from_residual.result ≡ Err e = search rules in
    rw result (shape-told x _ c.requires.walked e c.in_err-judge_objects.ensures)

pub returns-in_err-judge_needs : goal.returns-in_err-judge_needs
returns-in_err-judge_needs c =
    let x = design_of c.args.index.now.design.now in
    let e = c.in_err-judge_needs.field-0.0 in
    let result : c.from_residual-in_err-judge_needs.result ≡ Err e = search rules in
    rw result (wait-told x _ c.requires.walked c.in_ok-judge_objects.ensures e c.in_err-judge_needs.ensures)

pub returns-in_err-judge_objects-2 : goal.returns-in_err-judge_objects-2
returns-in_err-judge_objects-2 c =
    let x = design_of c.args.index.now.design.now in
    let e = c.in_err-judge_objects-2.field-0.0 in
    let result : c.from_residual-in_err-judge_objects-2.result ≡ Err e = search rules in
    rw result (service-told x _ c.requires.walked c.in_ok-judge_objects.ensures c.in_ok-judge_needs.ensures e c.in_err-judge_objects-2.ensures)

pub returns-in_err-judge_needs-2 : goal.returns-in_err-judge_needs-2
returns-in_err-judge_needs-2 c =
    let x = design_of c.args.index.now.design.now in
    let e = c.in_err-judge_needs-2.field-0.0 in
    let result : c.from_residual-in_err-judge_needs-2.result ≡ Err e = search rules in
    rw result (request-told x _ c.requires.walked c.in_ok-judge_objects.ensures c.in_ok-judge_needs.ensures c.in_ok-judge_objects-2.ensures e
    c.in_err-judge_needs-2.ensures)

pub returns : goal.returns
returns c =
    let x = design_of c.args.index.now.design.now in
    all-told x _ c.requires.walked c.in_ok-judge_objects.ensures c.in_ok-judge_needs.ensures c.in_ok-judge_objects-2.ensures
    c.judge_objects-3.result c.in_ok-judge_needs-2.ensures c.judge_objects-3.ensures
