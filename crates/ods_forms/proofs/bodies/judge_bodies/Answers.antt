use Rattle.std.proofs.Common.{rules, ◌≡◌, Some, Err, ap, slice_get, ◌∙◌}
use Rattle.seq_tree.specs.Trees.{block_of}
use Rattle.seq_check.specs.Scopes.{scope_with}
use Rattle.seq_check.specs.Views.{offers_of}
use Rattle.ods_tree.specs.Trees.{body_of, design_of}
use Rattle.ods_tree.specs.Walk.{objects}
use Rattle.ods_tree.specs.declared.design.Node.{out-Node}
use Rattle.design_rules.specs.Bodies.{body_fault, params_by}
use Rattle.ods_forms.specs.BodyScopes.{part_fault}
use Rattle.ods_index.specs.Walking.{object_of}
use Rattle.ods_index.proofs.Shared.WalkSteps.{own_fields}
use Rattle.ods_forms.proofs.ScopeSteps.{given_told, body_fault_by, provided_here}
use Rattle.ods_forms.proofs.bodies.judge_bodies.Goals as goal

pub returns-in_err-judge_part : goal.returns-in_err-judge_part
returns-in_err-judge_part c =
    let e = c.in_err-judge_part.field-0.0 in
    let x = design_of c.args.index.now.design.now in
    let o = object_of c.args.node.now in
    let name = (out-Node c.args.node.now).name in
    let vars = c.args.shared.now.vars.now in
    let calls = offers_of c.args.calls.now in
    let params = c.params_by-params.result.now in
    let wanted = part_fault name (Some c.body-item.result.name) (scope_with vars calls params c.deref.result.now)
    (block_of c.body-item.result.block) in
    let result : c.from_residual.result ≡ Err e = search rules in
    let here = body_fault_by x o (body_of c.body-item.result) name vars calls params c.deref.result.now
    (ap (λ z. z.name) (own_fields c.args.node.now)) c.requires.vars c.requires.calls
    (c.params_by-params.ensures ∙ ap params_by (c.provided.ensures ∙ provided_here (slice_get (objects x) c.args.place) o c.body-item.result.name
    c.requires.stands)) c.deref.ensures.value in
    rw result (given_told (body_fault x o) body_of c.deref-body-items.result.now c.bodies.body-index c.body-item.result _ wanted e
    c.bodies-test.true c.body-item.is c.bodies.invariant here c.in_err-judge_part.ensures)
