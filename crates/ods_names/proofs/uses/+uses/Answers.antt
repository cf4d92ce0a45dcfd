use Rattle.std.proofs.Common.{rules, ◌≡◌, List, Some, None, Err, map, flat_map, sym, subst, ◌∙◌}
use Rattle.ods_tree.specs.Trees.{design_of, tree_of}
use Rattle.ods_tree.specs.Walk.{standings}
use Rattle.ods_tree.specs.declared.design.Node.{Node}
use Rattle.ods_index.specs.Judging.{Tells, head_of}
use Rattle.ods_names.specs.Needs.{bad_needs}
use Rattle.ods_index.specs.Walking.{object_of, parent_of, siblings_of}
use Rattle.ods_names.proofs.ChildSteps.{child_passes, children_pass}
use Rattle.ods_names.proofs.Shared.NeedSteps.{own_passes, own_told, child_told}
use Rattle.ods_names.proofs.uses.+uses.Goals as goal

pub returns-in_err-judge_object : goal.returns-in_err-judge_object
returns-in_err-judge_object t c =
    let e = c.in_err-judge_object.field-0.0 in
    let result : c.from_residual.result ≡ Err e = search rules in
    rw result (own_told (bad_needs c.args.rule (design_of c.args.index.now.design.now)) c.args.node.now (parent_of c.args.parent)
    (siblings_of (object_of c.args.node.now) c.args.siblings)
    e c.in_err-judge_object.ensures)

pub children-init : goal.children-init
children-init t c =
    own_passes (bad_needs c.args.rule (design_of c.args.index.now.design.now)) c.args.node.now (parent_of c.args.parent)
    (siblings_of (object_of c.args.node.now) c.args.siblings)
    c.deref-child-items.result.now c.deref-child-items.ensures.value c.in_ok-judge_object.ensures

pub returns-in_err-judge_tree : goal.returns-in_err-judge_tree
returns-in_err-judge_tree t c =
    let e = c.in_err-judge_tree.field-0.0 in
    let f = bad_needs c.args.rule (design_of c.args.index.now.design.now) in
    let kids = c.deref-child-items.result.now in
    let Told : List Node → Type 0 = λ ks. Tells (Err e)
    (head_of (flat_map f (standings (Some (object_of c.args.node.now)) (map object_of ks) (tree_of c.child-item.result)))) in
    let told = subst Told (c.as_slice.ensures.value ∙ sym c.deref-child-items.ensures.value) c.in_err-judge_tree.ensures in
    let result : c.from_residual-in_err-judge_tree.result ≡ Err e = search rules in
    rw result (child_told f (Some (object_of c.args.node.now)) (map object_of kids) kids c.children.child-index c.child-item.result _ e
    c.children-test.true c.child-item.is c.children.invariant told)

pub children-preserved : goal.children-preserved
children-preserved t c =
    let f = bad_needs c.args.rule (design_of c.args.index.now.design.now) in
    let kids = c.deref-child-items.result.now in
    let own = object_of c.args.node.now in
    let Quiet : List Node → Type 0 = λ ks. head_of (flat_map f (standings (Some own) (map object_of ks) (tree_of c.child-item.result))) ≡ None in
    child_passes f (Some own) (map object_of kids) kids c.children.child-index c.child-item.result _
    c.children-test.true c.child-item.is c.children.invariant
    (subst Quiet (c.as_slice.ensures.value ∙ sym c.deref-child-items.ensures.value) c.in_ok-judge_tree.ensures)

pub returns : goal.returns
returns t c =
    let kids = c.deref-child-items.result.now in
    children_pass (bad_needs c.args.rule (design_of c.args.index.now.design.now)) (Some (object_of c.args.node.now)) (map object_of kids) kids
    c.children.child-index _ c.children-test.false c.children.invariant
