use Rattle.std.proofs.Common.{rules, ◌≡◌, Err, Option, filter_map, option_to_list, sym, subst}
use Rattle.ods_tree.specs.Trees.{design_of}
use Rattle.design_rules.specs.Bodies.{body_fault, thread_fault}
use Rattle.design_rules.specs.Broken.{Broken}
use Rattle.ods_index.specs.Judging.{Tells}
use Rattle.ods_index.specs.Walking.{object_of}
use Rattle.ods_index.proofs.Shared.TellSteps.{head_later, tells_front}
use Rattle.ods_forms.proofs.bodies.judge_object.Goals as goal

pub returns-in_err-judge_bodies : goal.returns-in_err-judge_bodies
returns-in_err-judge_bodies c =
    let x = design_of c.args.index.now.design.now in
    let o = object_of c.args.node.now in
    let e = c.in_err-judge_bodies.field-0.0 in
    let is : c.from_residual-in_err-judge_bodies.result ≡ Err e = search rules in
    rw is (tells_front e (filter_map (body_fault x o) o.bodies) (filter_map (thread_fault x o) (option_to_list o.thread))
    c.in_err-judge_bodies.ensures)

pub returns : goal.returns
returns c =
    let x = design_of c.args.index.now.design.now in
    let o = object_of c.args.node.now in
    let P : Option Broken → Type 0 = λ w. Tells c.judge_thread.result w in
    subst P (sym (head_later (filter_map (body_fault x o) o.bodies) (filter_map (thread_fault x o) (option_to_list o.thread))
    c.in_ok-judge_bodies.ensures)) c.judge_thread.ensures
