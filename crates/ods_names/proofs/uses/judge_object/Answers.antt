use Rattle.std.proofs.Common.{ap, sym, subst, ◌∙◌, Option, option_map}
use Rattle.ods_tree.specs.Trees.{design_of}
use Rattle.design_rules.specs.Broken.{Broken}
use Rattle.ods_index.specs.Judging.{Tells}
use Rattle.ods_names.specs.Needs.{breaks, told_by}
use Rattle.ods_index.specs.Walking.{standing_of}
use Rattle.ods_names.proofs.Shared.NeedSteps.{head_filter, own_name}
use Rattle.ods_names.proofs.uses.judge_object.Goals as goal

pub returns : goal.returns
returns c =
    let s = standing_of c.args.standing.now in
    let told = told_by c.args.rule s.own.name in
    let P : Option Broken → Type 0 = λ w. Tells c.tell.result w in
    subst P
    (ap (λ name. option_map (told_by c.args.rule name) (option_map (λ n. n.now) c.first_breaking-target.result))
    (sym (own_name c.args.standing.now.node.now))
    ∙ ap (option_map told) c.first_breaking-target.ensures ∙ sym
    (head_filter told (breaks c.args.rule (design_of c.args.index.now.design.now) s) s.own.needs)) c.tell.ensures
