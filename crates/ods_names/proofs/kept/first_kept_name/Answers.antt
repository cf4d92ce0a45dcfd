use Rattle.std.proofs.Common.{Option, option_map, ap, sym, subst, ◌∙◌}
use Rattle.ods_tree.specs.Trees.{design_of}
use Rattle.design_rules.specs.Broken.{Broken}
use Rattle.ods_index.specs.Judging.{Tells}
use Rattle.ods_names.specs.NameLists.{all_names, names_of}
use Rattle.ods_names.proofs.NameSteps.{first_told}
use Rattle.ods_names.proofs.kept.first_kept_name.Goals as goal

pub returns : goal.returns
returns c =
    let P : Option Broken → Type 0 = λ w. Tells c.tell.result w in
    subst P
    (sym (first_told c.as_slice.result.now (all_names (design_of c.args.index.now.design.now)) (option_map (λ n. n.now) c.find_kept-first.result)
    (ap names_of c.as_slice.ensures.value ∙ c.in_ok-names.ensures) c.find_kept-first.ensures)) c.tell.ensures
