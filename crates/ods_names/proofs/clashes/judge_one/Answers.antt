use Rattle.std.proofs.Common.{sym, ◌∙◌}
use Rattle.design_rules.specs.Broken.{V01}
use Rattle.design_rules.specs.Clashes.{is_taken}
use Rattle.ods_names.specs.Mentions.{mention_of}
use Rattle.ods_names.specs.NameLists.{names_of}
use Rattle.ods_names.proofs.TakenLaws.{clash_is, told_where, quiet_where}
use Rattle.ods_names.proofs.clashes.judge_one.Goals as goal

pub returns-in-true-clause-told : goal.returns-in-true-clause-told
returns-in-true-clause-told c = λ requests earlier h.
    let m = c.args.mention.now in
    told_where (is_taken earlier (mention_of requests m)) (V01 m.name.now) c.tell.result
    (sym (clash_is requests c.args.taken.now earlier h m.role m.name.now (names_of m.open.items)) ∙ sym c.in-true.ensures) c.tell.ensures

pub returns-in_ok-add-in-false-clause-told : goal.returns-in_ok-add-in-false-clause-told
returns-in_ok-add-in-false-clause-told c = λ requests earlier h.
    let m = c.args.mention.now in
    quiet_where (is_taken earlier (mention_of requests m)) (V01 m.name.now)
    (sym (clash_is requests c.args.taken.now earlier h m.role m.name.now (names_of m.open.items)) ∙ sym c.in-false.ensures)
