use Rattle.std.proofs.Common.{◌≡◌, ◌||◌, not, true, map, sym, ap, ◌∙◌}
use Rattle.std.specs.List.{list_any}
use Rattle.std.proofs.Math.Bool.{or-false}
use Rattle.seq_tree.specs.Names.{Name, is_named, are_distinct}
use Rattle.ada_tree.specs.Bodies.{bodies}
use Rattle.ada_tree.specs.Naming.{body_clashes, own_names}
use Rattle.ada_tree.specs.Trees.{form_of}
use Rattle.ada_rules.specs.Clashes.{clashes_inside}
use Rattle.ada_rules.specs.Lists.{names_of}
use Rattle.ada_rules.specs.Parts.{body_of}
use Rattle.name_sets.specs.Sets.{has}
use Rattle.ada_rules.proofs.ClashSteps.{same_answer}
use Rattle.ada_rules.proofs.UnitLaws.{own_clash, bodies_are}
use Rattle.ada_rules.proofs.naming.unit_clashes.Goals as goal

pub returns-then-not-branch : goal.returns-then-not-branch
returns-then-not-branch c =
    let names : names_of c.as_slice.result.now ≡ own_names (form_of c.args.form.now) = ap names_of c.as_slice.ensures.value ∙ c.in_ok-own.ensures in
    ap (λ d. not d || list_any (body_clashes (form_of c.args.form.now)) (bodies (form_of c.args.form.now)))
    (sym c.if-not-branch.true ∙ c.in_ok-add_new.ensures.new
    ∙ own_clash (form_of c.args.form.now) (names_of c.as_slice.result.now) (has c.new-taken.result)
    (has c.new-nothing.result) names c.new-taken.ensures c.new-nothing.ensures)

pub returns : goal.returns
returns c =
    let names : names_of c.as_slice.result.now ≡ own_names (form_of c.args.form.now) = ap names_of c.as_slice.ensures.value ∙ c.in_ok-own.ensures in
    let apart : are_distinct (own_names (form_of c.args.form.now)) ≡ true =
    sym (sym c.if-not-branch.false ∙ c.in_ok-add_new.ensures.new
    ∙ own_clash (form_of c.args.form.now) (names_of c.as_slice.result.now) (has c.new-taken.result)
    (has c.new-nothing.result) names c.new-taken.ensures c.new-nothing.ensures) in
    let taken : (n : Name) → has c.add_new.new.inside n ≡ is_named (own_names (form_of c.args.form.now)) n =
    λ n. c.in_ok-add_new.ensures.added n ∙ ap (λ b. is_named (names_of c.as_slice.result.now) n || b) (c.new-taken.ensures n)
    ∙ or-false (is_named (names_of c.as_slice.result.now) n) ∙ ap (λ ns. is_named ns n) names in
    same_answer c.bodies_clash.result _ _
    (ap (λ bs. list_any (clashes_inside (has c.add_new.new.inside)) (map body_of bs)) c.as_slice-2.ensures.value
    ∙ ap (list_any (clashes_inside (has c.add_new.new.inside))) c.in_ok-bodies.ensures
    ∙ bodies_are (form_of c.args.form.now) (has c.add_new.new.inside) taken apart)
    c.bodies_clash.ensures
