use Rattle.std.proofs.Common.{◌≡◌, true, map, ap, ◌∙◌}
use Rattle.std.specs.List.{list_any}
use Rattle.ada_tree.specs.Trees.{program_of, unit_of}
use Rattle.ada_tree.specs.Uses.{breaks_uses}
use Rattle.ada_rules.specs.declared.ops.Offered.TheVariants as which
use Rattle.ada_rules.specs.Offers.{is_offered}
use Rattle.name_sets.specs.Sets.{has_op}
use Rattle.ada_rules.proofs.UnitLaws.{uses_are}
use Rattle.ada_rules.proofs.FirstLaws.{none_at_all, passes, stops}
use Rattle.ada_rules.proofs.uses.first_by_uses.Goals as goal

pub units-preserved : goal.units-preserved
units-preserved c =
    passes (λ k u. breaks_uses (program_of c.args.program.now) u) c.as_slice-list.result.now c.units.place c.index-list-place.result
    c.in_ok-breaks_uses.field-0 c.units-test.true c.index-list-place.is
    (c.in_ok-breaks_uses.ensures
    ∙ uses_are (program_of c.args.program.now) (unit_of c.index-list-place.result) (has_op c.in_ok-passive.passive)
    (λ n. c.in_ok-passive.ensures n ∙ ap (λ us. list_any (is_offered which.Passive n) (map unit_of us)) c.as_slice-list.ensures.value))
    c.if-branch.false c.units.invariant

pub returns-then-branch : goal.returns-then-branch
returns-then-branch c =
    stops (λ k u. breaks_uses (program_of c.args.program.now) u) c.as_slice-list.result.now c.args.program.now.units.items c.units.place
    c.index-list-place.result c.in_ok-breaks_uses.field-0 c.as_slice-list.ensures.value c.units-test.true c.index-list-place.is
    (c.in_ok-breaks_uses.ensures
    ∙ uses_are (program_of c.args.program.now) (unit_of c.index-list-place.result) (has_op c.in_ok-passive.passive)
    (λ n. c.in_ok-passive.ensures n ∙ ap (λ us. list_any (is_offered which.Passive n) (map unit_of us)) c.as_slice-list.ensures.value))
    c.if-branch.true c.units.invariant

pub returns : goal.returns
returns c = none_at_all (λ k u. breaks_uses (program_of c.args.program.now) u ≡ true) c.as_slice-list.result.now c.args.program.now.units.items
    c.units.place c.as_slice-list.ensures.value c.units-test.false c.units.invariant
