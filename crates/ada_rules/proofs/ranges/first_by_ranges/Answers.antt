use Rattle.std.proofs.Common.{◌≡◌, true}
use Rattle.ada_tree.specs.Ranges.{breaks_ranges}
use Rattle.ada_rules.proofs.FirstLaws.{none_at_all, passes, stops}
use Rattle.ada_rules.proofs.ranges.first_by_ranges.Goals as goal

pub units-preserved : goal.units-preserved
units-preserved c =
    passes (λ k u. breaks_ranges u) c.as_slice-list.result.now c.units.place c.index-list-place.result c.in_ok-breaks_ranges.field-0 c.units-test.true
    c.index-list-place.is
    (c.in_ok-breaks_ranges.ensures) c.if-branch.false c.units.invariant

pub returns-then-branch : goal.returns-then-branch
returns-then-branch c =
    stops (λ k u. breaks_ranges u) c.as_slice-list.result.now c.args.program.now.units.items c.units.place c.index-list-place.result
    c.in_ok-breaks_ranges.field-0 c.as_slice-list.ensures.value c.units-test.true c.index-list-place.is
    (c.in_ok-breaks_ranges.ensures) c.if-branch.true c.units.invariant

pub returns : goal.returns
returns c = none_at_all (λ k u. breaks_ranges u ≡ true) c.as_slice-list.result.now c.args.program.now.units.items c.units.place
    c.as_slice-list.ensures.value c.units-test.false c.units.invariant
