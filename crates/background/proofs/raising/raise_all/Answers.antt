use Rattle.std.proofs.Common.{ap, max, slice_set, ◌∙◌}
use Rattle.ods_forms.proofs.Shared.SetSteps.{written}
use Rattle.background.proofs.raising.raise_all.Goals as goal

pub numbers-preserved : goal.numbers-preserved
numbers-preserved c =
    ap (slice_set c.numbers.numbers c.numbers.place) c.max.ensures
    ∙ written (max c.args.least) c.args.numbers.now c.numbers.numbers c.numbers.place 0 c.numbers-test.true c.numbers.invariant
