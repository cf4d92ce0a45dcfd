use Rattle.std.proofs.Common.{[], ◌||◌, ap}
use Rattle.ods_names.specs.Taken.{has_request}
use Rattle.ods_names.proofs.TakenSteps.{standing_step, table_end}
use Rattle.ods_names.proofs.taken.request_table.Goals as goal

pub objects-init : goal.objects-init
objects-init c = λ p n. ap (λ b. b || has_request 0 c.args.objects.now p n) (c.new-table.ensures p 0 [] n)

pub objects-preserved : goal.objects-preserved
objects-preserved c = λ p n.
    standing_step c.args.objects.now c.objects.place c.index-objects-place.result p n _ _ _ c.objects-test.true c.index-objects-place.is
    (c.in_ok-add_standing.ensures p n) (c.objects.invariant p n)

pub returns : goal.returns
returns c = λ p n. table_end c.args.objects.now c.objects.place p n c.objects-test.false (c.objects.invariant p n)
