use Rattle.std.proofs.Common.{ap, ◌∙◌}
use Rattle.seq_tree.specs.Names.{is_named}
use Rattle.ods_tree.specs.Trees.{thread_of}
use Rattle.analysis.specs.Ceilings.{uses_object}
use Rattle.rt_order.specs.ByNames.{places_at}
use Rattle.rt_order.specs.Called.{names_of}
use Rattle.rt_order.proofs.NameLaws.{used-is}
use Rattle.rt_order.proofs.PlaceSteps.{place-step}
use Rattle.rt_order.proofs.users.threads_by_name.Goals as goal

pub threads-preserved : goal.threads-preserved
threads-preserved c = λ n.
    let t = thread_of c.index-threads-i.result in
    let names = names_of c.as_slice.result.now in
    place-step thread_of (uses_object n) c.args.threads.now c.threads.i c.index-threads-i.result (is_named names n) _ _ _
    c.threads-test.true c.index-threads-i.is (used-is t names n (ap names_of c.as_slice.ensures.value ∙ c.in_ok-names.ensures))
    (c.in_ok-add_each.ensures n) (c.threads.invariant n)
