use Rattle.std.proofs.Common.{rules, option_map, ap, ◌∙◌}
use Rattle.std.proofs.lemmas.Option.{slice_get-map}
use Rattle.ods_tree.specs.Trees.{flat_of, thread_of}
use Rattle.rt_block.specs.Causes.{cause_of}
use Rattle.design_bounds.proofs.Shared.RowLaws.{there, not-there}
use Rattle.explanation.proofs.ThreadSteps.{none-added, one-added}
use Rattle.explanation.proofs.threads.add_reasons.Goals as goal

pub returns-in-None : goal.returns-in-None
returns-in-None c =
    let threads = c.args.flat.now.threads.items in
    none-added (flat_of c.args.flat.now) (c.args.place, (c.args.row.now, (c.args.reach, (option_map cause_of c.args.cause.now, c.args.priority))))
    c.args.into.now.items
    (slice_get-map thread_of threads c.args.place ∙ ap (option_map thread_of)
    (not-there threads c.args.place (rw c.deref.ensures.value at c.in-None.ensures.lookup)))

pub returns-in_ok-push-in-Some : goal.returns-in_ok-push-in-Some
returns-in_ok-push-in-Some c =
    let threads = c.args.flat.now.threads.items in
    one-added (flat_of c.args.flat.now) (c.args.place, (c.args.row.now, (c.args.reach, (option_map cause_of c.args.cause.now, c.args.priority))))
    (thread_of c.in-Some.thread.now) _ _ c.args.into.now.items _
    (slice_get-map thread_of threads c.args.place ∙ ap (option_map thread_of)
    (there threads c.args.place c.in-Some.thread (rw c.deref.ensures.value at c.in-Some.ensures.lookup)))
    (search rules) (search rules) c.in_ok-push-in-Some.ensures.items
