use Rattle.std.proofs.Common.{◌≡◌, ◌<◌, ◌∙◌, ap, set, sym, length, subst}
use Rattle.seq_tree.specs.Lists.{change}
use Rattle.trace_text.specs.Tallies.{ended}
use Rattle.trace_text.proofs.TallyLaws.{change-is-set}
use Rattle.trace_text.proofs.summary.Summary.count_end.Goals as goal

pub returns-clause-tasks : goal.returns-clause-tasks
returns-clause-tasks c =
    let same : c.self.inside.tasks.items ≡ c.args.self.now.tasks = ap (λ t. t.tasks) c.self.view_is in
    let there : c.args.task < length c.self.inside.tasks.items = subst (λ ts. c.args.task < length ts) (sym same) c.requires in
    ap (set c.self.inside.tasks.items c.args.task) c.ended.ensures
    ∙ change-is-set c.self.inside.tasks.items c.args.task c.index-tally.result.now (ended c.args.time) there c.index-tally.ensures
    ∙ ap (change c.args.task (ended c.args.time)) same
