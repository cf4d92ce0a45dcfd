use Rattle.std.proofs.Common.{ℕ, ◌<◌, sym, ap, subst, ◌∙◌}
use Rattle.task_runtime.specs.Effort.{first_ticks}
use Rattle.task_runtime.specs.Readies.{is_ready}
use Rattle.task_runtime.proofs.Shared.Starting.{activation-ticks}
use Rattle.task_runtime.specs.Lefts.{pieces_left}
use Rattle.task_runtime.proofs.After.{nothing_left}
use Rattle.task_runtime.proofs.Firsts.{none_left}
use Rattle.task_runtime.proofs.task.Task.release.Goals as goal

pub begin-requires-clause-rests : goal.begin-requires-clause-rests
begin-requires-clause-rests c =
    let m = c.args.self.now in
    none_left c.args.code.now m.progress c.requires.at_work
    (nothing_left (is_ready m.readiness) (pieces_left m.progress) m.asleep c.requires.rests)

pub returns-clause-some : goal.returns-clause-some
returns-clause-some c =
    let m = c.args.self.now in
    let d = c.duration-duration.result in
    subst (λ (n : ℕ). 0 < n) (sym (c.start-start.ensures.ticks ∙ ap (first_ticks c.args.costs.now d) c.begin.ensures.pieces))
    (activation-ticks c.args.costs.now d _ _ c.requires.ticking c.duration-duration.ensures.long c.requires.at_work.stacked.works.runs.block)
