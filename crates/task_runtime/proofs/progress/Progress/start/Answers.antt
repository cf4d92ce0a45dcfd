use Rattle.std.proofs.Common.{arith, ◌∙◌}
use Rattle.task_runtime.proofs.Starting.{starts_some, starts_ticks, starts_works}
use Rattle.task_runtime.proofs.progress.Progress.start.Goals as goal

pub returns-in-Some-clause-ticks : goal.returns-in-Some-clause-ticks
returns-in-Some-clause-ticks c =
    c.start_of.ensures.ticks ∙ starts_ticks c.requires.sound.0 c.args.self.now c.requires.sound.1 c.args.costs.now c.args.duration c.in-Some.piece
    c.in-Some.is

pub returns-in-Some-clause-works : goal.returns-in-Some-clause-works
returns-in-Some-clause-works c =
    c.start_of.ensures.works ∙ starts_works c.requires.sound.0 c.args.self.now c.requires.sound.1 c.args.costs.now c.args.duration c.in-Some.piece
    c.in-Some.is

pub returns-in-Some-clause-some : goal.returns-in-Some-clause-some
returns-in-Some-clause-some c =
    let e = c.start_of.ensures.ticks in
    let f = c.start_of.ensures.works in
    let le = starts_some c.requires.sound.0 c.args.self.now c.requires.sound.1 c.args.costs.now c.args.duration c.in-Some.piece c.in-Some.is
    c.requires.long in
    omega (arith, e, f, le)
