use Rattle.std.proofs.Common.{ap, ◌∙◌}
use Rattle.task_runtime.proofs.Fresh.{open_amid, open_pieces, open_stacked, open_vars, room_there}
use Rattle.task_runtime.proofs.progress.Progress.begin.Goals as goal

pub open-requires : goal.open-requires
open-requires c = room_there c.args.code.now c.args.self.now c.requires.at_work c.requires.rests

pub go_to-requires-clause-stacked : goal.go_to-requires-clause-stacked
go_to-requires-clause-stacked c =
    open_stacked c.args.code.now c.args.self.now c.requires.at_work c.requires.rests c.open.new.self c.open.ensures.thread c.open.ensures.start
    c.open.ensures.frames c.open.ensures.away c.open.ensures.count

pub go_to-requires-clause-amid : goal.go_to-requires-clause-amid
go_to-requires-clause-amid c =
    open_amid c.args.code.now c.args.self.now c.requires.at_work c.requires.rests c.open.new.self c.open.ensures.thread c.open.ensures.start
    c.open.ensures.frames c.open.ensures.away c.open.ensures.count

pub returns-clause-at_work : goal.returns-clause-at_work
returns-clause-at_work c = c.go_to.ensures.at_work

pub returns-clause-thread : goal.returns-clause-thread
returns-clause-thread c = ap (λ s. s.thread) c.go_to.ensures.stack ∙ c.open.ensures.thread

pub returns-clause-frames : goal.returns-clause-frames
returns-clause-frames c = ap (λ s. s.frames.room) c.go_to.ensures.stack ∙ ap (λ f. f.room) c.open.ensures.frames

pub returns-clause-vars : goal.returns-clause-vars
returns-clause-vars c =
    open_vars c.args.code.now c.args.self.now c.requires.at_work c.requires.rests c.open.new.self c.open.ensures.thread c.open.ensures.start
    c.open.ensures.frames c.open.ensures.away c.open.ensures.count c.args.value c.go_to.new.self c.go_to.ensures c.open.ensures.vars

pub returns-clause-pieces : goal.returns-clause-pieces
returns-clause-pieces c =
    open_pieces c.args.code.now c.args.self.now c.requires.at_work c.requires.rests c.open.new.self c.open.ensures.thread c.open.ensures.start
    c.open.ensures.frames c.open.ensures.away c.open.ensures.count c.go_to.new.self c.go_to.ensures
