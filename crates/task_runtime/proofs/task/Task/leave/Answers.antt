use Rattle.std.proofs.Common.{refl}
use Rattle.machine.specs.Deeds as deeds
use Rattle.task_runtime.specs.Stacked.{vars_of}
use Rattle.task_runtime.specs.Lefts.{pieces_left, vars_left}
use Rattle.task_runtime.specs.declared.piece.Piece.TheVariants as is
use Rattle.task_runtime.proofs.After.{goes_on, stands_as}
use Rattle.task_runtime.proofs.Doing.{falls_on, stays_inside}
use Rattle.task_runtime.proofs.task.Task.leave.Goals as goal

pub returns-clause-leaves : goal.returns-clause-leaves
returns-clause-leaves c =
    let m = c.args.self.now in
    let q = c.leave-values.new.self in
    let d = c.leave-values.ensures.does in
    record {
      piece = d.piece;
      rest = d.rest;
      vars = vars_left q;
      pieces = pieces_left q;
      first = d.first;
      does = d.does;
      after = goes_on m q c.args.costs.now c.duration-duration.result (vars_left q) c.start-start.result.ticks c.start-start.result.works
          c.leave-values.ensures.thread c.duration-duration.ensures.next refl c.start-start.ensures.ticks c.start-start.ensures.works;
    }

pub returns-clause-falls : goal.returns-clause-falls
returns-clause-falls c =
    let m = c.args.self.now in
    let q = c.leave-values.new.self in
    let d = c.leave-values.ensures.does in
    falls_on c.args.code.now m.progress q c.leave-values.ensures.at_work c.leave-values.ensures.thread c.args.costs.now c.duration-duration.result
    c.requires.ticking c.duration-duration.ensures.long d.piece (vars_left m.progress) (vars_left q) d.rest _ d.first d.does
    c.start-start.result.ticks c.start-start.ensures.ticks

pub returns-clause-inside : goal.returns-clause-inside
returns-clause-inside c =
    let m = c.args.self.now in
    let q = c.leave-values.new.self in
    let d = c.leave-values.ensures.does in
    let e = c.args.entry in
    let act = deeds.Leave e.object e.place c.leave-values.result (vars_of c.leave-values.new.«data».items) in
    stays_inside c.args.code.now m.progress.stack (vars_left m.progress) is.Close d.piece d.rest (pieces_left m.progress) act (vars_left q)
    (pieces_left q) (stands_as c.args.code.now m.progress c.requires.at_work is.Close c.requires.piece d.piece d.rest d.first) d.first d.does
