use Rattle.std.proofs.Common.{◌++◌}
use Rattle.machine.specs.Deeds as deeds
use Rattle.task_runtime.specs.Stacked.{vars_of}
use Rattle.task_runtime.specs.Lefts.{pieces_left, vars_left}
use Rattle.task_runtime.proofs.After.{goes_on, some_piece, stands_as}
use Rattle.task_runtime.proofs.Doing.{falls_on, stays_inside}
use Rattle.task_runtime.proofs.task.Task.enter.Goals as goal

pub returns-clause-enters : goal.returns-clause-enters
returns-clause-enters c =
    let m = c.args.self.now in
    let q = c.enter-values.new.self in
    let e = c.enter-values.ensures.does in
    let d = e.1 in
    record {
      piece = d.piece;
      rest = d.rest;
      vars = e.0;
      pieces = pieces_left q;
      first = d.first;
      does = d.does;
      after = goes_on m q c.args.costs.now c.duration-duration.result (e.0 ++ vars_of c.args.«data».now.items) c.start-start.result.ticks
          c.start-start.result.works c.enter-values.ensures.thread c.duration-duration.ensures.next e.2 c.start-start.ensures.ticks
          c.start-start.ensures.works;
    }

pub returns-clause-falls : goal.returns-clause-falls
returns-clause-falls c =
    let m = c.args.self.now in
    let q = c.enter-values.new.self in
    let e = c.enter-values.ensures.does in
    let d = e.1 in
    falls_on c.args.code.now m.progress q c.enter-values.ensures.at_work c.enter-values.ensures.thread c.args.costs.now c.duration-duration.result
    c.requires.ticking c.duration-duration.ensures.long d.piece (vars_left m.progress) e.0 d.rest _ d.first d.does
    c.start-start.result.ticks c.start-start.ensures.ticks

pub returns-clause-inside : goal.returns-clause-inside
returns-clause-inside c =
    let m = c.args.self.now in
    let q = c.enter-values.new.self in
    let e = c.enter-values.ensures.does in
    let d = e.1 in
    let act = deeds.Enter c.args.entry.object c.args.entry.place c.enter-values.result in
    let first = some_piece m.progress.piece c.requires.some in
    stays_inside c.args.code.now m.progress.stack (vars_left m.progress) first.0 d.piece d.rest (pieces_left m.progress) act e.0
    (pieces_left q) (stands_as c.args.code.now m.progress c.requires.at_work first.0 first.1 d.piece d.rest d.first) d.first d.does
