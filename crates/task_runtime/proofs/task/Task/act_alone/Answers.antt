use Rattle.std.proofs.Common.{arith}
use Rattle.task_runtime.proofs.Alongs.{has_gone, not_gone, same_progress, silent_acts, silent_falls, silent_inside}
use Rattle.task_runtime.proofs.task.Task.act_alone.Goals as goal

pub returns-then-not-act_alone-clause-acts : goal.returns-then-not-act_alone-clause-acts
returns-then-not-act_alone-clause-acts c =
    let m = c.args.self.now in
    let q = c.act_alone.new.self in
    same_progress m q (not_gone c.act_alone.result c.args.code.now m.progress q c.act_alone.ensures.goes c.if-not-act_alone.true) _ _ _ _ _

pub returns-clause-acts : goal.returns-clause-acts
returns-clause-acts c =
    let code = c.args.code.now in
    let m = c.args.self.now in
    let q = c.act_alone.new.self in
    let g = has_gone c.act_alone.result code m.progress q c.act_alone.ensures.goes c.if-not-act_alone.false in
    let costs = c.args.costs.now in
    let d = c.duration-duration in
    let s = c.start-ticks in (
      c.if-self-ne0.false,
      record {
        at_work = g.at_work;
        acts = silent_acts code costs m c.requires.at_work c.requires.ticking q g d.result d.ensures.next d.ensures.long s.result.ticks s.result.works
            s.ensures.ticks s.ensures.works;
        thread = g.thread;
        works = omega (arith, s.ensures.some);
        falls = silent_falls code costs m c.requires.at_work c.requires.ticking q g d.result d.ensures.next d.ensures.long s.result.ticks
            s.result.works s.ensures.ticks s.ensures.works;
        among = tt;
        inside = silent_inside code costs m c.requires.at_work c.requires.ticking q g;
      },
    )
