use Rattle.std.proofs.Common.{arith, sym, ◌∙◌, subst}
use Rattle.std.proofs.lemmas.Option.{same_Some}
use Rattle.ceil_runtime.specs.Processing.{IsBelow}
use Rattle.task_runtime.specs.declared.task.Task.{Task}
use Rattle.ceil_runtime.proofs.Alone.{asleep-from, each-most}
use Rattle.ceil_runtime.specs.Shown.{snapshot_of}
use Rattle.ceil_runtime.proofs.Phases.{caller-here, caller-known, whole-acting}
use Rattle.ceil_runtime.proofs.processor.Machine.alone_until.Goals as goal

pub index-requires : goal.index-requires
index-requires c =
    omega (arith, caller-known (snapshot_of c.args.self.now) c.args.task c.requires.acting, c.args.self.now.tasks.ok.0)

pub first_release-most-requires-clause-in_time : goal.first_release-most-requires-clause-in_time
first_release-most-requires-clause-in_time c = c.requires.acting.whole.sound.in_time

pub first_release-most-requires-clause-later : goal.first_release-most-requires-clause-later
first_release-most-requires-clause-later c =
    let m = c.args.self.now in
    let s = snapshot_of m in
    asleep-from _ m.time m.links.asleep c.requires.acting.whole.sound.sleeping

pub returns-then-is_outranked : goal.returns-then-is_outranked
returns-then-is_outranked c =
    let m = c.args.self.now in
    let s = snapshot_of m in
    record {
      later = omega arith;
      horizon = c.requires.acting.whole.sound.in_time;
      wake = asleep-from _ m.time m.links.asleep c.requires.acting.whole.sound.sleeping;
      arrival = λ n from before. absurd (omega (arith, from, before));
      first = λ less t at. absurd (omega (arith, less));
    }

pub returns : goal.returns
returns c =
    let m = c.args.self.now in
    let s = snapshot_of m in
    let i = c.args.task in
    let sound = (whole-acting s i c.requires.acting).sound in
    let t = c.index.result.now in
    let here = caller-here s i c.requires.acting t c.index.ensures in
    let below = c.is_outranked.ensures c.if-is_outranked.false in
    record {
      later = c.first_arrival.ensures.later;
      horizon = omega (arith, c.first_arrival.ensures.most, c.first_release-most.ensures.horizon);
      wake = each-most c.first_arrival.result c.first_release-most.result m.links.asleep c.first_arrival.ensures.most
          c.first_release-most.ensures.wake;
      arrival = c.first_arrival.ensures.arrival;
      first = λ less u at. subst (λ (v : Task). IsBelow v.active m.links.ready) (same_Some t u (sym here ∙ at)) below;
    }
