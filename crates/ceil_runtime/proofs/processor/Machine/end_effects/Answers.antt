use Rattle.ceil_runtime.specs.Shown.{snapshot_of}
use Rattle.ceil_runtime.specs.Stepping.{Nothing, Steps}
use Rattle.ceil_runtime.specs.declared.processor.Phase.TheVariants.{Delays}
use Rattle.ceil_runtime.proofs.Effected.{running-free}
use Rattle.ceil_runtime.proofs.Phases.{caller-here, in-acting, whole-acting}
use Rattle.ceil_runtime.proofs.Stepped.{end-step}
use Rattle.task_runtime.proofs.Shared.TasksAtWork.{nothing-due}
use Rattle.ceil_runtime.proofs.processor.Machine.end_effects.Goals as goal

pub push_head-requires : goal.push_head-requires
push_head-requires c =
    let s = snapshot_of c.args.self.now in
    let here = caller-here s c.args.task c.requires.acting _ c.index.ensures in
    running-free s.until s.time s.units c.args.task _ s.tasks s.queues (whole-acting s c.args.task c.requires.acting).sound c.index.result.now here

pub returns : goal.returns
returns c =
    let s = snapshot_of c.args.self.now in
    let t = c.index.result.now in
    let here = caller-here s c.args.task c.requires.acting t c.index.ensures in
    in-acting s c.args.task c.requires.acting (λ x. Steps x Nothing (record x { phase = Delays; queues = c.push_head.new.self }))
    (λ whole. end-step s c.args.task whole t here (nothing-due s.code t (whole.at_work c.args.task t here) (c.requires.none t here))
    c.push_head.new.self c.push_head.ensures)
