use Rattle.std.proofs.Common.{ap, arith, sym, ◌∙◌}
use Rattle.task_runtime.specs.Readies.{is_ready}
use Rattle.task_runtime.specs.declared.effects.Act.TheVariants.{Ended}
use Rattle.ceil_runtime.specs.Acted.{with_tasks}
use Rattle.ceil_runtime.specs.Shown.{snapshot_of}
use Rattle.ceil_runtime.proofs.ActedLaws.{acted-among, acted-few, acted-within, answered-acted, left-at-work, left-found, left-free}
use Rattle.ceil_runtime.proofs.ActedLaws.{left-next, left-works}
use Rattle.ceil_runtime.proofs.ActedLaws.{unserved-acted}
use Rattle.ceil_runtime.proofs.EntrySteps.{waits-open}
use Rattle.ceil_runtime.proofs.Phases.{telling}
use Rattle.ceil_runtime.proofs.processor.Machine.answer.Goals as goal

pub index_mut-active-requires : goal.index_mut-active-requires
index_mut-active-requires c =
    let r = c.requires.acted in
    omega (
      arith,
      acted-within r.0 (snapshot_of c.args.self.now) c.args.task (Ended c.args.target c.args.value) r.1 r.2 r.3,
      c.args.self.now.tasks.ok.0,
    )

pub index_mut-asked-requires : goal.index_mut-asked-requires
index_mut-asked-requires c =
    let r = c.requires.acted in
    omega (
      arith,
      acted-among r.0 (snapshot_of c.args.self.now) c.args.task (Ended c.args.target c.args.value) r.1 r.2 r.3 c.args.target r.3.done.among,
      c.args.self.now.tasks.ok.0,
    )

pub overflow_cast-target : goal.overflow_cast-target
overflow_cast-target c =
    let r = c.requires.acted in
    let s = snapshot_of c.args.self.now in
    let act = Ended c.args.target c.args.value in
    omega (
      arith,
      acted-among r.0 s c.args.task act r.1 r.2 r.3 c.args.target r.3.done.among,
      acted-few r.0 s c.args.task act r.1 r.2 r.3,
    )

pub release-requires-clause-rests : goal.release-requires-clause-rests
release-requires-clause-rests c = ap is_ready (waits-open c.index_mut-asked.result.now (sym c.is_served.ensures ∙ c.if-not-is_served.false)).0

pub release-requires-clause-near : goal.release-requires-clause-near
release-requires-clause-near c =
    let r = c.requires.acted in
    let s = snapshot_of c.args.self.now in
    let x = c.index_mut-active.result.now in
    left-next r.0 s c.args.task c.args.target c.args.value r.1 x _ _ (left-found r.0 s c.args.task c.args.target c.args.value r.1 r.2 r.3 x
    c.index_mut-active.ensures.value c.go_outside.new.self c.go_outside.ensures.progress c.go_outside.ensures.task c.index_mut-asked.result.now
    c.index_mut-asked.ensures.value)

pub release-requires-clause-at_work : goal.release-requires-clause-at_work
release-requires-clause-at_work c =
    let r = c.requires.acted in
    let s = snapshot_of c.args.self.now in
    let x = c.index_mut-active.result.now in
    left-at-work r.0 s c.args.task c.args.target c.args.value r.1 x _ _ (left-found r.0 s c.args.task c.args.target c.args.value r.1 r.2 r.3 x
    c.index_mut-active.ensures.value c.go_outside.new.self c.go_outside.ensures.progress c.go_outside.ensures.task c.index_mut-asked.result.now
    c.index_mut-asked.ensures.value)

pub release-requires-clause-few : goal.release-requires-clause-few
release-requires-clause-few c =
    let r = c.requires.acted in
    let s = snapshot_of c.args.self.now in
    let x = c.index_mut-active.result.now in
    left-works r.0 s c.args.task c.args.target c.args.value r.1 x _ _ (left-found r.0 s c.args.task c.args.target c.args.value r.1 r.2 r.3 x
    c.index_mut-active.ensures.value c.go_outside.new.self c.go_outside.ensures.progress c.go_outside.ensures.task c.index_mut-asked.result.now
    c.index_mut-asked.ensures.value)

pub push_tail-requires : goal.push_tail-requires
push_tail-requires c =
    let r = c.requires.acted in
    let s = snapshot_of c.args.self.now in
    let x = c.index_mut-active.result.now in
    left-free r.0 s c.args.task c.args.target c.args.value r.1 x _ _ (left-found r.0 s c.args.task c.args.target c.args.value r.1 r.2 r.3 x
    c.index_mut-active.ensures.value c.go_outside.new.self c.go_outside.ensures.progress c.go_outside.ensures.task c.index_mut-asked.result.now
    c.index_mut-asked.ensures.value) (waits-open c.index_mut-asked.result.now (sym c.is_served.ensures ∙ c.if-not-is_served.false)).0

pub returns-then-not-is_served : goal.returns-then-not-is_served
returns-then-not-is_served c = λ ts t t' acted.
    let s = snapshot_of c.args.self.now in
    let x = c.index_mut-active.result.now in
    telling (with_tasks ts s) _ _ _ (unserved-acted ts s c.args.task c.args.target c.args.value t x _ _ (left-found ts s c.args.task c.args.target c.args.value t t' acted x
    c.index_mut-active.ensures.value c.go_outside.new.self c.go_outside.ensures.progress c.go_outside.ensures.task c.index_mut-asked.result.now
    c.index_mut-asked.ensures.value) (sym c.is_served.ensures ∙ c.if-not-is_served.true)) c.tell.ensures

pub returns : goal.returns
returns c = λ ts t t' acted.
    let s = snapshot_of c.args.self.now in
    let x = c.index_mut-active.result.now in
    telling (with_tasks ts s) _ _ _ (answered-acted ts s c.args.task c.args.target c.args.value t x _ _ (left-found ts s c.args.task c.args.target c.args.value t t' acted x
    c.index_mut-active.ensures.value c.go_outside.new.self c.go_outside.ensures.progress c.go_outside.ensures.task c.index_mut-asked.result.now
    c.index_mut-asked.ensures.value) (sym c.is_served.ensures ∙ c.if-not-is_served.false) c.release.new.self c.release.ensures.task
    c.release.ensures.thread c.release.ensures.works c.release.ensures.at_work c.push_tail.new.self c.push_tail.ensures) c.tell_both.ensures
