use Rattle.std.proofs.Common.{arith}
use Rattle.ceil_runtime.proofs.Alone.{alone-along}
use Rattle.ceil_runtime.specs.Shown.{snapshot_of}
use Rattle.ceil_runtime.proofs.Phases.{caller-at-work, caller-here, caller-kept, caller-known}
use Rattle.ceil_runtime.proofs.processor.Machine.go_on.Goals as goal

pub index_mut-active-requires : goal.index_mut-active-requires
index_mut-active-requires c =
    omega (arith, caller-known (snapshot_of c.args.self.now) c.args.task c.requires.acting, c.args.self.now.tasks.ok.0)

pub go_alone-self-requires-clause-at_work : goal.go_alone-self-requires-clause-at_work
go_alone-self-requires-clause-at_work c =
    caller-at-work (snapshot_of c.args.self.now) c.args.task c.requires.acting _ c.index_mut-active.ensures.value

pub go_alone-self-requires-clause-later : goal.go_alone-self-requires-clause-later
go_alone-self-requires-clause-later c = c.alone_until-limit.ensures.later

pub go_alone-self-requires-clause-near : goal.go_alone-self-requires-clause-near
go_alone-self-requires-clause-near c = omega (arith, c.alone_until-limit.ensures.horizon, c.requires.acting.whole.sound.near)

pub go_alone-self-requires-clause-used : goal.go_alone-self-requires-clause-used
go_alone-self-requires-clause-used c =
    (caller-kept (snapshot_of c.args.self.now) c.args.task c.requires.acting _ c.index_mut-active.ensures.value).used

pub go_alone-self-requires-clause-works : goal.go_alone-self-requires-clause-works
go_alone-self-requires-clause-works c =
    (caller-kept (snapshot_of c.args.self.now) c.args.task c.requires.acting _ c.index_mut-active.ensures.value).works

pub go_alone-self-requires-clause-ticking : goal.go_alone-self-requires-clause-ticking
go_alone-self-requires-clause-ticking c = c.args.self.now.ticking

pub returns : goal.returns
returns c =
    let s = snapshot_of c.args.self.now in
    let i = c.args.task in
    let t = c.index_mut-active.result.now in
    let g = c.go_alone-self.ensures.goes in (
      c.alone_until-limit.result,
      alone-along s i c.alone_until-limit.result c.requires.acting c.alone_until-limit.ensures t c.go_alone-self.new.self c.go_alone-self.result g.0
          (caller-here s i c.requires.acting t c.index_mut-active.ensures.value) g.1,
    )
