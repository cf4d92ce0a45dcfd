use Rattle.std.proofs.Common.{arith, refl}
use Rattle.ceil_runtime.specs.Shown.{snapshot_of}
use Rattle.ceil_runtime.proofs.Phases.{caller-at-work, caller-here, caller-known, caller-works}
use Rattle.ceil_runtime.proofs.processor.Machine.own_effect.Goals as goal

pub index_mut-requires : goal.index_mut-requires
index_mut-requires c =
    omega (arith, caller-known (snapshot_of c.args.self.now) c.args.task c.requires.acting, c.args.self.now.tasks.ok.0)

pub act-requires-clause-at_work : goal.act-requires-clause-at_work
act-requires-clause-at_work c =
    caller-at-work (snapshot_of c.args.self.now) c.args.task c.requires.acting _ c.index_mut.ensures.value

pub act-requires-clause-ready : goal.act-requires-clause-ready
act-requires-clause-ready c =
    (c.requires.piece _ (caller-here (snapshot_of c.args.self.now) c.args.task c.requires.acting _ c.index_mut.ensures.value)).1

pub act-requires-clause-piece : goal.act-requires-clause-piece
act-requires-clause-piece c =
    (c.requires.piece _ (caller-here (snapshot_of c.args.self.now) c.args.task c.requires.acting _ c.index_mut.ensures.value)).0

pub act-requires-clause-outside : goal.act-requires-clause-outside
act-requires-clause-outside c =
    c.requires.outside _ (caller-here (snapshot_of c.args.self.now) c.args.task c.requires.acting _ c.index_mut.ensures.value)

pub act-requires-clause-few : goal.act-requires-clause-few
act-requires-clause-few c = caller-works (snapshot_of c.args.self.now) c.args.task c.requires.acting _ c.index_mut.ensures.value

pub act-requires-clause-used : goal.act-requires-clause-used
act-requires-clause-used c =
    (c.requires.piece _ (caller-here (snapshot_of c.args.self.now) c.args.task c.requires.acting _ c.index_mut.ensures.value)).2

pub act-requires-clause-ticking : goal.act-requires-clause-ticking
act-requires-clause-ticking c = c.args.self.now.ticking

pub returns-clause-acted : goal.returns-clause-acted
returns-clause-acted c =
    let t = c.index_mut.result.now in
    let here = caller-here (snapshot_of c.args.self.now) c.args.task c.requires.acting t c.index_mut.ensures.value in (
      t,
      c.act.new.self,
      record {
        acting = c.requires.acting;
        here = here;
        due = (c.requires.piece t here).2;
        done = record {
          at_work = c.act.ensures.at_work;
          acts = c.act.ensures.acts;
          thread = c.act.ensures.thread;
          works = c.act.ensures.works;
          falls = c.act.ensures.falls;
          among = c.act.ensures.among;
          inside = c.act.ensures.inside;
        };
        tasks = refl;
      },
    )

pub returns-clause-before : goal.returns-clause-before
returns-clause-before c = refl
