use Rattle.task_runtime.specs.declared.piece.Deed.TheVariants.{Own, Enter, Leave, Ask}
use Rattle.ceil_runtime.specs.Shown.{snapshot_of}
use Rattle.ceil_runtime.proofs.Phases.{caller-at-work, caller-here, caller-known, doing-of}
use Rattle.std.proofs.Common.{arith}
use Rattle.ceil_runtime.proofs.processor.Machine.effect.Goals as goal

pub index-requires : goal.index-requires
index-requires c =
    omega (arith, caller-known (snapshot_of c.args.self.now) c.args.task c.requires.acting, c.args.self.now.tasks.ok.0)

pub deed-requires-clause-at_work : goal.deed-requires-clause-at_work
deed-requires-clause-at_work c = caller-at-work (snapshot_of c.args.self.now) c.args.task c.requires.acting _ c.index.ensures

pub deed-requires-clause-piece : goal.deed-requires-clause-piece
deed-requires-clause-piece c =
    (c.requires.piece _ (caller-here (snapshot_of c.args.self.now) c.args.task c.requires.acting _ c.index.ensures)).0

pub act-requires : goal.act-requires
act-requires c = record {
  does = doing-of (snapshot_of c.args.self.now) c.args.task c.requires.acting _ c.index.ensures c.args.piece Own c.requires.piece
      c.in-Own.ensures.deed c.in-Own.ensures.acts;
  empty = c.requires.empty;
}

pub enter-requires : goal.enter-requires
enter-requires c = record {
  does = doing-of (snapshot_of c.args.self.now) c.args.task c.requires.acting _ c.index.ensures c.args.piece (Enter c.in-Enter.entry)
      c.requires.piece c.in-Enter.ensures.deed c.in-Enter.ensures.acts;
}

pub leave-requires : goal.leave-requires
leave-requires c = record {
  does = doing-of (snapshot_of c.args.self.now) c.args.task c.requires.acting _ c.index.ensures c.args.piece (Leave c.in-Leave.entry)
      c.requires.piece c.in-Leave.ensures.deed c.in-Leave.ensures.acts;
}

pub ask-requires : goal.ask-requires
ask-requires c = record {
  does = doing-of (snapshot_of c.args.self.now) c.args.task c.requires.acting _ c.index.ensures c.args.piece (Ask c.in-Ask.target)
      c.requires.piece c.in-Ask.ensures.deed c.in-Ask.ensures.acts;
  empty = c.requires.empty;
}

pub returns-in-Own : goal.returns-in-Own
returns-in-Own c = c.act.ensures

pub returns-in-Enter : goal.returns-in-Enter
returns-in-Enter c = c.enter.ensures

pub returns-in-Leave : goal.returns-in-Leave
returns-in-Leave c = c.leave.ensures

pub returns-in-Ask : goal.returns-in-Ask
returns-in-Ask c = c.ask.ensures
