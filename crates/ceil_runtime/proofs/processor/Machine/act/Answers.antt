use Rattle.std.proofs.Common.{◌≡◌, arith, false, set, subst, sym, true}
use Rattle.task_runtime.specs.Tasks.{task_of}
use Rattle.task_runtime.specs.Written.{system_of}
use Rattle.task_runtime.specs.declared.effects.Act.TheVariants.{Keep, Open, Print}
use Rattle.task_runtime.specs.declared.piece.Deed.TheVariants.{Own}
use Rattle.ceil_runtime.specs.Acted.{with_tasks}
use Rattle.ceil_runtime.specs.Shown.{snapshot_of}
use Rattle.ceil_runtime.specs.Stepping.{Nothing, One, Steps, StepsTelling}
use Rattle.ceil_runtime.proofs.ActedLaws.{acted-among, acted-found, acted-within, keep-acted, open-acted, print-acted, silent-acted}
use Rattle.ceil_runtime.proofs.Phases.{doing-piece, doing-there, telling}
use Rattle.task_runtime.proofs.Shared.TasksAtWork.{reached-act, stays-own}
use Rattle.trace_tree.specs.declared.event.Event.TheVariants as event
use Rattle.ceil_runtime.proofs.processor.Machine.act.Goals as goal

pub own_effect-requires-clause-acting : goal.own_effect-requires-clause-acting
own_effect-requires-clause-acting c = c.requires.does.1.acting

pub own_effect-requires-clause-piece : goal.own_effect-requires-clause-piece
own_effect-requires-clause-piece c = doing-piece (snapshot_of c.args.self.now) c.args.task c.args.piece Own c.requires.does

pub own_effect-requires-clause-outside : goal.own_effect-requires-clause-outside
own_effect-requires-clause-outside c = λ t there.
    stays-own c.args.self.now.code c.args.piece
    (doing-there (snapshot_of c.args.self.now) c.args.task c.args.piece Own c.requires.does t there).deed

pub returns-in-Silent : goal.returns-in-Silent
returns-in-Silent c =
    let n = snapshot_of c.own_effect.new.self in
    let a = c.in-Silent.ensures.acted in
    telling (snapshot_of c.args.self.now) n Nothing _ (subst (λ x. Steps x Nothing n) (sym c.in-Silent.ensures.before)
    (silent-acted c.args.self.now.tasks.items n c.args.task a.0 a.1 a.2)) c.requires.empty

pub index-requires : goal.index-requires
index-requires c =
    let a = c.in-Print.ensures.acted in
    omega (
      arith,
      acted-within c.args.self.now.tasks.items (snapshot_of c.own_effect.new.self) c.args.task (Print c.in-Print.value) a.0 a.1 a.2,
      c.own_effect.new.self.tasks.ok.0,
    )

pub returns-in-Print : goal.returns-in-Print
returns-in-Print c =
    let ts = c.args.self.now.tasks.items in
    let n = snapshot_of c.own_effect.new.self in
    let a = c.in-Print.ensures.acted in
    let x = c.index.result.now in
    let one = One (event.Print n.time x.progress.stack.thread.unit c.in-Print.value) in
    telling (snapshot_of c.args.self.now) n one _ (subst (λ s. Steps s one n) (sym c.in-Print.ensures.before)
    (print-acted ts n c.args.task a.0 x c.in-Print.value
    (acted-found ts n c.args.task (Print c.in-Print.value) a.0 a.1 a.2 x c.index.ensures))) c.tell.ensures

pub unreachable-requires : goal.unreachable-requires
unreachable-requires c =
    let a = c.in-Ask.ensures.acted in
    let own : false ≡ true = reached-act (system_of a.0.progress.stack.thread) c.own_effect.new.self.costs (task_of a.0) (task_of a.1) Own _
    (doing-there (snapshot_of c.args.self.now) c.args.task c.args.piece Own c.requires.does a.0 a.2.here).reaches a.2.done.acts in
    cc own

pub index_mut-requires : goal.index_mut-requires
index_mut-requires c =
    let a = c.in-Keep.ensures.acted in
    omega (
      arith,
      acted-among c.args.self.now.tasks.items (snapshot_of c.own_effect.new.self) c.args.task (Keep c.in-Keep.target c.in-Keep.value) a.0 a.1 a.2
          c.in-Keep.target a.2.done.among,
      c.own_effect.new.self.tasks.ok.0,
    )

pub returns-in-Keep : goal.returns-in-Keep
returns-in-Keep c =
    let n = snapshot_of c.own_effect.new.self in
    let a = c.in-Keep.ensures.acted in
    telling (snapshot_of c.args.self.now) _ Nothing _
    (subst (λ s. Steps s Nothing (with_tasks (set n.tasks c.in-Keep.target c.keep.new.self) n)) (sym c.in-Keep.ensures.before)
    (keep-acted c.args.self.now.tasks.items n c.args.task a.0 a.1 c.in-Keep.target c.index_mut.result.now c.keep.new.self c.index_mut.ensures.value
    c.keep.ensures.progress c.keep.ensures.same c.in-Keep.value a.2 c.keep.ensures.task)) c.requires.empty

pub index_mut-requires-in-Open : goal.index_mut-requires-in-Open
index_mut-requires-in-Open c =
    let a = c.in-Open.ensures.acted in
    omega (
      arith,
      acted-among c.args.self.now.tasks.items (snapshot_of c.own_effect.new.self) c.args.task (Open c.in-Open.target) a.0 a.1 a.2 c.in-Open.target
          a.2.done.among,
      c.own_effect.new.self.tasks.ok.0,
    )

pub returns-in-Open : goal.returns-in-Open
returns-in-Open c =
    let n = snapshot_of c.own_effect.new.self in
    let a = c.in-Open.ensures.acted in
    telling (snapshot_of c.args.self.now) _ Nothing _
    (subst (λ s. Steps s Nothing (with_tasks (set n.tasks c.in-Open.target c.open_gate.new.self) n)) (sym c.in-Open.ensures.before)
    (open-acted c.args.self.now.tasks.items n c.args.task a.0 a.1 c.in-Open.target c.index_mut-in-Open.result.now c.open_gate.new.self
    c.index_mut-in-Open.ensures.value c.open_gate.ensures.progress c.open_gate.ensures.same a.2 c.open_gate.ensures.task)) c.requires.empty

pub answer-requires : goal.answer-requires
answer-requires c = let a = c.in-Ended.ensures.acted in record { acted = (c.args.self.now.tasks.items, a.0, a.1, a.2) }

pub returns-in-Ended : goal.returns-in-Ended
returns-in-Ended c =
    let a = c.in-Ended.ensures.acted in
    subst (λ s. StepsTelling s c.answer.new.events (snapshot_of c.answer.new.self)) (sym c.in-Ended.ensures.before)
    (c.answer.ensures c.args.self.now.tasks.items a.0 a.1 a.2)

pub finish-requires : goal.finish-requires
finish-requires c = let a = c.in-Finish.ensures.acted in record { acted = (c.args.self.now.tasks.items, a.0, a.1, a.2) }

pub returns-in-Finish : goal.returns-in-Finish
returns-in-Finish c =
    let a = c.in-Finish.ensures.acted in
    subst (λ s. StepsTelling s c.finish.new.events (snapshot_of c.finish.new.self)) (sym c.in-Finish.ensures.before)
    (c.finish.ensures c.args.self.now.tasks.items a.0 a.1 a.2)
