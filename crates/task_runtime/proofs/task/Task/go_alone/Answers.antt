use Rattle.std.proofs.Common.{ap, sym, subst, ◌∙◌}
use Rattle.task_runtime.specs.Alongs.{GoesAlong, IsSpent, can_go}
use Rattle.task_runtime.proofs.Alongs.{falls_both, few_used, few_works, has_acted, has_stayed, keeps_done, keeps_none, keeps_used}
use Rattle.task_runtime.proofs.task.Task.go_alone.Goals as goal

pub pieces-init : goal.pieces-init
pieces-init c = record {
  keeps = keeps_none c.args.code.now c.args.costs.now c.args.limit c.args.from c.args.self.now c.requires.at_work c.requires.later c.requires.used
      c.requires.works;
}

pub use_left-time-requires-clause-later : goal.use_left-time-requires-clause-later
use_left-time-requires-clause-later c = c.pieces.invariant.keeps.later

pub use_left-time-requires-clause-small : goal.use_left-time-requires-clause-small
use_left-time-requires-clause-small c = few_used _ _ _ _ _ _ _ c.pieces.invariant.keeps c.requires.near

pub act_alone-requires-clause-at_work : goal.act_alone-requires-clause-at_work
act_alone-requires-clause-at_work c =
    (keeps_used _ _ _ _ _ _ _ c.pieces.invariant.keeps c.use_left-time.result c.use_left-time.new.self c.use_left-time.ensures.uses).at_work

pub act_alone-requires-clause-few : goal.act_alone-requires-clause-few
act_alone-requires-clause-few c =
    few_works _ _ _ _ _ _ _
    (keeps_used _ _ _ _ _ _ _ c.pieces.invariant.keeps c.use_left-time.result c.use_left-time.new.self c.use_left-time.ensures.uses) c.requires.near

pub pieces-preserved : goal.pieces-preserved
pieces-preserved c =
    let u = c.use_left-time.new.self in
    let k = keeps_used _ _ _ _ _ _ _ c.pieces.invariant.keeps c.use_left-time.result u c.use_left-time.ensures.uses in
    let d = has_acted c.act_alone.result c.args.code.now c.args.costs.now u c.act_alone.new.self c.act_alone.ensures.acts c.if-not-act_alone.false in
    record { keeps = keeps_done _ _ _ _ _ _ _ k c.act_alone.new.self d.0 d.1 }

pub pieces-smaller : goal.pieces-smaller
pieces-smaller c =
    let u = c.use_left-time.new.self in
    let d = has_acted c.act_alone.result c.args.code.now c.args.costs.now u c.act_alone.new.self c.act_alone.ensures.acts c.if-not-act_alone.false in
    falls_both _ _ _ _ _ _ _ c.pieces.invariant.keeps c.use_left-time.result u c.act_alone.new.self c.use_left-time.ensures.uses d.0 d.1

pub returns-then-not-act_alone-clause-goes : goal.returns-then-not-act_alone-clause-goes
returns-then-not-act_alone-clause-goes c =
    let u = c.use_left-time.new.self in
    let k = keeps_used _ _ _ _ _ _ _ c.pieces.invariant.keeps c.use_left-time.result u c.use_left-time.ensures.uses in
    let same = has_stayed c.act_alone.result c.args.code.now c.args.costs.now u c.act_alone.new.self c.act_alone.ensures.acts c.if-not-act_alone.true in
    subst (GoesAlong c.args.code.now c.args.costs.now c.args.limit c.args.from c.args.self.now c.use_left-time.result) (sym same) k.goes

pub returns-then-not-act_alone-clause-spent : goal.returns-then-not-act_alone-clause-spent
returns-then-not-act_alone-clause-spent c =
    let u = c.use_left-time.new.self in
    let same = has_stayed c.act_alone.result c.args.code.now c.args.costs.now u c.act_alone.new.self c.act_alone.ensures.acts c.if-not-act_alone.true in
    subst (IsSpent c.args.limit c.use_left-time.result) (sym same) c.use_left-time.ensures.spent

pub returns-then-not-act_alone-clause-alone : goal.returns-then-not-act_alone-clause-alone
returns-then-not-act_alone-clause-alone c =
    let u = c.use_left-time.new.self in
    let same = has_stayed c.act_alone.result c.args.code.now c.args.costs.now u c.act_alone.new.self c.act_alone.ensures.acts c.if-not-act_alone.true in
    ap (can_go c.args.code.now) same ∙ sym c.act_alone.ensures.alone ∙ c.if-not-act_alone.true
