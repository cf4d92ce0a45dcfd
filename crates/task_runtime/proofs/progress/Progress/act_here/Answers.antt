use Rattle.std.proofs.Common.{Some, ap, subst, ◌∙◌}
use Rattle.task_runtime.specs.Doings.{StaysOutside}
use Rattle.task_runtime.specs.declared.piece.Piece.TheVariants as is
use Rattle.task_runtime.proofs.Finishes.{finish_at_work, finish_does, finish_keeps}
use Rattle.task_runtime.proofs.Reaching.{none_lent}
use Rattle.task_runtime.proofs.progress.Progress.act_here.Goals as goal

pub call-requires-clause-lent : goal.call-requires-clause-lent
call-requires-clause-lent c =
    none_lent c.args.code.now c.args.self.now c.requires.at_work c.in-Call.op c.in-Call.actuals c.in-Call.outs
    (c.requires.piece ∙ ap (λ x. Some (is.Here x)) c.in-Call.is)
    (subst (λ x. StaysOutside c.args.code.now (is.Here x)) c.in-Call.is c.requires.outside)

pub returns-in-Finish-clause-at_work : goal.returns-in-Finish-clause-at_work
returns-in-Finish-clause-at_work c =
    finish_at_work c.args.code.now c.args.self.now c.requires.at_work (c.requires.piece ∙ ap (λ x. Some (is.Here x)) c.in-Finish.is)

pub returns-in-Finish-clause-does : goal.returns-in-Finish-clause-does
returns-in-Finish-clause-does c =
    finish_does c.args.code.now c.args.self.now c.requires.at_work (c.requires.piece ∙ ap (λ x. Some (is.Here x)) c.in-Finish.is)

pub returns-in-Finish-clause-keeps : goal.returns-in-Finish-clause-keeps
returns-in-Finish-clause-keeps c =
    finish_keeps c.args.code.now c.args.self.now c.requires.at_work (c.requires.piece ∙ ap (λ x. Some (is.Here x)) c.in-Finish.is)
