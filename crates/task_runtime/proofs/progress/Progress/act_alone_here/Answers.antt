use Rattle.std.proofs.Common.{Some, ap, ◌∙◌}
use Rattle.task_runtime.specs.declared.piece.Piece.TheVariants as is
use Rattle.task_runtime.proofs.Alongs.{return_goes}
use Rattle.task_runtime.proofs.progress.Progress.act_alone_here.Goals as goal

pub returns-in-Return-clause-goes : goal.returns-in-Return-clause-goes
returns-in-Return-clause-goes c =
    return_goes c.args.code.now c.args.self.now c.end_call.new.self c.end_call.result c.requires.at_work
    (c.requires.piece ∙ ap (λ x. Some (is.Here x)) c.in-Return.is) c.end_call.ensures
