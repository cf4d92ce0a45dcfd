use Rattle.std.proofs.Common.{Some, length, refl, ap, ◌∙◌, arith}
use Rattle.std.proofs.lemmas.Option.{slice_get_read}
use Rattle.task_runtime.specs.declared.piece.Piece.TheVariants as is
use Rattle.task_runtime.proofs.Callings.{op_there}
use Rattle.task_runtime.proofs.Reaching.{calls_own, enters}
use Rattle.task_runtime.proofs.progress.Progress.deed.Goals as goal

pub index-requires : goal.index-requires
index-requires c =
    let lt = op_there c.args.code.now c.args.self.now c.requires.at_work c.in-Call.op c.in-Call.actuals c.in-Call.outs
    (c.requires.piece ∙ ap Some (c.in-Here.is ∙ ap is.Here c.in-Call.is)) in
    omega (arith, lt, c.args.code.now.ops.ok.0)

pub returns-in-Some : goal.returns-in-Some
returns-in-Some c =
    let ops = c.args.code.now.ops.items in
    let lt = op_there c.args.code.now c.args.self.now c.requires.at_work c.in-Call.op c.in-Call.actuals c.in-Call.outs
    (c.requires.piece ∙ ap Some (c.in-Here.is ∙ ap is.Here c.in-Call.is)) in
    enters c.args.code.now c.args.piece c.in-Call.op c.in-Call.actuals c.in-Call.outs c.index.result.now (c.in-Some.object, c.in-Some.place)
    (c.in-Here.is ∙ ap is.Here c.in-Call.is) (slice_get_read ops (length ops) c.in-Call.op c.index.result.now refl lt c.index.ensures) c.in-Some.is

pub returns-in-None : goal.returns-in-None
returns-in-None c =
    let ops = c.args.code.now.ops.items in
    let lt = op_there c.args.code.now c.args.self.now c.requires.at_work c.in-Call.op c.in-Call.actuals c.in-Call.outs
    (c.requires.piece ∙ ap Some (c.in-Here.is ∙ ap is.Here c.in-Call.is)) in
    calls_own c.args.code.now c.args.piece c.in-Call.op c.in-Call.actuals c.in-Call.outs c.index.result.now
    (c.in-Here.is ∙ ap is.Here c.in-Call.is) (slice_get_read ops (length ops) c.in-Call.op c.index.result.now refl lt c.index.ensures) c.in-None.is
