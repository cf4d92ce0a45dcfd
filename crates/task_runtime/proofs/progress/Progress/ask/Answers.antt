use Rattle.std.proofs.Common.{◌+◌, arith}
use Rattle.linker.specs.declared.code.Ins.TheVariants as ins
use Rattle.task_runtime.proofs.Moves.{amid_behind, ask_goes}
use Rattle.task_runtime.proofs.Places.{place_there}
use Rattle.task_runtime.proofs.progress.Progress.ask.Goals as goal

pub request_value-value-requires-clause-piece : goal.request_value-value-requires-clause-piece
request_value-value-requires-clause-piece c = (c.args.task, c.requires.piece)

pub overflow_add-self : goal.overflow_add-self
overflow_add-self c =
    let lt = place_there c.args.code.now c.args.self.now.stack c.requires.at_work.stacked (c.args.self.now.at + 1)
    (amid_behind c.args.code.now c.args.self.now c.requires.at_work (ins.Request c.args.task c.args.value) c.requires.piece tt) in
    let long = c.args.code.now.code.ins.ok.0 in
    omega (arith, lt, long)

pub returns : goal.returns
returns c =
    ask_goes c.args.code.now c.args.self.now c.requires.at_work c.args.task c.args.value c.requires.piece c.request_value-value.result
    c.request_value-value.ensures
