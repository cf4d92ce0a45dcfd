use Rattle.task_runtime.proofs.Moves.{pass_amid, pass_goes}
use Rattle.task_runtime.proofs.progress.Progress.pass.Goals as goal

pub go_on-requires-clause-amid : goal.go_on-requires-clause-amid
go_on-requires-clause-amid c =
    pass_amid c.args.code.now c.args.self.now c.requires.at_work c.args.ins c.requires.piece c.requires.passes

pub returns : goal.returns
returns c =
    pass_goes c.args.code.now c.args.self.now c.requires.at_work c.args.ins c.requires.piece c.requires.passes c.go_on.new.self c.go_on.ensures
