use Rattle.linker.specs.declared.code.Ins.TheVariants as ins
use Rattle.task_runtime.proofs.Moves.{amid_behind, print_goes, print_read}
use Rattle.task_runtime.proofs.progress.Progress.print.Goals as goal

pub value-value-requires-clause-reads : goal.value-value-requires-clause-reads
value-value-requires-clause-reads c = print_read c.args.code.now c.args.self.now c.requires.at_work c.args.value c.requires.piece

pub go_on-requires-clause-amid : goal.go_on-requires-clause-amid
go_on-requires-clause-amid c =
    amid_behind c.args.code.now c.args.self.now c.requires.at_work (ins.Put c.args.value) c.requires.piece tt

pub returns : goal.returns
returns c =
    print_goes c.args.code.now c.args.self.now c.requires.at_work c.args.value c.requires.piece c.value-value.result c.value-value.ensures
    c.go_on.new.self c.go_on.ensures
