use Rattle.std.proofs.lemmas.Bool.{eq-eqb, ne_eqb}
use Rattle.linker.specs.declared.code.Ins.TheVariants as ins
use Rattle.task_runtime.proofs.Moves.{amid_behind, exit_amid, exit_goes_on, exit_goes_out, exit_read}
use Rattle.task_runtime.proofs.progress.Progress.exit.Goals as goal

pub value-requires-clause-reads : goal.value-requires-clause-reads
value-requires-clause-reads c = exit_read c.args.code.now c.args.self.now c.requires.at_work c.args.cond c.args.to c.requires.piece

pub go_to-requires-clause-amid : goal.go_to-requires-clause-amid
go_to-requires-clause-amid c =
    exit_amid c.args.code.now c.args.self.now c.requires.at_work c.args.cond c.args.to c.requires.piece c.value.result c.value.ensures
    (eq-eqb c.value.result 1 c.if-value-eq1.true)

pub go_on-requires-clause-amid : goal.go_on-requires-clause-amid
go_on-requires-clause-amid c =
    amid_behind c.args.code.now c.args.self.now c.requires.at_work (ins.Exit c.args.cond c.args.to) c.requires.piece tt

pub returns-then-value-eq1 : goal.returns-then-value-eq1
returns-then-value-eq1 c =
    exit_goes_out c.args.code.now c.args.self.now c.requires.at_work c.args.cond c.args.to c.requires.piece c.value.result c.value.ensures
    (eq-eqb c.value.result 1 c.if-value-eq1.true) c.go_to.new.self c.go_to.ensures

pub returns-else-value-eq1 : goal.returns-else-value-eq1
returns-else-value-eq1 c =
    exit_goes_on c.args.code.now c.args.self.now c.requires.at_work c.args.cond c.args.to c.requires.piece c.value.result c.value.ensures
    (ne_eqb c.value.result 1 c.if-value-eq1.false) c.go_on.new.self c.go_on.ensures
