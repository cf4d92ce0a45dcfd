use Rattle.std.proofs.lemmas.Bool.{eq-eqb, ne_eqb}
use Rattle.linker.specs.declared.code.Ins.TheVariants as ins
use Rattle.task_runtime.proofs.Moves.{amid_behind, other_amid, test_goes_on, test_goes_past, test_read}
use Rattle.task_runtime.proofs.progress.Progress.test.Goals as goal

pub value-requires-clause-reads : goal.value-requires-clause-reads
value-requires-clause-reads c = test_read c.args.code.now c.args.self.now c.requires.at_work c.args.cond c.args.other c.requires.piece

pub go_on-requires-clause-amid : goal.go_on-requires-clause-amid
go_on-requires-clause-amid c =
    amid_behind c.args.code.now c.args.self.now c.requires.at_work (ins.Test c.args.cond c.args.other) c.requires.piece tt

pub go_to-requires-clause-amid : goal.go_to-requires-clause-amid
go_to-requires-clause-amid c =
    other_amid c.args.code.now c.args.self.now c.requires.at_work c.args.cond c.args.other c.requires.piece c.value.result c.value.ensures
    (ne_eqb c.value.result 1 c.if-value-eq1.false)

pub returns-then-value-eq1 : goal.returns-then-value-eq1
returns-then-value-eq1 c =
    test_goes_on c.args.code.now c.args.self.now c.requires.at_work c.args.cond c.args.other c.requires.piece c.value.result c.value.ensures
    (eq-eqb c.value.result 1 c.if-value-eq1.true) c.go_on.new.self c.go_on.ensures

pub returns-else-value-eq1 : goal.returns-else-value-eq1
returns-else-value-eq1 c =
    test_goes_past c.args.code.now c.args.self.now c.requires.at_work c.args.cond c.args.other c.requires.piece c.value.result c.value.ensures
    (ne_eqb c.value.result 1 c.if-value-eq1.false) c.go_to.new.self c.go_to.ensures
