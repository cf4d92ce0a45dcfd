use Rattle.std.proofs.Common.{length, ap, ◌∙◌}
use Rattle.std.proofs.lemmas.List.{length-set}
use Rattle.linker.specs.declared.code.Ins.TheVariants as ins
use Rattle.task_runtime.proofs.Moves.{amid_after, amid_behind, assign_fits, assign_goes, assign_read, stacked_after}
use Rattle.task_runtime.proofs.progress.Progress.assign.Goals as goal

pub value-value-requires-clause-reads : goal.value-value-requires-clause-reads
value-value-requires-clause-reads c =
    assign_read c.args.code.now c.args.self.now c.requires.at_work c.args.slot c.args.value c.requires.piece

pub put-requires : goal.put-requires
put-requires c = assign_fits c.args.code.now c.args.self.now c.requires.at_work c.args.slot c.args.value c.requires.piece

pub go_on-requires-clause-stacked : goal.go_on-requires-clause-stacked
go_on-requires-clause-stacked c =
    let p = c.args.self.now in
    stacked_after c.args.code.now p c.requires.at_work c.put.new.self c.put.ensures.away
    (ap length c.put.ensures.here ∙ length-set p.stack.slots.here c.args.slot c.value-value.result)

pub go_on-requires-clause-amid : goal.go_on-requires-clause-amid
go_on-requires-clause-amid c =
    let p = c.args.self.now in
    amid_after c.args.code.now p c.requires.at_work c.put.new.self c.put.ensures.away
    (ap length c.put.ensures.here ∙ length-set p.stack.slots.here c.args.slot c.value-value.result) _
    (amid_behind c.args.code.now p c.requires.at_work (ins.Assign c.args.slot c.args.value) c.requires.piece tt)

pub returns : goal.returns
returns c =
    assign_goes c.args.code.now c.args.self.now c.requires.at_work c.args.slot c.args.value c.requires.piece c.value-value.result
    c.value-value.ensures c.put.new.self c.put.ensures.away c.put.ensures.here c.go_on.new.self c.go_on.ensures
