use Rattle.std.proofs.Common.{◌+◌, length, ap, ◌∙◌, set, arith}
use Rattle.std.proofs.lemmas.List.{length-set}
use Rattle.task_runtime.proofs.Moves.{amid_after, stacked_after, turn_amid, turn_fits, turn_goes}
use Rattle.task_runtime.proofs.progress.Progress.next_turn.Goals as goal

pub get-value-requires : goal.get-value-requires
get-value-requires c =
    let lt = turn_fits c.args.code.now c.args.self.now c.requires.at_work c.args.counter c.args.start c.requires.piece in
    omega (arith, lt)

pub put-requires : goal.put-requires
put-requires c = turn_fits c.args.code.now c.args.self.now c.requires.at_work c.args.counter c.args.start c.requires.piece

pub go_to-requires-clause-stacked : goal.go_to-requires-clause-stacked
go_to-requires-clause-stacked c =
    let p = c.args.self.now in
    stacked_after c.args.code.now p c.requires.at_work c.put.new.self c.put.ensures.away
    (ap length c.put.ensures.here ∙ length-set p.stack.slots.here (c.args.counter + 1) _)

pub go_to-requires-clause-amid : goal.go_to-requires-clause-amid
go_to-requires-clause-amid c =
    let p = c.args.self.now in
    amid_after c.args.code.now p c.requires.at_work c.put.new.self c.put.ensures.away
    (ap length c.put.ensures.here ∙ length-set p.stack.slots.here (c.args.counter + 1) _) c.args.start
    (turn_amid c.args.code.now p c.requires.at_work c.args.counter c.args.start c.requires.piece)

pub returns : goal.returns
returns c =
    turn_goes c.args.code.now c.args.self.now c.requires.at_work c.args.counter c.args.start c.requires.piece c.put.new.self c.put.ensures.away
    (c.put.ensures.here ∙ ap (set c.args.self.now.stack.slots.here (c.args.counter + 1)) c.get-value.ensures)
    c.go_to.new.self c.go_to.ensures
