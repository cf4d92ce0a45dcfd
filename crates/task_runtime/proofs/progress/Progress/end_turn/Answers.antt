use Rattle.std.proofs.Common.{◌+◌, ap, ◌∙◌, set, arith}
use Rattle.linker.specs.declared.code.Ins.TheVariants as ins
use Rattle.task_runtime.proofs.Moves.{amid_behind, count_fits, counts_goes, leaves_goes}
use Rattle.task_runtime.proofs.progress.Progress.end_turn.Goals as goal

pub get-value-requires : goal.get-value-requires
get-value-requires c =
    let lt = count_fits c.args.code.now c.args.self.now c.requires.at_work c.args.counter c.args.last c.args.start c.requires.piece in
    omega (arith, lt)

pub put-requires : goal.put-requires
put-requires c =
    let lt = count_fits c.args.code.now c.args.self.now c.requires.at_work c.args.counter c.args.last c.args.start c.requires.piece in
    omega (arith, lt)

pub returns-then-value-last : goal.returns-then-value-last
returns-then-value-last c =
    let e = c.get-value.ensures in
    counts_goes c.args.code.now c.args.self.now c.requires.at_work c.args.counter c.args.last c.args.start c.requires.piece
    (omega (arith, e, c.if-value-last.true)) c.put.new.self c.put.ensures.away
    (c.put.ensures.here ∙ ap (λ v. set c.args.self.now.stack.slots.here c.args.counter (v + 1)) e)

pub go_on-requires-clause-amid : goal.go_on-requires-clause-amid
go_on-requires-clause-amid c =
    amid_behind c.args.code.now c.args.self.now c.requires.at_work (ins.Next c.args.counter c.args.last c.args.start) c.requires.piece tt

pub returns-else-value-last : goal.returns-else-value-last
returns-else-value-last c =
    let e = c.get-value.ensures in
    leaves_goes c.args.code.now c.args.self.now c.requires.at_work c.args.counter c.args.last c.args.start c.requires.piece
    (omega (arith, e, c.if-value-last.false)) c.go_on.new.self c.go_on.ensures
