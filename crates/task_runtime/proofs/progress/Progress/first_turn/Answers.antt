use Rattle.std.proofs.Common.{◌≡◌, ℕ, List, ◌+◌, length, ap, ◌∙◌, set, arith}
use Rattle.std.proofs.lemmas.List.{length-set}
use Rattle.linker.specs.declared.code.Ins.TheVariants as ins
use Rattle.task_runtime.proofs.Moves.{amid_after, amid_behind, first_fits, first_goes, first_long, stacked_after}
use Rattle.task_runtime.proofs.progress.Progress.first_turn.Goals as goal

pub put-requires : goal.put-requires
put-requires c =
    let lt = first_fits c.args.code.now c.args.self.now c.requires.at_work c.args.counter c.args.low c.requires.piece in
    omega (arith, lt)

pub put-requires-2 : goal.put-requires-2
put-requires-2 c =
    let lt = first_fits c.args.code.now c.args.self.now c.requires.at_work c.args.counter c.args.low c.requires.piece in
    let e = ap length c.put.ensures.here ∙ length-set c.args.self.now.stack.slots.here c.args.counter c.args.low in
    omega (arith, lt, e)

together : (here mid new : List ℕ) (counter low : ℕ) → mid ≡ set here counter low → new ≡ set mid (counter + 1) low
    → new ≡ set (set here counter low) (counter + 1) low
together here mid new counter low one two = two ∙ ap (λ z. set z (counter + 1) low) one

pub go_on-requires-clause-stacked : goal.go_on-requires-clause-stacked
go_on-requires-clause-stacked c =
    let p = c.args.self.now in
    let put = together p.stack.slots.here _ _ c.args.counter c.args.low c.put.ensures.here c.put-2.ensures.here in
    stacked_after c.args.code.now p c.requires.at_work c.put-2.new.self (c.put-2.ensures.away ∙ c.put.ensures.away)
    (ap length put ∙ first_long c.args.code.now p c.requires.at_work c.args.counter c.args.low c.requires.piece)

pub go_on-requires-clause-amid : goal.go_on-requires-clause-amid
go_on-requires-clause-amid c =
    let p = c.args.self.now in
    let put = together p.stack.slots.here _ _ c.args.counter c.args.low c.put.ensures.here c.put-2.ensures.here in
    amid_after c.args.code.now p c.requires.at_work c.put-2.new.self (c.put-2.ensures.away ∙ c.put.ensures.away)
    (ap length put ∙ first_long c.args.code.now p c.requires.at_work c.args.counter c.args.low c.requires.piece) _
    (amid_behind c.args.code.now p c.requires.at_work (ins.Begin c.args.counter c.args.low) c.requires.piece tt)

pub returns : goal.returns
returns c =
    let p = c.args.self.now in
    first_goes c.args.code.now p c.requires.at_work c.args.counter c.args.low c.requires.piece c.put-2.new.self
    (c.put-2.ensures.away ∙ c.put.ensures.away)
    (together p.stack.slots.here _ _ c.args.counter c.args.low c.put.ensures.here c.put-2.ensures.here) c.go_on.new.self c.go_on.ensures
