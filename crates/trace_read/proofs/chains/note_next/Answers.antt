use Rattle.std.proofs.Common.{◌≡◌, ◌<◌, length, None, Some, sym, subst, ◌∙◌}
use Rattle.std.specs.Prelude.{IfSome}
use Rattle.trace_read.specs.Deeds.{from_own, task_of}
use Rattle.trace_read.proofs.Chaining.{chain-deed, chain-other, own-passed, own-stands}
use Rattle.trace_read.proofs.chains.note_next.Goals as goal

pub returns-in-None-clause-chain : goal.returns-in-None-clause-chain
returns-in-None-clause-chain c = λ es here chain.
    let none : task_of c.args.event.now ≡ None = sym c.task_of.ensures ∙ c.in-None.is in
    chain-other from_own es c.args.at c.args.event.now here (own-passed c.args.event.now) c.args.chain.now none chain

pub returns-in-Some-clause-chain : goal.returns-in-Some-clause-chain
returns-in-Some-clause-chain c = λ es here chain.
    let own : task_of c.args.event.now ≡ Some c.in-Some.task = sym c.task_of.ensures ∙ c.in-Some.is in
    let fits : c.in-Some.task < length c.args.chain.now.head.items =
    subst (λ o. IfSome o (λ t. t < length c.args.chain.now.head.items)) own c.requires.task in
    chain-deed from_own es c.args.at c.args.event.now here (own-passed c.args.event.now) c.args.chain.now c.put.new.self c.in-Some.task c.args.at own
    fits c.put.ensures.next c.put.ensures.head (own-stands es c.args.at c.in-Some.task c.args.event.now here own) chain
