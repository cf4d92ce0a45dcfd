use Rattle.std.proofs.Common.{◌≡◌, ◌∷◌, ◌<◌, ℕ, drop, get_or, length, suc, None, Some, sym, ap, subst, ◌∙◌}
use Rattle.std.specs.Prelude.{IfSome}
use Rattle.trace_read.specs.Chains.{Stands, from_out, out_by}
use Rattle.trace_read.specs.Deeds.{part_of, task_of}
use Rattle.trace_read.proofs.Chaining.{chain-deed, chain-other, out-passed, out-stands}
use Rattle.trace_read.proofs.chains.note_exit.Goals as goal

pub returns-in-None-clause-chain : goal.returns-in-None-clause-chain
returns-in-None-clause-chain c = λ es here chain.
    let none : task_of c.args.event.now ≡ None = sym c.task_of.ensures ∙ c.in-None.is in
    chain-other from_out es c.args.at c.args.event.now here (out-passed c.args.event.now) c.args.chain.now none chain

pub returns-in-Some-clause-chain : goal.returns-in-Some-clause-chain
returns-in-Some-clause-chain c = λ es here chain.
    let own : task_of c.args.event.now ≡ Some c.in-Some.task = sym c.task_of.ensures ∙ c.in-Some.is in
    let fits : c.in-Some.task < length c.args.chain.now.head.items =
    subst (λ o. IfSome o (λ t. t < length c.args.chain.now.head.items)) own c.requires.task in
    let outer : ℕ = get_or c.args.chain.now.head.items c.in-Some.task 0 in
    let head : c.out-head.result ≡ out_by (part_of c.in-Some.task c.args.event.now) c.args.chain.now.next.items outer c.args.at =
    c.out-head.ensures ∙ ap (λ part. out_by part c.args.chain.now.next.items outer c.args.at) c.part_of.ensures in
    let stands : Stands es c.out-head.result (from_out c.in-Some.task (c.args.event.now ∷ drop (suc c.args.at) es)) =
    subst (λ i. Stands es i (from_out c.in-Some.task (c.args.event.now ∷ drop (suc c.args.at) es))) (sym head)
    (out-stands es c.args.at c.in-Some.task c.args.event.now c.args.chain.now.next.items outer here chain.long chain.leads
    (chain.heads c.in-Some.task fits))
    in
    chain-deed from_out es c.args.at c.args.event.now here (out-passed c.args.event.now) c.args.chain.now c.put.new.self c.in-Some.task
    c.out-head.result own fits c.put.ensures.next c.put.ensures.head stands chain
