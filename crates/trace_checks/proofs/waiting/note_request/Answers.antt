use Rattle.std.proofs.Common.{ap, length, map, subst, sym, ◌∙◌}
use Rattle.trace_tree.specs.declared.event.Event.{Event}
use Rattle.trace_checks.specs.Serving.{IsWithin, asked, taken, done, serving_of, serving_after}
use Rattle.trace_checks.proofs.UnitSteps.{on-ok, view-is-set}
use Rattle.trace_checks.proofs.waiting.note_request.Goals as goal

pub returns-in-Release-clause-same : goal.returns-in-Release-clause-same
returns-in-Release-clause-same c =
    view-is-set serving_of c.args.waiting.now.items c.in-Release.task c.index_mut.result.now c.take.new.self
    (taken c.in-Release.time c.in-Release.value)
    (let P : Event → Type 0 = λ e. IsWithin (length c.args.waiting.now.items) e in subst P c.in-Release.is c.requires) c.index_mut.ensures.value c.take.ensures
    ∙ ap (serving_after (map serving_of c.args.waiting.now.items)) (sym c.in-Release.is)

pub returns-in-Arrive-clause-same : goal.returns-in-Arrive-clause-same
returns-in-Arrive-clause-same c = on-ok c.ask.result (λ h. view-is-set serving_of c.args.waiting.now.items c.in-Arrive.task c.index_mut-in-Arrive.result.now c.ask.new.self
    (asked c.in-Arrive.time c.in-Arrive.value)
    (let P : Event → Type 0 = λ e. IsWithin (length c.args.waiting.now.items) e in subst P c.in-Arrive.is c.requires) c.index_mut-in-Arrive.ensures.value h
    ∙ ap (serving_after (map serving_of c.args.waiting.now.items)) (sym c.in-Arrive.is)) c.ask.ensures

pub returns-in-Request-clause-same : goal.returns-in-Request-clause-same
returns-in-Request-clause-same c = on-ok c.ask-in-Request.result (λ h. view-is-set serving_of c.args.waiting.now.items c.in-Request.target c.index_mut-in-Request.result.now c.ask-in-Request.new.self
    (asked c.in-Request.time c.in-Request.value)
    (let P : Event → Type 0 = λ e. IsWithin (length c.args.waiting.now.items) e in subst P c.in-Request.is c.requires) c.index_mut-in-Request.ensures.value h
    ∙ ap (serving_after (map serving_of c.args.waiting.now.items)) (sym c.in-Request.is)) c.ask-in-Request.ensures

pub returns-in-End-clause-same : goal.returns-in-End-clause-same
returns-in-End-clause-same c =
    view-is-set serving_of c.args.waiting.now.items c.in-End.task c.index_mut-in-End.result.now c.end.new.self
    (done c.in-End.time)
    (let P : Event → Type 0 = λ e. IsWithin (length c.args.waiting.now.items) e in subst P c.in-End.is c.requires) c.index_mut-in-End.ensures.value c.end.ensures
    ∙ ap (serving_after (map serving_of c.args.waiting.now.items)) (sym c.in-End.is)
