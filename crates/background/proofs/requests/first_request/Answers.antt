use Rattle.std.proofs.Common.{◌∙◌, Some, option_map, slice_get, sym, ap}
use Rattle.std.proofs.lemmas.Option.{slice_get-get_or, slice_get-map}
use Rattle.ods_tree.specs.Trees.{flat_of, thread_of}
use Rattle.background.proofs.RequestLaws.{requests-first}
use Rattle.background.proofs.requests.first_request.Goals as goal

pub threads-init : goal.threads-init
threads-init c = requests-first (flat_of c.args.flat.now)

pub request_fault-requires-clause-stands : goal.request_fault-requires-clause-stands
request_fault-requires-clause-stands c =
    let place = c.threads.place in
    let lent = c.deref-thread-items.result.now in
    slice_get-map thread_of c.args.flat.now.threads.items place
    ∙ ap (λ ts. option_map thread_of (slice_get ts place)) (sym c.deref-thread-items.ensures.value)
    ∙ ap (option_map thread_of) (slice_get-get_or lent place c.thread-item.result c.threads-test.true ∙ ap Some (sym c.thread-item.is))
