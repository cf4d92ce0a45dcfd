use Rattle.std.proofs.Common.{◌≡◌, ◌+◌, ◌<◌, get_or, length, None, Some, sym, ap, subst, ◌∙◌}
use Rattle.std.specs.Prelude.{IfSome, max, set}
use Rattle.std.proofs.lemmas.List.{get_or_read}
use Rattle.trace_read.specs.Chains.{object_of}
use Rattle.trace_read.proofs.Chaining.{lasts-deed, lasts-other}
use Rattle.trace_read.proofs.chains.note_last.Goals as goal

pub returns-in-None-clause-lasts : goal.returns-in-None-clause-lasts
returns-in-None-clause-lasts c = λ es here lasts.
    let none : object_of c.args.event.now ≡ None = sym c.object_of.ensures ∙ c.in-None.is in
    lasts-other es c.args.at c.args.event.now here c.args.lasts.now.items none lasts

pub returns-in-Some-clause-lasts : goal.returns-in-Some-clause-lasts
returns-in-Some-clause-lasts c = λ es here lasts.
    let own : object_of c.args.event.now ≡ Some c.in-Some.unit = sym c.object_of.ensures ∙ c.in-Some.is in
    let fits : c.in-Some.unit < length c.args.lasts.now.items = subst (λ o. IfSome o (λ u. u < length c.args.lasts.now.items)) own c.requires.unit in
    let last : c.max.result ≡ max (get_or c.args.lasts.now.items c.in-Some.unit 0) (c.args.at + 1) =
    c.max.ensures
    ∙ ap (λ n. max n (c.args.at + 1)) (get_or_read c.args.lasts.now.items c.in-Some.unit c.index-last.result.now fits c.index-last.ensures 0)
    in
    lasts-deed es c.args.at c.args.event.now here c.args.lasts.now.items (set c.args.lasts.now.items c.in-Some.unit c.max.result) c.in-Some.unit own
    fits (ap (set c.args.lasts.now.items c.in-Some.unit) last) lasts
