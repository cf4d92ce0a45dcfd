use Rattle.std.proofs.Common.{◌≡◌, ◌<◌, ◌∙◌, ap, length, refl, sym, Some}
use Rattle.std.specs.Prelude.{slice_get}
use Rattle.std.proofs.lemmas.Option.{slice_get_read}
use Rattle.ceil_runtime.proofs.Heads.{first-holds, within-head, within-none}
use Rattle.ceil_runtime.proofs.processor.until_effect.Goals as goal

pub bounds-tasks-task : goal.bounds-tasks-task
bounds-tasks-task c = first-holds (λ e. e.0 < length c.args.tasks.now) c.args.links.now.ready (c.in-Some.task, c.in-Some.field-0-1)
    (sym c.head.ensures.head ∙ c.in-Some.is) c.requires.known

pub returns-in-Some-clause-within : goal.returns-in-Some-clause-within
returns-in-Some-clause-within c =
    let ts = c.args.tasks.now in
    let i = c.in-Some.task in
    let t = c.index-tasks-task.result in
    let at = sym c.head.ensures.head ∙ c.in-Some.is in
    let known = first-holds (λ e. e.0 < length ts) c.args.links.now.ready (i, c.in-Some.field-0-1) at c.requires.known in
    let here : slice_get ts i ≡ Some t = slice_get_read ts (length ts) i t refl known c.index-tasks-task.is in
    let left = c.from.ensures ∙ sym (ap (λ u. u.left) c.index-tasks-task.is) in
    within-head ts c.args.links.now.ready (i, c.in-Some.field-0-1) t c.args.most c.from.result c.max.result c.min.result at here c.requires.some left
    c.max.ensures c.min.ensures

pub returns-in-None-clause-within : goal.returns-in-None-clause-within
returns-in-None-clause-within c = within-none c.args.tasks.now c.args.links.now.ready c.args.most (sym c.head.ensures.head ∙ c.in-None.is)
