use Rattle.std.proofs.Common.{length, sym, ap, ◌∙◌, refl, [], ◌∷◌}
use Rattle.std.proofs.lemmas.Option.{same_Some, slice_get_read}
use Rattle.trace_tree.specs.declared.event.Event.TheVariants as event
use Rattle.task_runtime.specs.declared.task.Task.{Task}
use Rattle.ceil_runtime.proofs.processor.Machine.stop.Goals as goal

pub returns-clause-machine : goal.returns-clause-machine
returns-clause-machine c = refl

pub returns-clause-told : goal.returns-clause-told
returns-clause-told c = λ t at.
    let m = c.args.self.now in
    let caller = c.index-caller.result.now in
    let here = slice_get_read m.tasks.items (length m.tasks.items) c.args.task caller refl c.requires.known c.index-caller.ensures in
    c.tell.ensures ∙ ap (λ (v : Task). event.Stop m.time v.progress.stack.thread.unit c.args.unit v.active c.args.ceiling ∷ [])
    (same_Some caller t (sym here ∙ at))
