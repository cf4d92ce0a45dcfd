use Rattle.std.proofs.Common.{drop, ap, ◌∙◌}
use Rattle.linker.specs.Slots.{vars_at}
use Rattle.task_runtime.proofs.Zeros.{vars_read}
use Rattle.task_runtime.proofs.slots.Slots.here.Goals as goal

pub returns : goal.returns
returns c = λ scope.
    let t = c.self.inside in
    let i = c.self.invariant in
    ap (vars_at scope) (c.split_at.ensures.back ∙ ap (drop t.base) c.deref.ensures.value)
    ∙ vars_read t.base t.count t.values.items c.args.self.now c.self.view_is i.0 i.1 scope
