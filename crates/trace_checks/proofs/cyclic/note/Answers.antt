use Rattle.std.proofs.Common.{ap, set, sym, ◌∙◌}
use Rattle.ada_tree.specs.Trees.{form_of}
use Rattle.trace_checks.specs.Cycles.{next_after, nexts_by}
use Rattle.trace_checks.proofs.UnitSteps.{change-is-set}
use Rattle.trace_checks.proofs.cyclic.note.Goals as goal

pub returns-in-Cyclic : goal.returns-in-Cyclic
returns-in-Cyclic c =
    ap (set c.args.nexts.now.items c.args.task) c.next_after.ensures
    ∙ change-is-set c.args.nexts.now.items c.args.task c.index.result.now
    (λ next. next_after c.in-Cyclic.period c.args.until next c.args.time c.args.value) c.requires.task c.index.ensures
    ∙ ap (λ form. nexts_by c.args.until (form_of form) c.args.nexts.now.items c.args.time c.args.task c.args.value) (sym c.in-Cyclic.is)
