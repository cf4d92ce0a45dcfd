use Rattle.std.proofs.Common.{ap, sym, subst, ◌∙◌}
use Rattle.task_runtime.specs.Framed.{AreThere, Framed, IsInnermost, there}
use Rattle.task_runtime.proofs.Framing.{last_there}
use Rattle.task_runtime.proofs.frames.Frames.last.Goals as goal

pub returns-in-Some : goal.returns-in-Some
returns-in-Some c =
    let cases = rw c.as_slice.ensures at c.in-Some.ensures.cases in
    let rest = c.in-Some.field-0-1.now in
    let k = last_there rest c.in-Some.frame.now (subst AreThere cases.0 c.self.invariant) in
    subst (IsInnermost c.args.self.now.items) (sym k.is)
    (there rest, ap (λ (f : Framed). f.items) (sym c.self.view_is) ∙ ap there cases.0 ∙ k.items)
