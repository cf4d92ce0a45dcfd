use Rattle.std.proofs.Common.{[], ◌∷◌, ◌++◌, ap, sym, subst, ◌∙◌, arith, length}
use Rattle.task_runtime.specs.Framed.{AreThere, Framed, there}
use Rattle.task_runtime.proofs.Framing.{are_more, there_count, there_more}
use Rattle.task_runtime.proofs.frames.Frames.push.Goals as goal

pub push_reserved-requires : goal.push_reserved-requires
push_reserved-requires c =
    let e = there_count c.self.inside.calls.items c.self.invariant in
    let n = ap (λ (f : Framed). length f.items) c.self.view_is in
    let m = ap (λ (f : Framed). f.room) c.self.view_is in
    (omega arith, omega (arith, e, n, m, c.requires))

pub invariant_of-self : goal.invariant_of-self
invariant_of-self c =
    subst AreThere (sym c.push_reserved.ensures.items) (are_more c.self.inside.calls.items c.args.frame c.self.invariant)

pub returns-clause-items : goal.returns-clause-items
returns-clause-items c =
    ap there c.push_reserved.ensures.items ∙ there_more c.self.inside.calls.items c.args.frame
    ∙ ap (λ (f : Framed). f.items ++ c.args.frame ∷ []) c.self.view_is
