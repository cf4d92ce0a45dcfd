use Rattle.std.proofs.Common.{◌++◌, ap, sym, subst, ◌∙◌}
use Rattle.std.specs.Option.{option_to_list}
use Rattle.task_runtime.specs.Framed.{AreThere, Framed, IsInnermost, there}
use Rattle.task_runtime.proofs.Framing.{last_there}
use Rattle.task_runtime.proofs.frames.Frames.pop.Goals as goal

pub invariant_of-self-2 : goal.invariant_of-self-2
invariant_of-self-2 c =
    (last_there c.pop.new.self.items c.in-Some.frame (subst AreThere c.in-Some.ensures.items c.self.invariant)).are

pub returns-clause-items : goal.returns-clause-items
returns-clause-items c =
    let k = last_there c.pop.new.self.items c.in-Some.frame (subst AreThere c.in-Some.ensures.items c.self.invariant) in
    ap (λ (f : Framed). f.items) (sym c.self.view_is) ∙ ap there c.in-Some.ensures.items ∙ k.items
    ∙ ap (λ o. there c.pop.new.self.items ++ option_to_list o) (sym k.is)

pub returns-clause-last : goal.returns-clause-last
returns-clause-last c =
    let k = last_there c.pop.new.self.items c.in-Some.frame (subst AreThere c.in-Some.ensures.items c.self.invariant) in
    subst (IsInnermost c.args.self.now.items) (sym k.is)
    (there c.pop.new.self.items, ap (λ (f : Framed). f.items) (sym c.self.view_is) ∙ ap there c.in-Some.ensures.items ∙ k.items)
