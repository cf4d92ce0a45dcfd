use Rattle.std.proofs.Common.{List, ap, sym, subst, ◌∙◌}
use Rattle.seq_tree.specs.Values.{value}
use Rattle.linker.specs.Nodes.{Links}
use Rattle.linker.specs.declared.nodes.Node.{Node}
use Rattle.task_runtime.proofs.stack.Stack.value.Goals as goal

pub returns : goal.returns
returns c = λ scope e reads.
    let links = subst (λ (ns : List Node). Links ns scope c.args.operand e) (sym c.deref.ensures.value) reads.links in
    c.value_at.ensures e scope links ∙ ap (value e) (c.here.ensures scope)
