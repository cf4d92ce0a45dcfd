use Rattle.std.proofs.Common.{[], ◌++◌, ap, subst, ◌∙◌, IfOk, append-nil}
use Rattle.seq_tree.specs.Trees.{operation_of}
use Rattle.linker.specs.Bodies.{LinksBody}
use Rattle.linker.specs.Programs.{datum_names, param_names}
use Rattle.linker.specs.Scopes.{slots_of}
use Rattle.linker.specs.Standing.{lists_of}
use Rattle.linker.specs.declared.code.Ins.TheVariants as ins
use Rattle.linker.proofs.program.link_op.Goals as goal

pub returns : goal.returns
returns g c =
    let b = c.args.body in
    let vars = datum_names b.vars.now in
    let locals = datum_names b.op.now.locals.items in
    let one = c.in_ok-add_data.ensures [] c.new-scope.ensures in
    let two = (rw c.deref.ensures.value at c.in_ok-add_data-2.ensures) (vars ++ []) one in
    let three = (rw c.deref-2.ensures.value at c.in_ok-add_params.ensures) (locals ++ (vars ++ [])) two in
    subst (λ s. IfOk c.link_body.result (λ start. LinksBody (g.C.Calls.leads c.args.calls.now) s (lists_of c.args.code.now)
    (lists_of c.link_body.new.code) start ins.Return (operation_of b.op.now).block))
    (three ∙ ap (λ ns. slots_of (param_names b.op.now.sig.params.items ++ (locals ++ ns))) (append-nil vars)) c.link_body.ensures
