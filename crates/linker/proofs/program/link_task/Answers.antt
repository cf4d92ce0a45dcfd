use Rattle.std.proofs.Common.{[], ◌++◌, ap, subst, ◌∙◌, IfOk, append-nil}
use Rattle.seq_tree.specs.Trees.{block_of}
use Rattle.linker.specs.Bodies.{LinksBody}
use Rattle.linker.specs.Programs.{datum_names, param_names}
use Rattle.linker.specs.Scopes.{slots_of}
use Rattle.linker.specs.Standing.{lists_of}
use Rattle.linker.specs.declared.code.Ins.TheVariants as ins
use Rattle.linker.proofs.program.link_task.Goals as goal

pub returns : goal.returns
returns g c =
    let vars = datum_names c.args.vars.now in
    let one = c.in_ok-add_data.ensures [] c.new-scope.ensures in
    let two = c.in_ok-add_params.ensures (vars ++ []) one in
    subst (λ s. IfOk c.link_body.result (λ start. LinksBody (g.C.Calls.leads c.args.calls.now) s (lists_of c.args.code.now)
    (lists_of c.link_body.new.code) start ins.Finish (block_of c.args.block.now)))
    (two ∙ ap (λ ns. slots_of (param_names c.args.params.now ++ ns)) (append-nil vars)) c.link_body.ensures
