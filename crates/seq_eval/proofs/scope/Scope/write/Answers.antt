use Rattle.std.proofs.Common.{◌≡◌, ◌-◌, ◌<◌, length, arith, ap, refl, sym, ◌∙◌}
use Rattle.seq_tree.specs.Variables.{write}
use Rattle.seq_eval.specs.declared.scope.Var.{Var}
use Rattle.seq_eval.proofs.Scoping.{same-item, write-here, write-past}
use Rattle.seq_eval.proofs.scope.Scope.write.Goals as goal

pub returns-then-is_same : goal.returns-then-is_same
returns-then-is_same c =
    let i = c.vars.invariant in
    let xs = c.vars.self-inside.vars.items in
    let was = c.index_mut.result.now in
    let w : Var = record { name = was.name; value = c.args.value } in
    let inside : c.vars.at - 1 < length xs = omega (arith, i.within, c.vars-test.true) in
    let one : was ≡ c.index.result.now = same-item xs (c.vars.at - 1) was c.index.result.now inside c.index_mut.ensures.value c.index.ensures in
    write-here c.args.name.now c.args.value xs c.vars.at c.index.result.now w c.vars-test.true i.within c.index.ensures
    (sym (c.is_same.ensures) ∙ c.if-is_same.true) (ap (λ (x : Var). x.name.now) one) refl i.written
    ∙ ap (write c.args.name.now c.args.value) i.same

pub vars-preserved : goal.vars-preserved
vars-preserved c =
    let i = c.vars.invariant in
    record {
      within = omega (arith, i.within);
      same = i.same;
      written = write-past c.args.name.now c.args.value c.vars.self-inside.vars.items c.vars.at c.index.result.now c.vars-test.true i.within
          c.index.ensures (sym (c.is_same.ensures) ∙ c.if-is_same.false) i.written;
    }
