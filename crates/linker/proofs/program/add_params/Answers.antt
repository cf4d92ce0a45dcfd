use Rattle.std.proofs.Common.{arith, ◌∷◌, ◌∙◌, ap, sym}
use Rattle.seq_tree.specs.declared.tree.Param.{Param}
use Rattle.law_flat_code.specs.Codes.{next_slot}
use Rattle.linker.proofs.Naming.{names_all, names_none, names_on}
use Rattle.linker.proofs.program.add_params.Goals as goal

pub params-init : goal.params-init
params-init c = record {
  within = omega arith;
  added = λ ns e. names_none (λ (p : Param). p.name) c.args.params.now ns c.args.scope.now e;
}

pub params-preserved : goal.params-preserved
params-preserved c =
    let i = c.params.invariant in record {
      within = omega (arith, i.within);
      added = λ ns e. names_on (λ (p : Param). p.name) c.args.params.now c.params.at c.index-params-at.result ns c.params.scope _
          c.params-test.true i.within
          c.index-params-at.is (i.added ns e)
          (c.in_ok-add.ensures.added ∙ ap (λ (p : Param). (p.name, next_slot c.params.scope) ∷ c.params.scope) (sym c.index-params-at.is));
    }

pub returns : goal.returns
returns c = λ ns e. names_all (λ (p : Param). p.name) c.args.params.now c.params.at ns c.params.scope (omega (arith, c.params-test.false))
    (c.params.invariant.added ns e)
