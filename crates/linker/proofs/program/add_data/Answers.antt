use Rattle.std.proofs.Common.{arith, ◌∷◌, ◌∙◌, ap, sym}
use Rattle.seq_tree.specs.declared.tree.Datum.{Datum}
use Rattle.law_flat_code.specs.Codes.{next_slot}
use Rattle.linker.proofs.Naming.{names_all, names_none, names_on}
use Rattle.linker.proofs.program.add_data.Goals as goal

pub vars-init : goal.vars-init
vars-init c = record {
  within = omega arith;
  added = λ ns e. names_none (λ (d : Datum). d.name) c.args.vars.now ns c.args.scope.now e;
}

pub vars-preserved : goal.vars-preserved
vars-preserved c =
    let i = c.vars.invariant in record {
      within = omega (arith, i.within);
      added = λ ns e. names_on (λ (d : Datum). d.name) c.args.vars.now c.vars.at c.index-vars-at.result ns c.vars.scope _ c.vars-test.true i.within
          c.index-vars-at.is (i.added ns e)
          (c.in_ok-add.ensures.added ∙ ap (λ (d : Datum). (d.name, next_slot c.vars.scope) ∷ c.vars.scope) (sym c.index-vars-at.is));
    }

pub returns : goal.returns
returns c = λ ns e. names_all (λ (d : Datum). d.name) c.args.vars.now c.vars.at ns c.vars.scope (omega (arith, c.vars-test.false))
    (c.vars.invariant.added ns e)
