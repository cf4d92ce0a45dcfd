use Rattle.std.proofs.Common.{◌∙◌, sym, ap, length, set, arith}
use Rattle.std.proofs.lemmas.List.{length-set, take_all}
use Rattle.linker.specs.Slots.{vars_at}
use Rattle.linker.specs.Scopes.{slots_of}
use Rattle.task_runtime.specs.Fitting.{names_of}
use Rattle.task_runtime.specs.Stacked.{vars_of}
use Rattle.task_runtime.specs.declared.values.Var.{Var}
use Rattle.task_runtime.proofs.Filling.{lent_step}
use Rattle.task_runtime.proofs.opening.lend.Goals as goal

pub data-preserved : goal.data-preserved
data-preserved c =
    let i = c.data.invariant in record {
      within = omega arith;
      vars = lent_step c.args.«data».now c.data.at c.index-data-at.result c.data.slots.here c.put.new.self.here c.data-test.true
          c.index-data-at.is (omega (arith, i.len, c.requires))
          (c.put.ensures.here ∙ ap (λ (v : Var). set c.data.slots.here c.data.at v.value) (sym c.index-data-at.is)) i.vars;
      len = ap length c.put.ensures.here ∙ length-set c.data.slots.here c.data.at _ ∙ i.len;
      away = c.put.ensures.away ∙ i.away;
    }

pub returns-clause-vars : goal.returns-clause-vars
returns-clause-vars c = λ ns is.
    let all = take_all c.data.at c.args.«data».now (omega (arith, c.data-test.false)) in
    ap (λ n. vars_at (slots_of n) c.data.slots.here) (is ∙ ap (λ vs. names_of (vars_of vs)) (sym all)) ∙ c.data.invariant.vars ∙ ap vars_of all
