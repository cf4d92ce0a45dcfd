use Rattle.std.proofs.Common.{◌≡◌, ◌-◌, arith, ◌∙◌, length, set, refl, ap, sym}
use Rattle.std.proofs.lemmas.List.{length-set}
use Rattle.seq_tree.specs.declared.tree.Datum.{Datum}
use Rattle.task_runtime.proofs.Openings.{data_closed, data_opened, datum_opened}
use Rattle.linker.specs.Slots.{vars_at}
use Rattle.linker.specs.Scopes.{slots_of}
use Rattle.task_runtime.proofs.opening.open_data.Goals as goal

pub data-init : goal.data-init
data-init c = record {
  within = omega arith;
  vars = λ ns e. data_closed c.args.data.now ns c.args.slots.now.here;
  len = refl;
  away = refl;
}

put' : (c : goal.After-put) → c.put.new.self.here ≡ set c.data.slots.here (c.args.top - 1 - (c.data.at - 1)) c.index-data-at.result.value
put' c = c.put.ensures.here ∙ ap (λ (d : Datum). set c.data.slots.here (c.args.top - 1 - (c.data.at - 1)) d.value) (sym c.index-data-at.is)

pub data-preserved : goal.data-preserved
data-preserved c =
    let i = c.data.invariant in record {
      within = omega (arith, i.within);
      vars = λ ns e. datum_opened c.args.data.now c.data.at c.args.top c.index-data-at.result c.put.new.self.here c.data.slots.here
          (vars_at (slots_of ns) c.args.slots.now.here) c.data-test.true i.within c.index-data-at.is (omega (arith, c.requires.room, i.len))
          (put' c) ns e (i.vars ns e);
      len = ap length c.put.ensures.here ∙ length-set c.data.slots.here (c.args.top - 1 - (c.data.at - 1)) _ ∙ i.len;
      away = c.put.ensures.away ∙ i.away;
    }

pub returns-clause-vars : goal.returns-clause-vars
returns-clause-vars c = λ ns e. data_opened c.args.data.now c.data.at c.data.slots.here (vars_at (slots_of ns) c.args.slots.now.here) ns
    (omega (arith, c.data-test.false)) (c.data.invariant.vars ns e)
