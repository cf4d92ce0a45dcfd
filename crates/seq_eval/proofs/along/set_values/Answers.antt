use Rattle.std.proofs.Common.{arith, ◌∙◌}
use Rattle.std.proofs.lemmas.List.{length-set}
use Rattle.seq_eval.proofs.Ending.{one-set-names, one-set-value}
use Rattle.seq_eval.proofs.along.set_values.Goals as goal

pub values-preserved : goal.values-preserved
values-preserved c =
    let i = c.values.invariant in
    let slots = c.values.env.slots.items in
    let was = c.index_mut.result.now in
    let within = c.values-test.true in
    record {
      within = omega (arith, within);
      even = length-set slots c.values.at _ ∙ i.even;
      names = one-set-names slots c.values.at _ was c.index_mut.ensures.value ∙ i.names;
      set = one-set-value slots c.args.values.now c.values.at was.0 i.even within i.set;
    }
