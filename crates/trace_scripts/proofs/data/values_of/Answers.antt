use Rattle.std.proofs.Common.{rules}
use Rattle.name_sets.specs.Tables.{named}
use Rattle.trace_scripts.proofs.Valuing.{back-read}
use Rattle.trace_scripts.proofs.data.values_of.Goals as goal

pub slots-preserved : goal.slots-preserved
slots-preserved c = record {
  within = search rules;
  told = λ n. back-read c.args.env.now.slots.items c.slots.at c.index-slot.result.now (search rules) c.slots.invariant.within (search rules) n
      (named c.slots.table n) (named c.put.new.self n) (c.slots.invariant.told n) (c.in_ok-put.ensures.put n);
}
