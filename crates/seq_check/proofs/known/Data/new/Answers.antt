use Rattle.std.proofs.Common.{map}
use Rattle.name_sets.specs.Sets.{has}
use Rattle.seq_tree.specs.Names.{is_named}
use Rattle.seq_check.proofs.NameLaws.{filled}
use Rattle.seq_check.proofs.known.Data.new.Goals as goal

pub invariant_of-result : goal.invariant_of-result
invariant_of-result c = record {
  held = λ n. filled (has c.new-names.result n) (has c.add_vars.new.set n) (is_named (map (λ d. d.name) c.args.vars.now) n) (c.new-names.ensures
      n) (c.in_ok-add_vars.ensures n);
}
