use Rattle.std.proofs.Common.{◌||◌, ◌∙◌, ap, sym}
use Rattle.std.proofs.Math.Bool.{or_assoc}
use Rattle.seq_tree.specs.Names.{same_name}
use Rattle.name_sets.specs.Sets.{has}
use Rattle.ada_rules.proofs.NameSteps.{new_step, named_step, or_turn}
use Rattle.ada_rules.proofs.clashes.add_new.Goals as goal

pub names-preserved : goal.names-preserved
names-preserved c = record {
  told =
      new_step (λ n. has c.names.inside n || has c.args.taken.now n) (λ n. has c.add_one.new.inside n || has c.args.taken.now n) c.args.names.now
      c.names.name-index c.name-item.result
      c.names.all_new c.in_ok-is_new.is_new c.names-test.true c.name-item.is c.in_ok-is_new.ensures.new
      (λ m. ap (λ b. b || has c.args.taken.now m) (c.in_ok-is_new.ensures.added m) ∙ or_assoc (same_name c.name-item.result.now m)
      (has c.names.inside m) (has c.args.taken.now m))
      ∙ c.names.invariant.told;
  added = λ n.
      c.in_ok-is_new.ensures.added n ∙ ap (λ b. same_name c.name-item.result.now n || b) (c.names.invariant.added n)
      ∙ or_turn (same_name c.name-item.result.now n) _ (has c.args.inside.now n)
      ∙ sym (ap (λ b. b || has c.args.inside.now n) (named_step c.args.names.now c.names.name-index c.name-item.result n c.names-test.true
      c.name-item.is));
}
