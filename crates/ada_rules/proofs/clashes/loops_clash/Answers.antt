use Rattle.std.proofs.Common.{◌||◌}
use Rattle.ada_rules.specs.Lists.{names_of}
use Rattle.name_sets.specs.Sets.{has}
use Rattle.ada_rules.proofs.ClashSteps.{clash_found, clash_passed}
use Rattle.ada_rules.proofs.clashes.loops_clash.Goals as goal

pub parts-preserved : goal.parts-preserved
parts-preserved c =
    clash_passed (λ n. has c.args.params.now n || has c.args.taken.now n) c.args.parts.now c.parts.part-index c.part-item.result
    (names_of c.parts.inside.items) (names_of c.enter.new.inside.items)
    c.in_ok-enter.field-0 _ c.parts-test.true c.part-item.is c.in_ok-enter.ensures.clash c.if-branch.false c.in_ok-enter.ensures.after
    c.parts.invariant

pub returns-then-branch : goal.returns-then-branch
returns-then-branch c =
    clash_found (λ n. has c.args.params.now n || has c.args.taken.now n) c.args.parts.now c.parts.part-index c.part-item.result
    (names_of c.parts.inside.items)
    c.in_ok-enter.field-0 _ c.parts-test.true c.part-item.is c.in_ok-enter.ensures.clash c.if-branch.true c.parts.invariant
