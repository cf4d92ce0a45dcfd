use Rattle.std.proofs.Common.{rules, tests, not, sym}
use Rattle.std.proofs.lemmas.Iterator.{YieldsList-from_slice}
use Rattle.std.proofs.lemmas.Iterator.Search.{any_from_yields_List}
use Rattle.seq_tree.specs.declared.tree.Arm.{the_lemmas}
use Rattle.seq_tree.specs.Faults.{has_unknown, has_bad_divisor}
use Rattle.seq_tree.specs.Sorts.{has_sort, Boolean}
use Rattle.seq_tree.specs.Trees.{arm_of}
use Rattle.seq_check.specs.Places.{place_of}
use Rattle.seq_check.proofs.ExpressionLaws.{conditions-fault}
use Rattle.seq_check.proofs.expressions.check_conditions.Goals as goal

pub returns : goal.returns
returns c other =
    let place = place_of c.args.place.now in
    let arms = c.args.arms.now in
    let unknown = any_from_yields_List (λ x. has_unknown place (arm_of x).0) _ _ c.any.result c.any.ensures.ran (YieldsList-from_slice arms cc)
    (λ x b q k. search (rules, tests, the_lemmas)) in
    let missorted = any_from_yields_List (λ x. not (has_sort Boolean (arm_of x).0)) _ _ c.any-2.result c.any-2.ensures.ran
    (YieldsList-from_slice arms cc) (λ x b q k. search (rules, tests, the_lemmas)) in
    let divisor = any_from_yields_List (λ x. has_bad_divisor (arm_of x).0) _ _ c.any-3.result c.any-3.ensures.ran (YieldsList-from_slice arms cc)
    (λ x b q k. search (rules, tests, the_lemmas)) in
    rw (conditions-fault place arm_of arms other, sym unknown, sym missorted, sym divisor) c.first_fault.ensures
