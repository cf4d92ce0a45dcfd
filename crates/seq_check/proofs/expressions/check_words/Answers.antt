use Rattle.std.proofs.Common.{rules, tests, not, sym}
use Rattle.std.proofs.lemmas.Iterator.{YieldsList-from_slice}
use Rattle.std.proofs.lemmas.Iterator.Search.{any_from_yields_List}
use Rattle.seq_tree.specs.Faults.{has_unknown, has_bad_divisor}
use Rattle.seq_tree.specs.Sorts.{has_sort, Word}
use Rattle.seq_tree.specs.Trees.{expression_of}
use Rattle.seq_check.specs.Places.{place_of}
use Rattle.seq_check.proofs.ExpressionLaws.{words-fault}
use Rattle.seq_check.proofs.expressions.check_words.Goals as goal

pub returns : goal.returns
returns c =
    let place = place_of c.args.place.now in
    let exprs = c.args.exprs.now in
    let unknown = any_from_yields_List (λ x. has_unknown place (expression_of x)) _ _ c.any.result c.any.ensures.ran (YieldsList-from_slice exprs cc)
    (λ x b q k. search (rules, tests)) in
    let missorted = any_from_yields_List (λ x. not (has_sort Word (expression_of x))) _ _ c.any-2.result c.any-2.ensures.ran
    (YieldsList-from_slice exprs cc) (λ x b q k. search (rules, tests)) in
    let divisor = any_from_yields_List (λ x. has_bad_divisor (expression_of x)) _ _ c.any-3.result c.any-3.ensures.ran
    (YieldsList-from_slice exprs cc) (λ x b q k. search (rules, tests)) in
    rw (words-fault place expression_of exprs, sym unknown, sym missorted, sym divisor) c.first_fault.ensures
