use Rattle.std.proofs.Common.{rules, tests, ◌≡◌, ◌&&◌, ◌∙◌}
use Rattle.std.proofs.lemmas.Iterator.{YieldsList-from_slice, YieldsList-from_zip}
use Rattle.std.proofs.lemmas.Iterator.Search.{any_from_yields_List}
use Rattle.seq_tree.specs.Trees.{expression_of}
use Rattle.seq_tree.specs.declared.tree.Expr.{the_lemmas}
use Rattle.seq_tree.specs.Expressions.{Variable}
use Rattle.seq_tree.specs.Faults.{is_variable}
use Rattle.seq_tree.specs.Operations.{is_out}
use Rattle.seq_check.proofs.ActualLaws.{outs-any}
use Rattle.seq_check.proofs.actuals.stands_again.Goals as goal

pub returns-in-Variable : goal.returns-in-Variable
returns-in-Variable c =
    let opened : expression_of c.args.actual.now ≡ Variable c.in-Variable.name = search (rules, the_lemmas) in
    rw opened (any_from_yields_List (λ x. is_out x.0.mode && is_variable c.in-Variable.name (expression_of x.1)) c.any.new.self _ c.any.result
    c.any.ensures.ran
    (YieldsList-from_zip (YieldsList-from_slice c.args.params.now cc) (YieldsList-from_slice c.args.actuals.now cc))
    (λ x b q k. search (rules, tests))
    ∙ outs-any expression_of (is_variable c.in-Variable.name) c.args.params.now c.args.actuals.now)
