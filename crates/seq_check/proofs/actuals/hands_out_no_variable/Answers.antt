use Rattle.std.proofs.Common.{rules, tests, ◌&&◌, ◌∙◌}
use Rattle.std.proofs.lemmas.Iterator.{YieldsList-from_slice, YieldsList-from_zip}
use Rattle.std.proofs.lemmas.Iterator.Search.{any_from_yields_List}
use Rattle.seq_tree.specs.Faults.{is_no_variable}
use Rattle.seq_tree.specs.Operations.{is_out}
use Rattle.seq_tree.specs.Trees.{expression_of}
use Rattle.seq_check.proofs.ActualLaws.{outs-any}
use Rattle.seq_check.proofs.actuals.hands_out_no_variable.Goals as goal

pub returns : goal.returns
returns c =
    any_from_yields_List (λ x. is_out x.0.mode && is_no_variable (expression_of x.1)) c.any.new.self _ c.any.result c.any.ensures.ran
    (YieldsList-from_zip (YieldsList-from_slice c.args.params.now cc) (YieldsList-from_slice c.args.actuals.now cc))
    (λ x b q k. search (rules, tests))
    ∙ outs-any expression_of is_no_variable c.args.params.now c.args.actuals.now
