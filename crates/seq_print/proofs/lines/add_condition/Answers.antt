use Rattle.seq_tree.specs.Trees.{expression_of}
use Rattle.seq_print.proofs.Shared.Chains.{writes-printed, writes-same, writes-then}
use Rattle.seq_print.proofs.StatementTexts.{condition-text}
use Rattle.seq_print.proofs.lines.add_condition.Goals as goal

pub returns : goal.returns
returns c =
    writes-same _ c.args.into.now.items _ _ _ (condition-text c.args.level c.args.word.now (expression_of c.args.condition.now))
    (writes-then _ c.args.into.now.items c.put_indent.new.into.items _ _ _ c.in_ok-put_indent.ensures
    (writes-then _ c.put_indent.new.into.items c.put.new.into.items _ _ _ c.in_ok-put.ensures
    (writes-then _ c.put.new.into.items c.put-2.new.into.items _ _ _ c.in_ok-put-2.ensures
    (writes-then _ c.put-2.new.into.items c.add_expression.new.into.items _ _ _ c.in_ok-add_expression.ensures
    (writes-printed _ _ _ _ c.put-3.ensures)))))
