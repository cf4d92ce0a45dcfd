use Rattle.seq_tree.specs.Trees.{expression_of}
use Rattle.seq_print.proofs.Shared.Chains.{writes-printed, writes-same, writes-then}
use Rattle.seq_print.proofs.StatementTexts.{assign-text}
use Rattle.seq_print.proofs.lines.add_assign.Goals as goal

pub returns : goal.returns
returns c =
    writes-same _ c.args.into.now.items _ _ _ (assign-text c.args.level c.args.target.now (expression_of c.args.value.now))
    (writes-then _ c.args.into.now.items c.put_indent.new.into.items _ _ _ c.in_ok-put_indent.ensures
    (writes-then _ c.put_indent.new.into.items c.put_name.new.into.items _ _ _ c.in_ok-put_name.ensures
    (writes-then _ c.put_name.new.into.items c.add_expression.new.into.items _ _ _ c.in_ok-add_expression.ensures
    (writes-printed _ _ _ _ c.put.ensures))))
