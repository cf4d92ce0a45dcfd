use Rattle.seq_tree.specs.Trees.{expression_of}
use Rattle.std.proofs.Common.{◌++◌, map, ap, ◌∙◌}
use Rattle.seq_print.proofs.Shared.Chains.{writes-printed, writes-same, writes-then}
use Rattle.seq_print.proofs.StatementTexts.{call-text}
use Rattle.seq_print.proofs.lines.add_call.Goals as goal

pub returns : goal.returns
returns c =
    writes-same _ c.args.into.now.items _ _ _ (call-text c.args.level c.args.object.now c.args.op.now (map expression_of c.args.actuals.now))
    (writes-then _ c.args.into.now.items c.put_indent.new.into.items _ _ _ c.in_ok-put_indent.ensures
    (writes-then _ c.put_indent.new.into.items c.put_name.new.into.items _ _ _ c.in_ok-put_name.ensures
    (writes-then _ c.put_name.new.into.items c.put.new.into.items _ _ _
    (c.in_ok-put.ensures ∙ ap (λ x. c.put_name.new.into.items ++ x) c.bytes.ensures.bytes)
    (writes-then _ c.put.new.into.items c.add_actuals.new.into.items _ _ _ c.in_ok-add_actuals.ensures
    (writes-printed _ _ _ _ c.put-2.ensures)))))
