use Rattle.std.proofs.Common.{◌≡◌, ◌+◌, codes, drop, rules, map, option_map, ap, sym, ◌∙◌}
use Rattle.seq_tree.specs.Layout.{layout}
use Rattle.seq_tree.specs.Spelling.{branch_lines, statement_lines}
use Rattle.seq_tree.specs.Statements.{For, Nothing}
use Rattle.seq_tree.specs.Trees.{arm_of, block_of, branches_of, statement_of}
use Rattle.seq_tree.specs.declared.tree.Stmt.{the_lemmas}
use Rattle.seq_print.proofs.Shared.Chains.{two-more, writes-same, writes-then}
use Rattle.seq_print.proofs.StatementTexts.{arms-text, else-text, if-text, loop-text}
use Rattle.seq_tree.proofs.Shared.TreeForms.{if-tree}
use Rattle.seq_print.proofs.block.+statements.Goals as goal

pub add_other-returns-in_ok-put_line-in-Some : goal.add_other-returns-in_ok-put_line-in-Some
add_other-returns-in_ok-put_line-in-Some t c =
    rw c.in-Some.is
    (writes-same _ c.args.into.now.items _ _ _ (else-text c.args.level c.deeper.result (block_of c.in-Some.block) c.deeper.ensures)
    (writes-then _ c.args.into.now.items c.put_line.new.into.items _ _ _ c.in_ok-put_line-in-Some.ensures c.add_lines.ensures))

pub add_statement-returns-in_ok-add_other-in-If : goal.add_statement-returns-in_ok-add_other-in-If
add_statement-returns-in_ok-add_other-in-If t c =
    rw (c.in-If.is, if-tree c.in-If.arms c.in-If.other)
    (writes-same _ c.args.into.now.items _ _ _ (if-text c.args.level (map arm_of c.in-If.arms.value.items) (option_map block_of c.in-If.other))
    (writes-then _ c.args.into.now.items c.add_arms.new.into.items _ _ _
    (rw (c.deref-in-If.ensures.value, c.deref.ensures) at c.in_ok-add_arms-in-If.ensures)
    (writes-then _ c.add_arms.new.into.items c.add_other.new.into.items _ _ _ c.in_ok-add_other-in-If.ensures c.put_line-in-If.ensures)))

pub add_statement-returns-in_ok-add_lines-in-For : goal.add_statement-returns-in_ok-add_lines-in-For
add_statement-returns-in_ok-add_lines-in-For t c =
    let opened : statement_of c.args.stmt.now ≡ For c.in-For.name c.in-For.low c.in-For.high (block_of c.in-For.body) = search (rules, the_lemmas) in
    writes-same _ c.args.into.now.items _ _ _
    (loop-text c.args.level c.in-For.low c.in-For.high c.deeper.result c.in-For.name (block_of c.in-For.body) c.deeper.ensures ∙ sym
    (ap (λ s. layout (statement_lines c.args.level s)) opened))
    (writes-then _ c.args.into.now.items c.add_for.new.into.items _ _ _ c.in_ok-add_for-in-For.ensures
    (writes-then _ c.add_for.new.into.items c.add_lines.new.into.items _ _ _ c.in_ok-add_lines-in-For.ensures c.put_line-in-For.ensures))

pub add_arms-arms-preserved : goal.add_arms-arms-preserved
add_arms-arms-preserved t c =
    rw c.as_slice-word-in-arms.ensures
    (two-more c.arms.into.items c.add_condition.new.into.items c.add_lines.new.into.items _ _
    (layout (branch_lines (codes "elsif") c.args.level (branches_of (map arm_of (drop (c.arms.arm-index + 1) c.args.arms.now)) Nothing))) _ _
    c.in_ok-add_condition.ensures c.in_ok-add_lines.ensures
    (arms-text c.arms.word.now c.args.level c.deeper.result c.args.arms.now c.arms.arm-index c.arm-item.result c.arms-test.true c.arm-item.is
    c.deeper.ensures) c.arms.invariant)
