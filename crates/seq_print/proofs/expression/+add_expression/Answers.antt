use Rattle.std.proofs.Common.{◌≡◌, ◌++◌, rules, ap, sym, ◌∙◌}
use Rattle.seq_tree.specs.Expressions.{Paren, Not, Binary}
use Rattle.seq_tree.specs.Trees.{expression_of}
use Rattle.seq_tree.specs.declared.tree.Expr.{the_lemmas}
use Rattle.seq_print.specs.Printing.{expression_text}
use Rattle.seq_print.proofs.Shared.Chains.{writes-printed, writes-same, writes-then}
use Rattle.seq_print.proofs.Shared.Spacing.{paren-text, not-text, binary-text}
use Rattle.seq_print.proofs.expression.+add_expression.Goals as goal

pub returns-in_ok-add_expression-in-Paren : goal.returns-in_ok-add_expression-in-Paren
returns-in_ok-add_expression-in-Paren t c =
    let opened : expression_of c.args.expr.now ≡ Paren (expression_of c.deref.result.now) = rw c.deref.ensures (search (rules, the_lemmas)) in
    writes-same _ c.args.into.now.items _ _ _ (sym (ap expression_text opened ∙ paren-text (expression_of c.deref.result.now)))
    (writes-then _ c.args.into.now.items c.put-in-Paren.new.into.items _ _ _ c.in_ok-put-in-Paren.ensures
    (writes-then _ c.put-in-Paren.new.into.items c.add_expression.new.into.items _ _ _ c.in_ok-add_expression-in-Paren.ensures
    (writes-printed _ _ _ _ c.put-in-Paren-2.ensures)))

pub returns-in_ok-put-in-Not : goal.returns-in_ok-put-in-Not
returns-in_ok-put-in-Not t c =
    let opened : expression_of c.args.expr.now ≡ Not (expression_of c.deref-in-Not.result.now)
    = rw c.deref-in-Not.ensures (search (rules, the_lemmas)) in
    writes-same _ c.args.into.now.items _ _ _ (sym (ap expression_text opened ∙ not-text (expression_of c.deref-in-Not.result.now)))
    (writes-then _ c.args.into.now.items c.put-in-Not.new.into.items _ _ _ c.in_ok-put-in-Not.ensures c.add_expression-in-Not.ensures)

pub returns-in_ok-put-in-Binary : goal.returns-in_ok-put-in-Binary
returns-in_ok-put-in-Binary t c =
    let left = expression_of c.deref-in-Binary.result.now in
    let right = expression_of c.deref-in-Binary-2.result.now in
    let opened : expression_of c.args.expr.now ≡ Binary c.in-Binary.op left right
    = rw (c.deref-in-Binary.ensures, c.deref-in-Binary-2.ensures) (search (rules, the_lemmas)) in
    writes-same _ c.args.into.now.items _ _ _ (sym (ap expression_text opened ∙ binary-text c.in-Binary.op left right))
    (writes-then _ c.args.into.now.items c.add_expression-in-Binary.new.into.items _ _ _ c.in_ok-add_expression-in-Binary.ensures
    (writes-then _ c.add_expression-in-Binary.new.into.items c.put-in-Binary.new.into.items _ _ _
    (c.in_ok-put-in-Binary.ensures ∙ ap (λ x. c.add_expression-in-Binary.new.into.items ++ x) c.op_text.ensures)
    c.add_expression-in-Binary-2.ensures))
