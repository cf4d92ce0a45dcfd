use Rattle.std.proofs.Common.{rules, ◌≡◌, false, ◌||◌, sym, ◌∙◌}
use Rattle.seq_tree.specs.Trees.{expression_of}
use Rattle.seq_tree.specs.Expressions.{Binary}
use Rattle.seq_tree.specs.declared.tree.Expr.{the_lemmas}
use Rattle.seq_tree.specs.Sorts.{Boolean, contains_name, has_sort, sort_of}
use Rattle.seq_tree.specs.Levels.{level_of}
use Rattle.seq_check.proofs.SortLaws.{logical-boolean, relational-boolean, arithmetic-boolean}
use Rattle.seq_check.proofs.sorts.+is_boolean.Goals as goal

pub returns-in-Relational : goal.returns-in-Relational
returns-in-Relational t c =
    let opened : expression_of c.args.expr.now ≡ Binary c.in-Binary.op (expression_of c.in-Binary.left.value) (expression_of c.in-Binary.right.value)
    = search (rules, the_lemmas) in
    rw opened (rw (sym c.deref-in-Relational.ensures, sym c.deref-in-Relational-2.ensures) c.compares_words.ensures ∙ sym
    (relational-boolean (level_of c.in-Binary.op) _ _ _ (sym c.in-Relational.ensures)))

pub returns-in-Arithmetic : goal.returns-in-Arithmetic
returns-in-Arithmetic t c =
    let opened : expression_of c.args.expr.now ≡ Binary c.in-Binary.op (expression_of c.in-Binary.left.value) (expression_of c.in-Binary.right.value)
    = search (rules, the_lemmas) in
    rw opened (sym (arithmetic-boolean (level_of c.in-Binary.op) _ _ _ (sym c.in-Arithmetic.ensures)))

pub returns-else-is_boolean : goal.returns-else-is_boolean
returns-else-is_boolean t c =
    let opened : expression_of c.args.expr.now ≡ Binary c.in-Binary.op (expression_of c.in-Binary.left.value) (expression_of c.in-Binary.right.value)
    = search (rules, the_lemmas) in
    let left : has_sort Boolean (expression_of c.in-Binary.left.value) ≡ false = rw (sym c.deref.ensures) (sym c.if-is_boolean.ensures) in
    rw (
      opened,
      logical-boolean (level_of c.in-Binary.op) (contains_name (expression_of c.in-Binary.left.value)
          || contains_name (expression_of c.in-Binary.right.value)) (sort_of (expression_of c.in-Binary.left.value)) (sort_of
          (expression_of c.in-Binary.right.value)) (sym c.in-Logical.ensures),
      left,
    ) c.if-is_boolean.false
