use Rattle.std.proofs.Common.{rules, ◌≡◌, true, ◌||◌, sym}
use Rattle.seq_tree.specs.Trees.{expression_of}
use Rattle.seq_tree.specs.Expressions.{Binary}
use Rattle.seq_tree.specs.declared.tree.Expr.{the_lemmas}
use Rattle.seq_tree.specs.Sorts.{Word, contains_name, has_sort, sort_of}
use Rattle.seq_tree.specs.Levels.{level_of}
use Rattle.seq_check.proofs.SortLaws.{relational-word, other-word}
use Rattle.seq_check.proofs.sorts.+is_word.Goals as goal

pub returns-in-Relational : goal.returns-in-Relational
returns-in-Relational t c =
    let opened : expression_of c.args.expr.now ≡ Binary c.in-Binary.op (expression_of c.in-Binary.left.value) (expression_of c.in-Binary.right.value)
    = search (rules, the_lemmas) in
    rw opened (sym (relational-word (level_of c.in-Binary.op) _ _ _ (sym c.in-Relational.ensures)))

pub returns-then-is_word : goal.returns-then-is_word
returns-then-is_word t c =
    let opened : expression_of c.args.expr.now ≡ Binary c.in-Binary.op (expression_of c.in-Binary.left.value) (expression_of c.in-Binary.right.value)
    = search (rules, the_lemmas) in
    let left : has_sort Word (expression_of c.in-Binary.left.value) ≡ true = rw (sym c.deref.ensures) (sym c.if-is_word.ensures) in
    let right : c.is_word-then-is_word.result ≡ has_sort Word (expression_of c.in-Binary.right.value)
    = rw (sym c.deref-then-is_word.ensures) c.is_word-then-is_word.ensures in
    rw (
      opened,
      other-word (level_of c.in-Binary.op) c.level_of.result (contains_name (expression_of c.in-Binary.left.value)
          || contains_name (expression_of c.in-Binary.right.value)) (sort_of (expression_of c.in-Binary.left.value)) (sort_of
          (expression_of c.in-Binary.right.value)) c.level_of.ensures c.in-Logical.is,
      left,
    ) right
