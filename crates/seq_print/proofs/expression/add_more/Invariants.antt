use Rattle.std.proofs.Common.{◌≡◌, ◌++◌, map, drop}
use Rattle.seq_tree.specs.Trees.{expression_of}
use Rattle.seq_print.specs.Printing.{more_text}
use Rattle.seq_print.proofs.expression.add_more.Given as goal

-- with the actuals that are left, all have been added
abbrev pub invariant-actuals : goal.invariant-actuals
invariant-actuals l = l.into.items ++ more_text (map expression_of (drop l.actual-index l.actuals))
    ≡ l.initial.into.items ++ more_text (map expression_of l.actuals)
