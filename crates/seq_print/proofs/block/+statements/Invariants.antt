use Rattle.std.proofs.Common.{◌≡◌, ◌++◌, codes, map, drop}
use Rattle.seq_tree.specs.Layout.{layout}
use Rattle.seq_tree.specs.Spelling.{block_lines, branch_lines}
use Rattle.seq_tree.specs.Statements.{Nothing}
use Rattle.seq_tree.specs.Trees.{arm_of, block_of, branches_of, statement_of, statements_of}
use Rattle.seq_print.proofs.block.+statements.Given as goal

-- with the lines of the arms that are left, those of all have been added
abbrev pub invariant-add_arms-arms : goal.invariant-add_arms-arms
invariant-add_arms-arms l =
    l.into.items ++ layout (branch_lines l.word l.level (branches_of (map arm_of (drop l.arm-index l.arms)) Nothing))
    ≡ l.initial.into.items ++ layout (branch_lines (codes "if") l.level (branches_of (map arm_of l.arms) Nothing))

-- with the lines of the statements that are left, those of all have been added
abbrev pub invariant-add_lines-stmts : goal.invariant-add_lines-stmts
invariant-add_lines-stmts l =
    l.into.items ++ layout (block_lines l.level (statements_of (map statement_of (drop l.stmt-index l.stmt-items))))
    ≡ l.initial.into.items ++ layout (block_lines l.level (block_of l.block))
