use Rattle.std.proofs.Common.{◌≡◌, ◌≤◌, rules, length, map, option_map, ap, arith}
use Rattle.seq_tree.specs.Statements.{If}
use Rattle.seq_tree.specs.Trees.{arm_of, block_of, branches_of, otherwise, statement_of, statements_of}
use Rattle.seq_tree.specs.declared.tree.Stmt.{the_lemmas}
use Rattle.seq_tree.proofs.Shared.TreeForms.{block-tree}
use Rattle.law_flat_code.specs.Codes.{block_size, size}
use Rattle.linker.proofs.Counting.{arms_counted, arms_end, branch_sum, stmts_counted, stmts_end}
use Rattle.linker.proofs.LinkSteps.{if_ok}
use Rattle.linker.proofs.size.+statements.Goals as goal

pub statement_len-returns-in_ok-last-in-If : goal.statement_len-returns-in_ok-last-in-If
statement_len-returns-in_ok-last-in-If t c =
    let arms = map arm_of c.in-If.arms.value.items in
    let opened : statement_of c.args.stmt.now ≡ If (branches_of arms (otherwise (option_map block_of c.in-If.other))) = search (rules, the_lemmas) in
    let first = rw (c.deref-in-If.ensures.value, c.deref.ensures) at c.in_ok-first-in-If.ensures in
    if_ok c.sum.result _ _
    (λ n h. omega (arith, h, first, c.in_ok-last-in-If.ensures, branch_sum arms (otherwise (option_map block_of c.in-If.other)), ap size opened))
    c.sum.ensures

pub arms_len-arms-preserved : goal.arms_len-arms-preserved
arms_len-arms-preserved t c =
    arms_counted c.args.arms.now c.arms.arm-index c.arm-item.result c.arms.len c.in_ok-next.next _ c.arms-test.true c.arm-item.is c.arms.invariant
    (omega (arith, c.in_ok-next.ensures, c.in_ok-both.ensures, c.in_ok-block.ensures))

pub arms_len-returns : goal.arms_len-returns
arms_len-returns t c =
    let ended : length c.args.arms.now ≤ c.arms.arm-index = search rules in
    let none = arms_end c.args.arms.now c.arms.arm-index ended in
    omega (arith, none, c.arms.invariant)

pub block_len-stmts-preserved : goal.block_len-stmts-preserved
block_len-stmts-preserved t c =
    stmts_counted c.deref-stmt-items.result.now c.stmts.stmt-index c.stmt-item.result c.stmts.len c.in_ok-next.next _ c.stmts-test.true c.stmt-item.is
    c.stmts.invariant (omega (arith, c.in_ok-next.ensures, c.in_ok-lines.ensures))

pub block_len-returns : goal.block_len-returns
block_len-returns t c =
    let items = c.deref-stmt-items.result.now in
    let ended : length items ≤ c.stmts.stmt-index = search rules in
    let none = stmts_end items c.stmts.stmt-index ended in
    let whole = block-tree c.args.block.now in
    let opened : block_of c.args.block.now ≡ statements_of (map statement_of items) = search (rules, whole) in
    let same = ap block_size opened in
    omega (arith, none, c.stmts.invariant, same)
