use Rattle.std.proofs.Common.{rules, ◌≡◌, ◌+◌, ◌++◌, map, drop, sym, ap, ◌∙◌}
use Rattle.std.specs.Prelude.{option_map}
use Rattle.seq_tree.specs.Statements.{If, Nothing}
use Rattle.seq_tree.specs.Trees.{arm_of, block_of, branches_of, otherwise, statement_of, statements_of}
use Rattle.seq_tree.specs.declared.tree.Stmt.{the_lemmas}
use Rattle.seq_cost.specs.Different.{call_of}
use Rattle.seq_cost.specs.Gathered.{block_gathered, branch_gathered, statement_gathered}
use Rattle.seq_cost.proofs.Gathering.{branch-append, joined}
use Rattle.seq_cost.proofs.Steps.{arm_step, statement_step}
use Rattle.seq_cost.proofs.written.+gathering.Goals as goal

pub add_arms-arms-preserved : goal.add_arms-arms-preserved
add_arms-arms-preserved t c =
    let how = c.args.how in
    let later = branch_gathered how (branches_of (map arm_of (drop (c.arms.arm-index + 1) c.args.arms.now)) Nothing) in
    let step = arm_step how c.args.arms.now c.arms.arm-index c.arm-item.result c.arms-test.true c.arm-item.is in
    let split : branch_gathered how (branches_of (map arm_of (drop c.arms.arm-index c.args.arms.now)) Nothing)
    ≡ block_gathered how (block_of c.arm-item.result.block) ++ later = search (rules, the_lemmas, step) in
    rw c.in_ok-add_block.ensures (sym (joined (map call_of c.arms.found.items) (block_gathered how (block_of c.arm-item.result.block)) later) ∙ ap
    (λ l. map call_of c.arms.found.items ++ l) (sym split) ∙ c.arms.invariant)

pub add_block-stmts-preserved : goal.add_block-stmts-preserved
add_block-stmts-preserved t c =
    let how = c.args.how in
    let later = block_gathered how (statements_of (map statement_of (drop (c.stmts.stmt-index + 1) c.deref-stmt-items.result.now))) in
    let split = statement_step how c.deref-stmt-items.result.now c.stmts.stmt-index c.stmt-item.result c.stmts-test.true c.stmt-item.is in
    rw c.in_ok-add_statement.ensures (sym (joined (map call_of c.stmts.found.items) (statement_gathered how (statement_of c.stmt-item.result)) later)
    ∙ ap (λ l. map call_of c.stmts.found.items ++ l) (sym split) ∙ c.stmts.invariant)

pub add_statement-returns-in_ok-add_arms-in-If : goal.add_statement-returns-in_ok-add_arms-in-If
add_statement-returns-in_ok-add_arms-in-If t c =
    let how = c.args.how in
    let arms = map arm_of c.in-If.arms.value.items in
    let others = otherwise (option_map block_of c.in-If.other) in
    let opened : statement_of c.args.stmt.now ≡ If (branches_of arms others) = search (rules, the_lemmas) in
    let first : map call_of c.add_arms.new.found.items ≡ map call_of c.args.found.now.items ++ branch_gathered how (branches_of arms Nothing)
    = rw (sym c.deref.ensures, sym c.deref-in-If.ensures.value) c.in_ok-add_arms-in-If.ensures in
    rw (
      opened,
      branch-append how arms others,
      joined (map call_of c.args.found.now.items) (branch_gathered how
          (branches_of arms Nothing)) (branch_gathered how others),
      sym first,
    ) c.add_other.ensures
