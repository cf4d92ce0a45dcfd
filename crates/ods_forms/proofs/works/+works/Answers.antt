use Rattle.std.proofs.Common.{rules, ◌≡◌, List, map, option_map, refl, ap, sym, ◌∙◌}
use Rattle.std.specs.List.{list_all}
use Rattle.seq_tree.specs.Calls.{block_works, branch_works, statement_works}
use Rattle.seq_tree.specs.Statements.{If, Nothing}
use Rattle.seq_tree.specs.Trees.{arm_of, block_of, branches_of, otherwise, statement_of, statements_of}
use Rattle.seq_tree.specs.declared.tree.Arm.{Arm}
use Rattle.seq_tree.specs.declared.tree.Stmt.{Stmt, the_lemmas}
use Rattle.seq_tree.specs.Limits.{is_within}
use Rattle.ods_forms.proofs.LoopSteps.{passed_step}
use Rattle.ods_forms.proofs.WorkSteps.{arms_fit, arms_misfit}
use Rattle.ods_forms.specs.Limits.{most_ticks}
use Rattle.ods_forms.proofs.works.+works.Goals as goal

pub does_statement_fit-returns-then-do_arms_fit : goal.does_statement_fit-returns-then-do_arms_fit
does_statement_fit-returns-then-do_arms_fit t c =
    let arms = map arm_of c.in-If.arms.value.items in
    let other = otherwise (option_map block_of c.in-If.other) in
    let opened : statement_of c.args.stmt.now ≡ If (branches_of arms other) = search (rules, the_lemmas) in
    rw opened (arms_fit (is_within 1 most_ticks) arms other c.do_arms_fit.result c.does_other_fit.result
    (rw (c.as_slice.ensures.value, c.deref.ensures) at c.do_arms_fit.ensures)
    c.if-do_arms_fit.true c.does_other_fit.ensures)

pub does_statement_fit-returns-else-do_arms_fit : goal.does_statement_fit-returns-else-do_arms_fit
does_statement_fit-returns-else-do_arms_fit t c =
    let arms = map arm_of c.in-If.arms.value.items in
    let other = otherwise (option_map block_of c.in-If.other) in
    let opened : statement_of c.args.stmt.now ≡ If (branches_of arms other) = search (rules, the_lemmas) in
    rw opened (arms_misfit (is_within 1 most_ticks) arms other c.do_arms_fit.result
    (rw (c.as_slice.ensures.value, c.deref.ensures) at c.do_arms_fit.ensures) c.if-do_arms_fit.false)

pub do_arms_fit-arms-preserved : goal.do_arms_fit-arms-preserved
do_arms_fit-arms-preserved t c =
    let own : (arm_of c.arm-item.result).1 ≡ block_of c.arm-item.result.block = search (rules, the_lemmas) in
    passed_step (is_within 1 most_ticks) (λ (as' : List Arm). branch_works (branches_of (map arm_of as') Nothing))
    (block_works (arm_of c.arm-item.result).1) c.args.arms.now c.arms.arm-index c.arm-item.result _ (λ ys. refl) c.arms-test.true c.arm-item.is
    (ap (λ b. list_all (is_within 1 most_ticks) (block_works b)) own ∙ sym c.do_works_fit.ensures ∙ c.if-not-do_works_fit.false) c.arms.invariant

pub do_works_fit-stmts-preserved : goal.do_works_fit-stmts-preserved
do_works_fit-stmts-preserved t c =
    passed_step (is_within 1 most_ticks) (λ (ss : List Stmt). block_works (statements_of (map statement_of ss)))
    (statement_works (statement_of c.stmt-item.result))
    c.deref-stmt-items.result.now c.stmts.stmt-index c.stmt-item.result _ (λ ys. refl) c.stmts-test.true c.stmt-item.is
    (sym c.does_statement_fit.ensures ∙ c.if-not-does_statement_fit.false) c.stmts.invariant
