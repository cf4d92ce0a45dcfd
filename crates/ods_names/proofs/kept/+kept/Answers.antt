use Rattle.std.proofs.Common.{rules, ◌≡◌, ◌++◌, List, OnOk, map, option_map, refl, ap, sym, subst, ◌∙◌, append_assoc}
use Rattle.seq_tree.specs.Names.{Name}
use Rattle.seq_tree.specs.Statements.{If, Nothing}
use Rattle.seq_tree.specs.Trees.{arm_of, block_of, branches_of, otherwise, statement_of, statements_of}
use Rattle.seq_tree.specs.declared.tree.Arm.{Arm}
use Rattle.seq_tree.specs.declared.tree.Stmt.{Stmt, the_lemmas}
use Rattle.design_rules.specs.Words.{block_names, branch_names, expression_names, statement_names}
use Rattle.ods_names.specs.NameLists.{names_of}
use Rattle.seq_tree.proofs.Shared.LoopSteps.{added_step}
use Rattle.ods_names.proofs.NameSteps.{added_branches}
use Rattle.ods_names.proofs.kept.+kept.Goals as goal

pub add_statement-returns-in_ok-add_arms-in-If : goal.add_statement-returns-in_ok-add_arms-in-If
add_statement-returns-in_ok-add_arms-in-If t c =
    let old = names_of c.args.names.now.items in
    let arms = map arm_of c.in-If.arms.value.items in
    let other = otherwise (option_map block_of c.in-If.other) in
    let opened : statement_of c.args.stmt.now ≡ If (branches_of arms other) = search (rules, the_lemmas) in
    let first : names_of c.add_arms.new.names.items ≡ old ++ branch_names (branches_of arms Nothing)
    = rw (sym c.deref.ensures, sym c.deref-in-If.ensures.value) c.in_ok-add_arms-in-If.ensures in
    let P : List Name → Type 0 = λ ns. OnOk c.add_other.result (names_of c.add_other.new.names.items ≡ ns) in
    subst P (added_branches old (names_of c.add_arms.new.names.items) arms other first ∙ ap (λ s. old ++ statement_names s) (sym opened))
    c.add_other.ensures

pub add_block-stmts-preserved : goal.add_block-stmts-preserved
add_block-stmts-preserved t c =
    added_step (λ (ss : List Stmt). block_names (statements_of (map statement_of ss))) (statement_names (statement_of c.stmt-item.result))
    c.deref-stmt-items.result.now c.stmts.stmt-index c.stmt-item.result (names_of c.stmts.names.items) _ _ (λ ys. refl)
    c.stmts-test.true c.stmt-item.is c.in_ok-add_statement.ensures c.stmts.invariant

pub add_arms-arms-preserved : goal.add_arms-arms-preserved
add_arms-arms-preserved t c =
    let arm = arm_of c.arm-item.result in
    added_step (λ (as' : List Arm). branch_names (branches_of (map arm_of as') Nothing)) (expression_names arm.0 ++ block_names arm.1)
    c.args.arms.now c.arms.arm-index c.arm-item.result (names_of c.arms.names.items) _ _
    (λ ys. sym (append_assoc (expression_names arm.0) (block_names arm.1) (branch_names (branches_of (map arm_of ys) Nothing))))
    c.arms-test.true c.arm-item.is c.in_ok-add_arm.ensures c.arms.invariant
