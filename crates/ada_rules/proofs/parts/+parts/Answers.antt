use Rattle.std.proofs.Common.{◌++◌, List, map, option_map, refl, ap}
use Rattle.seq_tree.specs.Trees.{arm_of, block_of, otherwise, statement_of, statements_of}
use Rattle.seq_tree.specs.declared.tree.Arm.{Arm}
use Rattle.seq_tree.specs.declared.tree.Stmt.{Stmt}
use Rattle.ada_rules.specs.Parts.{part_of, arms_parts, block_parts, statement_parts}
use Rattle.seq_tree.proofs.Shared.TreeForms.{arm-tree, for-tree, if-tree, work-tree}
use Rattle.seq_tree.proofs.Shared.LoopSteps.{added_step}
use Rattle.ada_rules.proofs.PartSteps.{pushed, looped, branched}
use Rattle.ada_rules.proofs.parts.+parts.Goals as goal

pub add_statement-returns-in_ok-add_other-in-If : goal.add_statement-returns-in_ok-add_other-in-If
add_statement-returns-in_ok-add_other-in-If t c =
    rw (c.in-If.is, if-tree c.in-If.arms c.in-If.other)
    (branched (map part_of c.args.parts.now.items) (map part_of c.add_arms.new.parts.items) (map part_of c.add_other.new.parts.items)
    (map arm_of c.in-If.arms.value.items)
    (otherwise (option_map block_of c.in-If.other)) (rw (c.as_slice.ensures.value, c.deref.ensures) at c.in_ok-add_arms-in-If.ensures)
    c.in_ok-add_other-in-If.ensures)

pub add_statement-returns-in_ok-push-in-For-2 : goal.add_statement-returns-in_ok-push-in-For-2
add_statement-returns-in_ok-push-in-For-2 t c =
    rw (c.in-For.is, for-tree)
    (looped c.args.parts.now.items c.push.new.self.items c.add_block.new.parts.items c.push-in-For.new.self.items _ _
    (block_parts (block_of c.in-For.body))
    c.in_ok-push-in-For.ensures.items c.in_ok-add_block-in-For.ensures c.in_ok-push-in-For-2.ensures.items)

pub add_statement-returns-in_ok-push-in-Work : goal.add_statement-returns-in_ok-push-in-Work
add_statement-returns-in_ok-push-in-Work t c =
    rw (c.in-Work.is, work-tree) (pushed c.args.parts.now.items c.push-in-Work.new.self.items _ c.in_ok-push-in-Work.ensures.items)

pub add_arms-arms-preserved : goal.add_arms-arms-preserved
add_arms-arms-preserved t c =
    let arm = c.arm-item.result in
    added_step (λ (arms : List Arm). arms_parts (map arm_of arms)) (block_parts (block_of arm.block))
    c.args.arms.now c.arms.arm-index arm (map part_of c.arms.parts.items) _ _
    (λ ys. ap (λ a. block_parts a.1 ++ arms_parts (map arm_of ys)) (arm-tree arm)) c.arms-test.true c.arm-item.is c.in_ok-add_block.ensures
    c.arms.invariant

pub add_block-stmts-preserved : goal.add_block-stmts-preserved
add_block-stmts-preserved t c =
    let stmt = c.stmt-item.result in
    added_step (λ (stmts : List Stmt). block_parts (statements_of (map statement_of stmts))) (statement_parts (statement_of stmt))
    c.deref-stmt-items.result.now c.stmts.stmt-index stmt (map part_of c.stmts.parts.items) _ _
    (λ ys. refl) c.stmts-test.true c.stmt-item.is c.in_ok-add_statement.ensures c.stmts.invariant
