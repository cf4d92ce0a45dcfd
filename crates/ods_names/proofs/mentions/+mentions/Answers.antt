use Rattle.std.proofs.Common.{rules, ◌≡◌, ◌++◌, List, OnOk, map, option_map, refl, ap, sym, subst, ◌∙◌}
use Rattle.seq_tree.specs.Statements.{If, Nothing}
use Rattle.seq_tree.specs.Trees.{arm_of, block_of, branches_of, otherwise, statement_of, statements_of}
use Rattle.seq_tree.specs.declared.tree.Arm.{Arm}
use Rattle.seq_tree.specs.declared.tree.Stmt.{Stmt, the_lemmas}
use Rattle.design_rules.specs.Clashes.{Mention, block_loops, branch_loops, statement_loops}
use Rattle.ods_names.specs.Mentions.{gathered, mention_by, requests_in}
use Rattle.ods_names.specs.NameLists.{names_of}
use Rattle.seq_tree.proofs.Shared.LoopSteps.{added_step}
use Rattle.ods_names.proofs.MentionSteps.{added_loops}
use Rattle.ods_names.proofs.mentions.+mentions.Goals as goal

pub add_statement-returns-in_ok-add_arms-in-If : goal.add_statement-returns-in_ok-add_arms-in-If
add_statement-returns-in_ok-add_arms-in-If t c =
    let old = gathered c.args.source.index.now c.args.into.now.items in
    let f = mention_by (requests_in c.args.source.index.now) c.args.role in
    let open' = names_of c.args.loops.now in
    let arms = map arm_of c.in-If.arms.value.items in
    let other = otherwise (option_map block_of c.in-If.other) in
    let opened : statement_of c.args.stmt.now ≡ If (branches_of arms other) = search (rules, the_lemmas) in
    let first : gathered c.args.source.index.now c.add_arms.new.into.items ≡ old ++ branch_loops f open' (branches_of arms Nothing)
    = rw (sym c.deref.ensures, sym c.deref-in-If.ensures.value) c.in_ok-add_arms-in-If.ensures in
    let P : List Mention → Type 0 = λ ns. OnOk c.add_other.result (gathered c.args.source.index.now c.add_other.new.into.items ≡ ns) in
    subst P (added_loops f open' old (gathered c.args.source.index.now c.add_arms.new.into.items) arms other first ∙ ap
    (λ s. old ++ statement_loops f open' s) (sym opened)) c.add_other.ensures

pub add_block-stmts-preserved : goal.add_block-stmts-preserved
add_block-stmts-preserved t c =
    let i = c.args.source.index.now in
    let f = mention_by (requests_in i) c.args.role in
    let open' = names_of c.args.loops.now in
    added_step (λ (ss : List Stmt). block_loops f open' (statements_of (map statement_of ss)))
    (statement_loops f open' (statement_of c.stmt-item.result)) c.deref-stmt-items.result.now c.stmts.stmt-index c.stmt-item.result
    (gathered i c.stmts.into.items) _ _ (λ ys. refl)
    c.stmts-test.true c.stmt-item.is c.in_ok-add_statement.ensures c.stmts.invariant

pub add_arms-arms-preserved : goal.add_arms-arms-preserved
add_arms-arms-preserved t c =
    let i = c.args.source.index.now in
    let f = mention_by (requests_in i) c.args.role in
    let open' = names_of c.args.loops.now in
    let own : (arm_of c.arm-item.result).1 ≡ block_of c.arm-item.result.block = search (rules, the_lemmas) in
    added_step (λ (as' : List Arm). branch_loops f open' (branches_of (map arm_of as') Nothing)) (block_loops f open' (arm_of c.arm-item.result).1)
    c.args.arms.now c.arms.arm-index c.arm-item.result (gathered i c.arms.into.items) _ _ (λ ys. refl)
    c.arms-test.true c.arm-item.is
    (c.in_ok-add_block.ensures ∙ ap (λ b. gathered i c.arms.into.items ++ block_loops f open' b) (sym own)) c.arms.invariant
