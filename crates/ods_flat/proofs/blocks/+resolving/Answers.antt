use Rattle.std.proofs.Common.{rules, ◌≡◌, ◌≤◌, length, map, option_map, ap, sym, ◌∙◌}
use Rattle.std.proofs.lemmas.List.{take_all}
use Rattle.seq_tree.specs.Statements.{If}
use Rattle.seq_tree.specs.Trees.{arm_of, block_of, branches_of, otherwise, statement_of, statements_of}
use Rattle.seq_tree.specs.declared.tree.Stmt.{the_lemmas}
use Rattle.ods_tree.specs.Links.{renamed, renamed_statement, resolve}
use Rattle.ods_tree.specs.Trees.{design_of}
use Rattle.seq_tree.proofs.Shared.TreeForms.{block-tree, block_of_roll}
use Rattle.ods_flat.specs.Renaming.{renamed_arm}
use Rattle.ods_flat.proofs.RenamingLaws.{if-renamed, renamed-list}
use Rattle.ods_flat.proofs.blocks.+resolving.Goals as goal

pub resolved_block-returns : goal.resolved_block-returns
resolved_block-returns t c =
    let means = resolve (design_of c.args.links.now.design.now) in
    let items = c.deref-stmt-items.result.now in
    let old = map statement_of items in
    let ended : length items ≤ c.stmts.stmt-index = search rules in
    let made : map statement_of c.stmts.stmts.items ≡ map (renamed_statement means) old
    = c.stmts.invariant ∙ ap (λ ss. map (renamed_statement means) (map statement_of ss)) (take_all c.stmts.stmt-index items ended) in
    let whole = block-tree c.args.block.now in
    let opened : block_of c.args.block.now ≡ statements_of old = search (rules, whole) in
    block_of_roll (record { stmts = c.stmts.stmts }) ∙ ap statements_of made ∙ renamed-list means old ∙ ap (renamed means) (sym opened)

pub resolved_statement-returns-in_ok-other-in-If : goal.resolved_statement-returns-in_ok-other-in-If
resolved_statement-returns-in_ok-other-in-If t c =
    let means = resolve (design_of c.args.links.now.design.now) in
    let arms = map arm_of c.in-If.arms.value.items in
    let opened : statement_of c.args.stmt.now ≡ If (branches_of arms (otherwise (option_map block_of c.in-If.other))) = search (rules, the_lemmas) in
    let copied : map arm_of c.in_ok-copies-in-If.copies.items ≡ map (renamed_arm means) arms
    = rw (c.as_slice.ensures.value, c.deref.ensures) at c.in_ok-copies-in-If.ensures in
    if-renamed means c.in_ok-arms-in-If.arms c.in_ok-other-in-If.other arms (option_map block_of c.in-If.other) (statement_of c.args.stmt.now)
    (ap (λ v. map arm_of v.items) c.in_ok-arms-in-If.ensures.ok ∙ copied) c.in_ok-other-in-If.ensures opened
