use Rattle.std.proofs.Common.{◌≡◌, rules, map, drop, option_map, refl, ap, subst, ◌∙◌, arith}
use Rattle.std.proofs.lemmas.Result.{on_ok_weaker}
use Rattle.seq_tree.specs.Statements.{Null, Assign, If, For, ExitWhen, Call, Work, Put}
use Rattle.seq_tree.specs.Trees.{arm_of, block_of, branches_of, expression_of, otherwise, statement_of, statements_of}
use Rattle.seq_tree.specs.declared.tree.Stmt.{the_lemmas}
use Rattle.seq_tree.proofs.Shared.TreeForms.{block-tree}
use Rattle.linker.specs.Linking.{LinksBlock, LinksBranches}
use Rattle.linker.specs.Standing.{lists_of}
use Rattle.linker.proofs.Linkages.{links_else, links_end, links_if, links_nothing, links_then, links_when}
use Rattle.linker.proofs.LinkSteps.{arms_none, arms_step, if_ok, on_ok_given, stmts_none, stmts_step}
use Rattle.linker.proofs.link.+statements.Goals as goal

pub link_statement-returns-in-Null-clause-links : goal.link_statement-returns-in-Null-clause-links
link_statement-returns-in-Null-clause-links g t c =
    let opened : statement_of c.args.stmt.now ≡ Null = search (rules, the_lemmas) in
    rw opened (if_ok c.link_null.result _ _ (λ at h. h (g.C.Calls.leads c.args.calls.now) c.args.scope.now c.args.out) c.link_null.ensures)

pub link_statement-returns-in-Work-clause-links : goal.link_statement-returns-in-Work-clause-links
link_statement-returns-in-Work-clause-links g t c =
    let opened : statement_of c.args.stmt.now ≡ Work c.in-Work.ticks = search (rules, the_lemmas) in
    rw opened (if_ok c.link_work.result _ _ (λ at h. h (g.C.Calls.leads c.args.calls.now) c.args.scope.now c.args.out) c.link_work.ensures)

pub link_statement-returns-in-Assign-clause-links : goal.link_statement-returns-in-Assign-clause-links
link_statement-returns-in-Assign-clause-links g t c =
    let opened : statement_of c.args.stmt.now ≡ Assign c.in-Assign.target (expression_of c.in-Assign.value) = search (rules, the_lemmas) in
    rw opened (if_ok c.link_assign.result _ _ (λ at h. h (g.C.Calls.leads c.args.calls.now) c.args.out) c.link_assign.ensures)

pub link_statement-returns-in-Put-clause-links : goal.link_statement-returns-in-Put-clause-links
link_statement-returns-in-Put-clause-links g t c =
    let opened : statement_of c.args.stmt.now ≡ Put (expression_of c.in-Put.value) = search (rules, the_lemmas) in
    rw opened (if_ok c.link_put.result _ _ (λ at h. h (g.C.Calls.leads c.args.calls.now) c.args.out) c.link_put.ensures)

pub link_statement-returns-in-ExitWhen-clause-links : goal.link_statement-returns-in-ExitWhen-clause-links
link_statement-returns-in-ExitWhen-clause-links g t c =
    let opened : statement_of c.args.stmt.now ≡ ExitWhen (expression_of c.in-ExitWhen.condition) = search (rules, the_lemmas) in
    rw opened (if_ok c.link_exit.result _ _ (λ at h. h (g.C.Calls.leads c.args.calls.now)) c.link_exit.ensures)

pub link_statement-returns-in-Call-clause-links : goal.link_statement-returns-in-Call-clause-links
link_statement-returns-in-Call-clause-links g t c =
    let opened : statement_of c.args.stmt.now ≡ Call c.in-Call.object c.in-Call.op (map expression_of c.in-Call.actuals.items)
    = search (rules, the_lemmas) in
    rw opened (if_ok c.link_call.result _ _ (λ at h. h c.args.out) (rw c.deref-in-Call.ensures.value at c.link_call.ensures))

pub link_statement-returns-in_ok-others-in-If-clause-links : goal.link_statement-returns-in_ok-others-in-If-clause-links
link_statement-returns-in_ok-others-in-If-clause-links g t c =
    let opened : statement_of c.args.stmt.now
    ≡ If (branches_of (map arm_of c.in-If.arms.value.items) (otherwise (option_map block_of c.in-If.other))) = search (rules, the_lemmas) in
    let leads = g.C.Calls.leads c.args.calls.now in
    let s = c.args.scope.now in
    rw opened (if_ok c.link_arms.result _ _
    (λ start h. links_if leads s c.args.out c.args.end start (lists_of c.args.code.now) (lists_of c.link_arms.new.code) _
    (h (lists_of c.args.code.now) _ c.in_ok-others-in-If.ensures.links))
    (rw (c.in_ok-others-in-If.ensures.scope, c.deref-in-If.ensures.value, c.deref.ensures) at c.link_arms.ensures.links))

pub link_statement-returns-in_ok-others-in-If-clause-scope : goal.link_statement-returns-in_ok-others-in-If-clause-scope
link_statement-returns-in_ok-others-in-If-clause-scope g t c =
    on_ok_weaker c.link_arms.result (λ e. e ∙ c.in_ok-others-in-If.ensures.scope) c.link_arms.ensures.scope

pub link_statement-returns-in_ok-leave-in-For-clause-links : goal.link_statement-returns-in_ok-leave-in-For-clause-links
link_statement-returns-in_ok-leave-in-For-clause-links g t c =
    let body = block_of c.in-For.body in
    let opened : statement_of c.args.stmt.now ≡ For c.in-For.name c.in-For.low c.in-For.high body = search (rules, the_lemmas) in
    rw opened (if_ok c.close_loop.result _ _
    (λ at h. h (g.C.Calls.leads c.args.calls.now) c.in-For.name c.args.scope.now c.args.out c.in_ok-next-in-For.next body (lists_of c.args.code.now)
    c.in_ok-counter-in-For.ensures.counter c.in_ok-next-in-For.ensures
    (rw c.in_ok-counter-in-For.ensures.scope at c.in_ok-start-in-For.ensures.links)) c.close_loop.ensures)

pub link_statement-returns-in_ok-leave-in-For-clause-scope : goal.link_statement-returns-in_ok-leave-in-For-clause-scope
link_statement-returns-in_ok-leave-in-For-clause-scope g t c =
    on_ok_given c.close_loop.result (c.in_ok-leave-in-For.ensures.left
    ∙ ap (λ z. drop 1 z) (c.in_ok-start-in-For.ensures.scope ∙ c.in_ok-counter-in-For.ensures.scope))

pub link_other-returns-in-None-clause-links : goal.link_other-returns-in-None-clause-links
link_other-returns-in-None-clause-links g t c =
    rw c.in-None.is (links_nothing (g.C.Calls.leads c.args.calls.now) c.args.scope.now c.args.out c.args.end (lists_of c.args.code.now))

pub link_other-returns-in-Some-clause-links : goal.link_other-returns-in-Some-clause-links
link_other-returns-in-Some-clause-links g t c =
    rw c.in-Some.is (if_ok c.link_block.result _ _
    (λ start h. links_else (g.C.Calls.leads c.args.calls.now) c.args.scope.now c.args.out c.args.end start (lists_of c.args.code.now)
    (lists_of c.link_block.new.code) (block_of c.in-Some.block) h) c.link_block.ensures.links)

pub link_block-stmts-init : goal.link_block-stmts-init
link_block-stmts-init g t c = let long = c.len-at.ensures ∙ c.args.block.now.stmts.ok.0 in record {
  within = omega (arith, long);
  same = refl;
  links = rw (stmts_none c.args.block.now.stmts.items c.len-at.result (omega (arith, long)))
      (links_end (g.C.Calls.leads c.args.calls.now) c.args.scope.now c.args.out c.args.end (lists_of c.args.code.now));
}

pub link_arms-arms-init : goal.link_arms-arms-init
link_arms-arms-init g t c = record {
  within = omega arith;
  same = refl;
  links = λ from bs h. rw (arms_none c.args.arms.now bs) h;
}

pub link_block-stmts-preserved : goal.link_block-stmts-preserved
link_block-stmts-preserved g t c =
    let i = c.stmts.invariant in
    let a = c.args in
    let leads = g.C.Calls.leads a.calls.now in
    record {
      within = omega (arith, i.within);
      same = c.in_ok-linked.ensures.scope ∙ i.same;
      links = rw (stmts_step a.block.now.stmts.items c.stmts.at c.index.result.now c.stmts-test.true i.within c.index.ensures)
          (links_then leads a.scope.now a.out a.end c.stmts.start c.in_ok-linked.linked (lists_of a.code.now) (lists_of c.stmts.code)
          (lists_of c.link_statement.new.code) (statement_of c.index.result.now) _ i.links (rw i.same at c.in_ok-linked.ensures.links));
    }

pub link_arms-arms-preserved : goal.link_arms-arms-preserved
link_arms-arms-preserved g t c =
    let i = c.arms.invariant in
    let a = c.args in
    record {
      within = omega (arith, i.within);
      same = c.in_ok-linked.ensures.scope ∙ i.same;
      links = λ from bs h. rw (arms_step a.arms.now c.arms.at c.index-arms-at.result bs c.arms-test.true i.within c.index-arms-at.is)
          ((rw i.same at c.in_ok-linked.ensures.links) from _ (i.links from bs h));
    }

pub link_block-returns-clause-links : goal.link_block-returns-clause-links
link_block-returns-clause-links g t c =
    let a = c.args in
    let none : c.stmts.at ≡ 0 = omega (arith, c.stmts-test.false) in
    rw (block-tree a.block.now)
    (subst (λ k. LinksBlock (g.C.Calls.leads a.calls.now) a.scope.now a.out a.end (lists_of a.code.now) (lists_of c.stmts.code) c.stmts.start
    (statements_of (map statement_of (drop k a.block.now.stmts.items)))) none c.stmts.invariant.links)

pub link_arms-returns-clause-links : goal.link_arms-returns-clause-links
link_arms-returns-clause-links g t c =
    let a = c.args in
    let none : c.arms.at ≡ 0 = omega (arith, c.arms-test.false) in
    λ from bs h. subst (λ k. LinksBranches (g.C.Calls.leads a.calls.now) a.scope.now a.out a.end from (lists_of c.arms.code) c.arms.start
    (branches_of (map arm_of (drop k a.arms.now)) bs)) none (c.arms.invariant.links from bs h)

pub link_arm-returns-clause-links : goal.link_arm-returns-clause-links
link_arm-returns-clause-links g t c =
    let a = c.args in
    λ from bs rest. links_when (g.C.Calls.leads a.calls.now) a.scope.now a.out a.end a.others c.in_ok-jump.jump c.in_ok-block.block
    c.in_ok-start.start
    c.in_ok-cond.cond from (lists_of a.code.now) (lists_of c.fill.new.code) (lists_of c.link_block.new.code) (lists_of c.add_expr.new.code)
    (lists_of c.fill-2.new.code) (expression_of a.arm.now.cond) (block_of a.arm.now.block) bs rest c.in_ok-jump.ensures c.in_ok-fill.ensures
    c.in_ok-block.ensures.links c.in_ok-cond.ensures.added (rw c.in_ok-block.ensures.scope at c.in_ok-cond.ensures.reads) c.in_ok-start.ensures
    c.in_ok-fill-2.ensures
