use Rattle.std.proofs.Common.{rules, ◌≡◌, ◌+◌, ◌++◌, List, [], map, drop, sym, ap, ◌∙◌}
use Rattle.std.specs.Prelude.{option_map}
use Rattle.std.proofs.lemmas.List.{map-append}
use Rattle.seq_tree.specs.Statements.{Statement, If, Nothing}
use Rattle.seq_tree.specs.Trees.{arm_of, block_of, branches_of, otherwise, statement_of, statements_of}
use Rattle.seq_tree.specs.declared.tree.OpName.{OpName}
use Rattle.seq_tree.specs.declared.tree.Stmt.{the_lemmas}
use Rattle.seq_cost.specs.Different.{call_of}
use Rattle.seq_cost.specs.declared.written.Call.{Call}
use Rattle.call_graph.specs.Listed.{block_listed, branch_listed, statement_listed}
use Rattle.call_graph.proofs.ListedSteps.{branch-append, joined, statement_step}
use Rattle.call_graph.proofs.listed.+gathering.Goals as goal

pub add_block-stmts-preserved : goal.add_block-stmts-preserved
add_block-stmts-preserved t c =
    let twice = c.args.twice in
    let later = block_listed twice (statements_of (map statement_of (drop (c.stmts.stmt-index + 1) c.deref-stmt-items.result.now))) in
    let split = statement_step twice c.deref-stmt-items.result.now c.stmts.stmt-index c.stmt-item.result c.stmts-test.true c.stmt-item.is in
    rw c.in_ok-add_statement.ensures (sym (joined (map call_of c.stmts.found.items) (statement_listed twice (statement_of c.stmt-item.result)) later)
    ∙ ap (λ l. map call_of c.stmts.found.items ++ l) (sym split) ∙ c.stmts.invariant)

pub add_statement-returns-in_ok-extend_from_slice-in-If : goal.add_statement-returns-in_ok-extend_from_slice-in-If
add_statement-returns-in_ok-extend_from_slice-in-If t c =
    let twice = c.args.twice in
    let found = map call_of c.args.found.now.items in
    let arms = map arm_of c.in-If.arms.value.items in
    let others = otherwise (option_map block_of c.in-If.other) in
    let opened : statement_of c.args.stmt.now ≡ If (branches_of arms others) = search (rules, the_lemmas) in
    let first : map call_of c.add_arms.new.listed.items
    ≡ branch_listed twice (map call_of c.new-listed.result.items) (branches_of arms Nothing)
    = rw (sym c.deref.ensures, sym c.deref-in-If.ensures.value) c.in_ok-add_arms-in-If.ensures.listed in
    let none : branch_listed twice (map call_of c.new-listed.result.items) (branches_of arms Nothing)
    ≡ branch_listed twice [] (branches_of arms Nothing)
    = ap (λ (ls : List Call). branch_listed twice (map call_of ls) (branches_of arms Nothing)) c.new-listed.ensures.items in
    let both : map call_of c.add_other.new.listed.items ≡ branch_listed twice [] (branches_of arms others)
    = c.in_ok-add_other-in-If.ensures ∙ ap (λ (l : List OpName). branch_listed twice l others) (first ∙ none)
    ∙ sym (branch-append twice [] arms others) in
    ap (λ (ls : List Call). map call_of ls) c.in_ok-extend_from_slice-in-If.ensures.items ∙ map-append call_of c.args.found.now.items _
    ∙ ap (λ (ls : List Call). found ++ map call_of ls) c.as_slice.ensures.value ∙ ap (λ (l : List OpName). found ++ l) both
    ∙ ap (λ (s : Statement). found ++ statement_listed twice s) (sym opened)
