use Rattle.std.proofs.Common.{rules, ◌≡◌, map, option_map, Ok, Err, sym, ◌∙◌}
use Rattle.seq_tree.specs.Faults.{branches_fault, conditions, expressions_fault}
use Rattle.seq_tree.specs.Statements.{If, Nothing}
use Rattle.seq_tree.specs.Trees.{arm_of, block_of, branches_of, otherwise, statement_of}
use Rattle.seq_tree.specs.declared.tree.Stmt.{the_lemmas}
use Rattle.seq_check.specs.Answers.{answer_of}
use Rattle.seq_check.specs.Places.{place_of}
use Rattle.seq_check.proofs.FaultLaws.{if_arms, if_other}
use Rattle.seq_check.proofs.check.+check.Goals as goal

pub check_statement-returns-in_err-check_arms-in-If : goal.check_statement-returns-in_err-check_arms-in-If
check_statement-returns-in_err-check_arms-in-If t c =
    let place = place_of c.args.place.now in
    let arms = map arm_of c.in-If.arms.value.items in
    let other = otherwise (option_map block_of c.in-If.other) in
    let opened : statement_of c.args.stmt.now ≡ If (branches_of arms other) = search (rules, the_lemmas) in
    let fine : Ok tt ≡ answer_of (expressions_fault place (conditions (branches_of arms other)))
    = rw (sym c.deref.ensures, sym c.deref-in-If.ensures.value) (c.in_ok-check_conditions-in-If.ensures (option_map block_of c.in-If.other)) in
    let told : Err c.in_err-check_arms-in-If.field-0.0 ≡ answer_of (branches_fault place (branches_of arms Nothing))
    = rw (sym c.deref-in-If-2.ensures, sym c.deref-in-If-3.ensures.value) c.in_err-check_arms-in-If.ensures in
    let result : c.from_residual-in_err-check_arms-in-If.result ≡ Err c.in_err-check_arms-in-If.field-0.0 = search rules in
    rw opened (result ∙ sym (if_arms place arms other tt _ (sym fine) (sym told)))

pub check_statement-returns-in_ok-check_arms-in-If : goal.check_statement-returns-in_ok-check_arms-in-If
check_statement-returns-in_ok-check_arms-in-If t c =
    let place = place_of c.args.place.now in
    let arms = map arm_of c.in-If.arms.value.items in
    let other = otherwise (option_map block_of c.in-If.other) in
    let opened : statement_of c.args.stmt.now ≡ If (branches_of arms other) = search (rules, the_lemmas) in
    let fine : Ok tt ≡ answer_of (expressions_fault place (conditions (branches_of arms other)))
    = rw (sym c.deref.ensures, sym c.deref-in-If.ensures.value) (c.in_ok-check_conditions-in-If.ensures (option_map block_of c.in-If.other)) in
    let passed : Ok tt ≡ answer_of (branches_fault place (branches_of arms Nothing))
    = rw (sym c.deref-in-If-2.ensures, sym c.deref-in-If-3.ensures.value) c.in_ok-check_arms-in-If.ensures in
    rw opened (c.check_other.ensures ∙ sym (if_other place arms other tt tt (sym fine) (sym passed)))
