use Rattle.std.proofs.Common.{sym, ap, map, codes, List, Ok, option_map, ◌∙◌}
use Rattle.std.proofs.lemmas.List.{map-append}
use Rattle.seq_tree.specs.Statements.{If}
use Rattle.seq_tree.specs.Trees.{arm_of, block_of, branches_of, otherwise, statement_of, statements_of}
use Rattle.seq_tree.specs.declared.tree.Arm.{Arm}
use Rattle.seq_tree.specs.declared.tree.Stmt.{Stmt}
use Rattle.seq_tree.specs.declared.token.Token.TheVariants as token
use Rattle.token_read.specs.Ahead.{ahead}
use Rattle.token_read.specs.Readers.{next_is}
use Rattle.seq_read.specs.Names.{may_name}
use Rattle.seq_read.specs.Expressions.{expression_at}
use Rattle.seq_read.specs.Statements.{begins_statement, arm_at, statement_at, block_at}
use Rattle.seq_read.proofs.Shared.Turns.{onward-turn, onward-ends, turn-shorter}
use Rattle.seq_read.proofs.Shared.TokenTakes.{takes-statement}
use Rattle.seq_read.proofs.BlockSteps.{close_if, close_block, if-closes, arm-takes}
use Rattle.seq_tree.proofs.Shared.TreeForms.{block_of_roll, if-tree}
use Rattle.seq_read.proofs.statements.+nesting.Goals as goal

pub conditional-arms-smaller : goal.conditional-arms-smaller
conditional-arms-smaller t c =
    turn-shorter (arm_at (expression_at (may_name c.args.text) 32 c.args.deeper) (block_at (may_name c.args.text) 32 c.args.deeper))
    (ahead c.arms.rest) (ahead c.in_ok-next.after)
    (arm_of c.in_ok-next.next) (arm-takes (may_name c.args.text) 32 c.args.deeper) c.in_ok-next.ensures

pub conditional-arms-preserved : goal.conditional-arms-preserved
conditional-arms-preserved t c =
    let block = block_at (may_name c.args.text) 32 c.args.deeper in
    rw (c.in_ok-push-2.ensures.items, map-append)
    (onward-turn (next_is (token.Word (codes "elsif"))) (arm_at (expression_at (may_name c.args.text) 32 c.args.deeper) block) (close_if block)
    (map arm_of c.arms.arms.items) (ahead c.arms.rest)
    (arm_of c.in_ok-next.next) (ahead c.in_ok-next.after) (arm-takes (may_name c.args.text) 32 c.args.deeper)
    (sym c.arms-test.ensures) c.in_ok-next.ensures
    ∙ c.arms.invariant)

pub block-stmts-smaller : goal.block-stmts-smaller
block-stmts-smaller t c =
    turn-shorter (statement_at (may_name c.args.text) 32 c.args.deeper) (ahead c.stmts.rest) (ahead c.in_ok-next.after)
    (statement_of c.in_ok-next.next)
    (takes-statement (may_name c.args.text) 32 c.args.deeper) c.in_ok-next.ensures

pub block-stmts-preserved : goal.block-stmts-preserved
block-stmts-preserved t c =
    rw (c.in_ok-push-2.ensures.items, map-append)
    (onward-turn (begins_statement (may_name c.args.text)) (statement_at (may_name c.args.text) 32 c.args.deeper) close_block
    (map statement_of c.stmts.stmts.items) (ahead c.stmts.rest)
    (statement_of c.in_ok-next.next) (ahead c.in_ok-next.after) (takes-statement (may_name c.args.text) 32 c.args.deeper)
    (sym c.stmts-test.ensures) c.in_ok-next.ensures
    ∙ c.stmts.invariant)

pub block-returns : goal.block-returns
block-returns t c =
    sym c.stmts.invariant
    ∙ onward-ends (begins_statement (may_name c.args.text)) (statement_at (may_name c.args.text) 32 c.args.deeper) close_block
    (map statement_of c.stmts.stmts.items) (ahead c.stmts.rest) (sym c.stmts-test.ensures)
    ∙ ap (λ (ss : List Stmt). Ok (statements_of (map statement_of ss), ahead c.stmts.rest)) (sym c.shrink_to_fit.ensures.items)
    ∙ ap (λ b. Ok (b, ahead c.stmts.rest)) (sym (block_of_roll (record { stmts = c.shrink_to_fit.new.self })))

pub conditional-returns : goal.conditional-returns
conditional-returns t c =
    let block = block_at (may_name c.args.text) 32 c.args.deeper in
    sym c.arms.invariant
    ∙ onward-ends (next_is (token.Word (codes "elsif"))) (arm_at (expression_at (may_name c.args.text) 32 c.args.deeper) block) (close_if block)
    (map arm_of c.arms.arms.items) (ahead c.arms.rest) (sym c.arms-test.ensures)
    ∙ if-closes block (map arm_of c.arms.arms.items) (otherwise (option_map block_of c.in_ok-other.other)) (ahead c.arms.rest)
    (ahead c.in_ok-other.ended) (ahead c.in_ok-ended.ended)
    (ahead c.in_ok-ended-2.ended) (ahead c.in_ok-ended-3.ended) c.in_ok-other.ensures c.in_ok-ended.ensures.gives c.in_ok-ended-2.ensures.gives
    c.in_ok-ended-3.ensures.gives
    ∙ ap (λ (xs : List Arm). Ok (
      If (branches_of (map arm_of xs) (otherwise (option_map block_of c.in_ok-other.other))),
      ahead c.in_ok-ended-3.ended,
    )) (sym c.shrink_to_fit.ensures.items)
    ∙ ap (λ v. Ok (If (branches_of (map arm_of v.items) (otherwise (option_map block_of c.in_ok-other.other))), ahead c.in_ok-ended-3.ended))
    (sym c.in_ok-arms.ensures.ok)
    ∙ ap (λ s. Ok (s, ahead c.in_ok-ended-3.ended)) (sym (if-tree c.in_ok-arms.arms c.in_ok-other.other))
