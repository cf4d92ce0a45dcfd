-- Instructions counted statement by statement, and arm by arm.
use Rattle.std.proofs.Common.{◌≡◌, ◌<◌, ◌≤◌, ◌+◌, ℕ, suc, List, [], ◌∷◌, length, map, drop, get_or, ap, ◌∙◌, arith}
use Rattle.std.proofs.lemmas.List.{drop_all}
use Rattle.seq_tree.specs.Expressions.{Expression}
use Rattle.seq_tree.specs.Statements.{Branches, Statements, Nothing, When}
use Rattle.seq_tree.specs.Trees.{arm_of, block_of, branches_of, statement_of, statements_of}
use Rattle.seq_tree.specs.declared.tree.Arm.{Arm}
use Rattle.seq_tree.specs.declared.tree.Stmt.{Stmt}
use Rattle.seq_tree.proofs.Shared.LoopSteps.{drop_step}
use Rattle.seq_tree.proofs.Shared.TreeForms.{arm-tree}
use Rattle.law_flat_code.specs.Codes.{block_size, branch_size, size}

-- arms, and what comes after them
pub branch_sum : (as' : List (Expression × Statements)) (bs : Branches)
    → branch_size (branches_of as' bs) ≡ branch_size (branches_of as' Nothing) + branch_size bs
branch_sum [] bs = omega arith
branch_sum (a ∷ as') bs = let rest = branch_sum as' bs in omega (arith, rest)

pub arms_counted : (xs : List Arm) (i : ℕ) (x : Arm) (len next whole : ℕ) → i < length xs → x ≡ get_or xs i x
    → len + branch_size (branches_of (map arm_of (drop i xs)) Nothing) ≡ whole → next ≡ len + (block_size (block_of x.block) + 2)
    → next + branch_size (branches_of (map arm_of (drop (i + 1) xs)) Nothing) ≡ whole
arms_counted xs i x len next whole lt is was more =
    let here : branch_size (branches_of (map arm_of (drop i xs)) Nothing)
    ≡ suc (suc (block_size (block_of x.block) + branch_size (branches_of (map arm_of (drop (i + 1) xs)) Nothing))) =
    ap (λ z. branch_size (branches_of (map arm_of z) Nothing)) (drop_step xs i x lt is)
    ∙ ap (λ a. branch_size (When a.0 a.1 (branches_of (map arm_of (drop (i + 1) xs)) Nothing))) (arm-tree x) in
    omega (arith, here, was, more)

pub arms_end : (xs : List Arm) (i : ℕ) → length xs ≤ i → branch_size (branches_of (map arm_of (drop i xs)) Nothing) ≡ 0
arms_end xs i most = ap (λ z. branch_size (branches_of (map arm_of z) Nothing)) (drop_all i xs most)

pub stmts_counted : (xs : List Stmt) (i : ℕ) (x : Stmt) (len next whole : ℕ) → i < length xs → x ≡ get_or xs i x
    → len + block_size (statements_of (map statement_of (drop i xs))) ≡ whole → next ≡ len + size (statement_of x)
    → next + block_size (statements_of (map statement_of (drop (i + 1) xs))) ≡ whole
stmts_counted xs i x len next whole lt is was more =
    let here : block_size (statements_of (map statement_of (drop i xs)))
    ≡ size (statement_of x) + block_size (statements_of (map statement_of (drop (i + 1) xs))) =
    ap (λ z. block_size (statements_of (map statement_of z))) (drop_step xs i x lt is) in
    omega (arith, here, was, more)

pub stmts_end : (xs : List Stmt) (i : ℕ) → length xs ≤ i → block_size (statements_of (map statement_of (drop i xs))) ≡ 0
stmts_end xs i most = ap (λ z. block_size (statements_of (map statement_of z))) (drop_all i xs most)
