-- A loop over a list: the item at an index with those behind it, and what its calls are.
use Rattle.std.proofs.Common.{◌≡◌, ℕ, ◌+◌, ◌<◌, List, ◌++◌, length, drop, map, get_or, ap}
use Rattle.seq_tree.specs.Statements.{Nothing}
use Rattle.seq_tree.specs.Trees.{arm_of, branches_of, statement_of, statements_of}
use Rattle.seq_tree.specs.declared.tree.Arm.{Arm}
use Rattle.seq_tree.specs.declared.tree.Stmt.{Stmt}
use Rattle.seq_tree.proofs.Shared.LoopSteps.{drop_step}
use Rattle.seq_cost.specs.Gathered.{block_gathered, branch_gathered, statement_gathered}
use Rattle.seq_cost.specs.declared.written.Gathered.{Gathered}

-- the calls of the statement at an index come before those of the later ones
pub statement_step : (how : Gathered) (ss : List Stmt) (i : ℕ) (s : Stmt) → i < length ss → s ≡ get_or ss i s →
    block_gathered how (statements_of (map statement_of (drop i ss))) ≡ statement_gathered how (statement_of s)
    ++ block_gathered how (statements_of (map statement_of (drop (i + 1) ss)))
statement_step how ss i s inside at = ap (λ xs. block_gathered how (statements_of (map statement_of xs))) (drop_step ss i s inside at)

-- those of the arm at an index, before those of the later ones
pub arm_step : (how : Gathered) (arms : List Arm) (i : ℕ) (arm : Arm) → i < length arms → arm ≡ get_or arms i arm →
    branch_gathered how (branches_of (map arm_of (drop i arms)) Nothing) ≡ block_gathered how (arm_of arm).1
    ++ branch_gathered how (branches_of (map arm_of (drop (i + 1) arms)) Nothing)
arm_step how arms i arm inside at = ap (λ xs. branch_gathered how (branches_of (map arm_of xs) Nothing)) (drop_step arms i arm inside at)
