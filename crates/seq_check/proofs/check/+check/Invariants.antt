use Rattle.std.proofs.Common.{◌≡◌, map, drop}
use Rattle.seq_tree.specs.Faults.{block_fault, branches_fault}
use Rattle.seq_tree.specs.Statements.{Nothing}
use Rattle.seq_tree.specs.Trees.{arm_of, block_of, branches_of, statement_of, statements_of}
use Rattle.seq_check.specs.Places.{place_of}
use Rattle.seq_check.proofs.check.+check.Given as goal

-- the first fault is that of the statements that are left
abbrev pub invariant-check_at-stmts : goal.invariant-check_at-stmts
invariant-check_at-stmts l = block_fault (place_of l.place) (statements_of (map statement_of (drop l.stmt-index l.stmt-items)))
    ≡ block_fault (place_of l.place) (block_of l.block)

-- the first fault is that of the arms that are left
abbrev pub invariant-check_arms-arms : goal.invariant-check_arms-arms
invariant-check_arms-arms l =
    branches_fault (place_of l.place) (branches_of (map arm_of (drop l.arm-index l.arms)) Nothing)
    ≡ branches_fault (place_of l.place) (branches_of (map arm_of l.arms) Nothing)
