use Rattle.std.proofs.Common.{◌≡◌, ◌++◌, map, drop}
use Rattle.seq_tree.specs.Statements.{Nothing}
use Rattle.seq_tree.specs.Trees.{arm_of, block_of, branches_of, statement_of, statements_of}
use Rattle.seq_cost.specs.Different.{call_of}
use Rattle.seq_cost.specs.Gathered.{block_gathered, branch_gathered}
use Rattle.seq_cost.proofs.written.+gathering.Given as goal

-- what was found, and the calls of the arms that are left
abbrev pub invariant-add_arms-arms : goal.invariant-add_arms-arms
invariant-add_arms-arms l =
    map call_of l.found.items ++ branch_gathered l.how (branches_of (map arm_of (drop l.arm-index l.arms)) Nothing)
    ≡ map call_of l.initial.found.items ++ branch_gathered l.how (branches_of (map arm_of l.arms) Nothing)

-- what was found, and the calls of the statements that are left
abbrev pub invariant-add_block-stmts : goal.invariant-add_block-stmts
invariant-add_block-stmts l =
    map call_of l.found.items ++ block_gathered l.how (statements_of (map statement_of (drop l.stmt-index l.stmt-items)))
    ≡ map call_of l.initial.found.items ++ block_gathered l.how (block_of l.block)
