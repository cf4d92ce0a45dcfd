use Rattle.std.proofs.Common.{◌≡◌, ◌++◌, map, drop}
use Rattle.seq_tree.specs.Statements.{Nothing}
use Rattle.seq_tree.specs.Trees.{arm_of, block_of, branches_of, statement_of, statements_of}
use Rattle.seq_cost.specs.Different.{call_of}
use Rattle.call_graph.specs.Branched.{AreNames}
use Rattle.call_graph.specs.Listed.{block_listed, branch_listed}
use Rattle.call_graph.proofs.listed.+gathering.Given as goal

-- what is listed so far, and the calls of the arms that are left
abbrev pub invariant-add_arms-arms : goal.invariant-add_arms-arms
invariant-add_arms-arms l =
    AreNames l.names (map call_of l.listed.items)
    × (branch_listed l.twice (map call_of l.listed.items) (branches_of (map arm_of (drop l.arm-index l.arms)) Nothing)
    ≡ branch_listed l.twice (map call_of l.initial.listed.items) (branches_of (map arm_of l.arms) Nothing))

-- what was found, and the calls of the statements that are left
abbrev pub invariant-add_block-stmts : goal.invariant-add_block-stmts
invariant-add_block-stmts l =
    map call_of l.found.items ++ block_listed l.twice (statements_of (map statement_of (drop l.stmt-index l.stmt-items)))
    ≡ map call_of l.initial.found.items ++ block_listed l.twice (block_of l.block)
