use Rattle.std.proofs.Common.{◌≡◌, ◌+◌, map, drop}
use Rattle.seq_tree.specs.Statements.{Nothing}
use Rattle.seq_tree.specs.Trees.{arm_of, branches_of, statement_of, statements_of}
use Rattle.law_flat_code.specs.Codes.{block_size, branch_size}
use Rattle.linker.proofs.size.+statements.Given as goal

-- the instructions so far and those of the arms that are left are those of all
abbrev pub invariant-arms_len-arms : goal.invariant-arms_len-arms
invariant-arms_len-arms l =
    l.len + branch_size (branches_of (map arm_of (drop l.arm-index l.arms)) Nothing) ≡ branch_size (branches_of (map arm_of l.arms) Nothing)

-- the instructions so far and those of the statements that are left are those of all
abbrev pub invariant-block_len-stmts : goal.invariant-block_len-stmts
invariant-block_len-stmts l =
    l.len + block_size (statements_of (map statement_of (drop l.stmt-index l.stmt-items)))
    ≡ block_size (statements_of (map statement_of l.stmt-items))
