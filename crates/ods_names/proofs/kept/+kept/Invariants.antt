use Rattle.std.proofs.Common.{◌≡◌, ◌++◌, map, drop}
use Rattle.seq_tree.specs.Statements.{Nothing}
use Rattle.seq_tree.specs.Trees.{arm_of, block_of, branches_of, statement_of, statements_of}
use Rattle.design_rules.specs.Words.{block_names, branch_names}
use Rattle.ods_names.specs.NameLists.{names_of}
use Rattle.ods_names.proofs.kept.+kept.Given as goal

-- the names so far, and those of the statements that are left
abbrev pub invariant-add_block-stmts : goal.invariant-add_block-stmts
invariant-add_block-stmts l =
    names_of l.names.items ++ block_names (statements_of (map statement_of (drop l.stmt-index l.stmt-items)))
    ≡ names_of l.initial.names.items ++ block_names (block_of l.block)

-- the names so far, and those of the arms that are left
abbrev pub invariant-add_arms-arms : goal.invariant-add_arms-arms
invariant-add_arms-arms l =
    names_of l.names.items ++ branch_names (branches_of (map arm_of (drop l.arm-index l.arms)) Nothing)
    ≡ names_of l.initial.names.items ++ branch_names (branches_of (map arm_of l.arms) Nothing)
