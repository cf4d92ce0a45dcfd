use Rattle.std.proofs.Common.{◌≡◌, ◌++◌, map, drop}
use Rattle.seq_tree.specs.Statements.{Nothing}
use Rattle.seq_tree.specs.Trees.{arm_of, block_of, branches_of, statement_of, statements_of}
use Rattle.design_rules.specs.Clashes.{block_loops, branch_loops}
use Rattle.ods_names.specs.Mentions.{gathered, mention_by, requests_in}
use Rattle.ods_names.specs.NameLists.{names_of}
use Rattle.ods_names.proofs.mentions.+mentions.Given as goal

-- the loops so far, and those of the statements that are left
abbrev pub invariant-add_block-stmts : goal.invariant-add_block-stmts
invariant-add_block-stmts l =
    gathered l.source.index.now l.into.items ++ block_loops (mention_by (requests_in l.source.index.now) l.role) (names_of l.loops)
    (statements_of (map statement_of (drop l.stmt-index l.stmt-items)))
    ≡ gathered l.source.index.now l.initial.into.items ++ block_loops (mention_by (requests_in l.source.index.now) l.role) (names_of l.loops)
    (block_of l.block)

-- the loops so far, and those of the arms that are left
abbrev pub invariant-add_arms-arms : goal.invariant-add_arms-arms
invariant-add_arms-arms l =
    gathered l.source.index.now l.into.items ++ branch_loops (mention_by (requests_in l.source.index.now) l.role) (names_of l.loops)
    (branches_of (map arm_of (drop l.arm-index l.arms)) Nothing)
    ≡ gathered l.source.index.now l.initial.into.items ++ branch_loops (mention_by (requests_in l.source.index.now) l.role) (names_of l.loops)
    (branches_of (map arm_of l.arms) Nothing)
