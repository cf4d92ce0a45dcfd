use Rattle.std.proofs.Common.{◌≡◌, map, take}
use Rattle.seq_tree.specs.Trees.{arm_of, statement_of}
use Rattle.ods_tree.specs.Links.{renamed_statement, resolve}
use Rattle.ods_tree.specs.Trees.{design_of}
use Rattle.ods_flat.specs.Renaming.{renamed_arm}
use Rattle.ods_flat.proofs.blocks.+resolving.Given as goal

-- the arms so far
abbrev pub invariant-resolved_arms-arms : goal.invariant-resolved_arms-arms
invariant-resolved_arms-arms l =
    map arm_of l.copies.items ≡ map (renamed_arm (resolve (design_of l.links.design.now))) (map arm_of (take l.arm-index l.arms))

-- the statements so far
abbrev pub invariant-resolved_block-stmts : goal.invariant-resolved_block-stmts
invariant-resolved_block-stmts l =
    map statement_of l.stmts.items ≡ map (renamed_statement (resolve (design_of l.links.design.now)))
    (map statement_of (take l.stmt-index l.stmt-items))
