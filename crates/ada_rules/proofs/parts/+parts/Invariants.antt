use Rattle.std.proofs.Common.{◌≡◌, ◌++◌, map, drop}
use Rattle.seq_tree.specs.Trees.{arm_of, statement_of, statements_of}
use Rattle.ada_rules.specs.Parts.{arms_parts, block_parts, part_of}
use Rattle.ada_rules.proofs.parts.+parts.Given as goal

-- the parts so far and those of the arms that are left
abbrev pub invariant-add_arms-arms : goal.invariant-add_arms-arms
invariant-add_arms-arms l = map part_of l.parts.items ++ arms_parts (map arm_of (drop l.arm-index l.arms))
    ≡ map part_of l.initial.parts.items ++ arms_parts (map arm_of l.arms)

-- the parts so far and those of the statements that are left
abbrev pub invariant-add_block-stmts : goal.invariant-add_block-stmts
invariant-add_block-stmts l = map part_of l.parts.items ++ block_parts (statements_of (map statement_of (drop l.stmt-index l.stmt-items)))
    ≡ map part_of l.initial.parts.items ++ block_parts (statements_of (map statement_of l.stmt-items))
