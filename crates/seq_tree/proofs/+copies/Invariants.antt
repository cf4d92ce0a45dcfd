use Rattle.std.proofs.Common.{◌≡◌, map, take}
use Rattle.seq_tree.specs.Trees.{arm_of, statement_of}
use Rattle.seq_tree.proofs.+copies.Given as goal

-- the copies so far have the trees of the arms so far
abbrev pub invariant-copies::copy_arms-arms : goal.invariant-copies::copy_arms-arms
invariant-copies::copy_arms-arms l = map arm_of l.copies.items ≡ map arm_of (take l.arm-index l.arms)

-- the copies so far have the trees of the statements so far
abbrev pub invariant-tree::Block::copy-stmts : goal.invariant-tree::Block::copy-stmts
invariant-tree::Block::copy-stmts l = map statement_of l.stmts.items ≡ map statement_of (take l.stmt-index l.stmt-items)
