use Rattle.std.proofs.Common.{◌≡◌, map, take}
use Rattle.seq_tree.specs.Trees.{expression_of}
use Rattle.ods_flat.proofs.blocks.copy_all.Given as goal

-- the copies so far have the trees of the expressions so far
abbrev pub invariant-exprs : goal.invariant-exprs
invariant-exprs l = map expression_of l.copies.items ≡ map expression_of (take l.expr-index l.exprs)
