use Rattle.std.proofs.Common.{◌≡◌, take}
use Rattle.seq_tree.proofs.tree.OpText.copy.Given as goal

-- the locals so far are those of the operation
abbrev pub invariant-locals : goal.invariant-locals
invariant-locals l = l.locals.items ≡ take l.local-index l.local-items
