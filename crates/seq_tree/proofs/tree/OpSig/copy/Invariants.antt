use Rattle.std.proofs.Common.{◌≡◌, take}
use Rattle.seq_tree.proofs.tree.OpSig.copy.Given as goal

-- the parameters so far are those of the head
abbrev pub invariant-params : goal.invariant-params
invariant-params l = l.params.items ≡ take l.param-index l.param-items
