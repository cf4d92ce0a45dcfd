use Rattle.std.proofs.Common.{◌≡◌, drop, map}
use Rattle.seq_tree.specs.Trees.{signature_of}
use Rattle.token_read.specs.Ahead.{ahead}
use Rattle.ada_read.specs.Readers.{renamings_at}
use Rattle.ada_read.proofs.heads.renamings.Given as goal

-- what is left is to be the names of the operations that are left
abbrev pub invariant-sigs : goal.invariant-sigs
invariant-sigs l = renamings_at (map signature_of (drop l.sig-index l.sigs)) (ahead l.rest)
    ≡ renamings_at (map signature_of l.sigs) (ahead l.fn.tokens)
