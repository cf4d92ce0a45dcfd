use Rattle.std.proofs.Common.{◌≡◌, map}
use Rattle.std.specs.Vec.Iter.{into_iter_items}
use Rattle.seq_tree.specs.Trees.{operation_of, signature_of}
use Rattle.token_read.specs.Ahead.{ahead}
use Rattle.ada_read.specs.Readers.{ada_block_at, operations_at}
use Rattle.seq_read.proofs.Shared.Turns.{with_front}
use Rattle.ada_read.proofs.bodies.operations.Given as goal

-- the operations so far, and then those of the heads that are left
abbrev pub invariant-sigs : goal.invariant-sigs
invariant-sigs l = with_front (map operation_of l.ops.items) (operations_at ada_block_at (map signature_of (into_iter_items l.sig-iterator))
    (ahead l.rest))
    ≡ operations_at ada_block_at (map signature_of l.fn.sigs.items) (ahead l.fn.tokens)
