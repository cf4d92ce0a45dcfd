use Rattle.std.proofs.Common.{◌≡◌, map}
use Rattle.std.specs.Vec.Iter.{into_iter_items}
use Rattle.ada_tree.specs.Trees.{unit_of}
use Rattle.token_read.specs.Ahead.{ahead}
use Rattle.ada_read.specs.Heads.{head_of}
use Rattle.ada_read.specs.Readers.{ada_block_at, bodies_at}
use Rattle.seq_read.proofs.Shared.Turns.{with_front}
use Rattle.ada_read.proofs.bodies.bodies.Given as goal

-- the units so far, and then those of the specifications that are left
abbrev pub invariant-heads : goal.invariant-heads
invariant-heads l = with_front (map unit_of l.units.items) (bodies_at ada_block_at (map head_of (into_iter_items l.head-iterator)) (ahead l.rest))
    ≡ bodies_at ada_block_at (map head_of l.fn.heads.items) (ahead l.fn.tokens)
