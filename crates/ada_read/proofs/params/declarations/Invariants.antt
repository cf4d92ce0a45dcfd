use Rattle.std.proofs.Common.{◌≡◌, length, map}
use Rattle.seq_tree.specs.Trees.{signature_of}
use Rattle.token_read.specs.Ahead.{ahead}
use Rattle.ada_read.specs.Readers.{declarations_at}
use Rattle.seq_read.proofs.Shared.Turns.{with_front}
use Rattle.ada_read.proofs.params.declarations.Given as goal

-- the declarations so far, and then those of what is left
abbrev pub invariant-sigs : goal.invariant-sigs
invariant-sigs l = with_front (map signature_of l.sigs.items) (declarations_at (ahead l.rest)) ≡ declarations_at (ahead l.fn.tokens)

abbrev pub decreases-sigs : goal.decreases-sigs
decreases-sigs l = length (ahead l.rest)
