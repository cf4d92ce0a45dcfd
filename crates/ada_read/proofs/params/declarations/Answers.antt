use Rattle.std.proofs.Common.{sym, map, ◌∙◌, arith}
use Rattle.std.proofs.lemmas.List.{map-append}
use Rattle.seq_tree.specs.Trees.{signature_of}
use Rattle.token_read.specs.Ahead.{ahead}
use Rattle.ada_read.proofs.Repeats.{declaration-shorter, declaration-turn}
use Rattle.ada_read.proofs.params.declarations.Goals as goal

pub sigs-smaller : goal.sigs-smaller
sigs-smaller c =
    omega (arith, declaration-shorter (ahead c.sigs.rest) (signature_of c.in_ok-next.next) (ahead c.in_ok-next.after) c.in_ok-next.ensures)

pub sigs-preserved : goal.sigs-preserved
sigs-preserved c =
    rw (c.in_ok-push.ensures.items, map-append)
    (declaration-turn (map signature_of c.sigs.sigs.items) (ahead c.sigs.rest) (signature_of c.in_ok-next.next) (ahead c.in_ok-next.after)
    (sym c.sigs-test.ensures) c.in_ok-next.ensures ∙ c.sigs.invariant)
