use Rattle.std.proofs.Common.{sym, map, codes, ◌∙◌}
use Rattle.std.proofs.lemmas.List.{map-append}
use Rattle.grammar.specs.Reading.{pure_at}
use Rattle.seq_tree.specs.declared.token.Token.TheVariants.{Word}
use Rattle.ods_tree.specs.Trees.{body_of}
use Rattle.ods_tree.specs.Words.{is_design_name}
use Rattle.token_read.specs.Readers.{next_is}
use Rattle.seq_read.specs.Statements.{block_at}
use Rattle.ods_read.specs.Readers.{body_at}
use Rattle.token_read.specs.Ahead.{ahead}
use Rattle.seq_read.proofs.Shared.Turns.{onward-turn, turn-shorter}
use Rattle.ods_read.proofs.Taking.{takes-operation}
use Rattle.ods_read.proofs.bodies.bodies.Goals as goal

pub bodies-smaller : goal.bodies-smaller
bodies-smaller c =
    turn-shorter (body_at (block_at is_design_name 32 c.args.deeper)) (ahead c.bodies.rest) (ahead c.in_ok-next.after) (body_of c.in_ok-next.next)
    (takes-operation c.args.deeper) c.in_ok-next.ensures

pub bodies-preserved : goal.bodies-preserved
bodies-preserved c =
    rw (c.in_ok-push.ensures.items, map-append)
    (onward-turn (next_is (Word (codes "operation"))) (body_at (block_at is_design_name 32 c.args.deeper)) pure_at (map body_of c.bodies.bodies.items)
    (ahead c.bodies.rest) (body_of c.in_ok-next.next) (ahead c.in_ok-next.after)
    (takes-operation c.args.deeper) (sym c.bodies-test.ensures) c.in_ok-next.ensures
    ∙ c.bodies.invariant)
