use Rattle.std.proofs.Common.{sym, map, ◌∙◌}
use Rattle.std.proofs.lemmas.List.{map-append}
use Rattle.grammar.specs.Reading.{pure_at}
use Rattle.ods_tree.specs.Trees.{provided_of}
use Rattle.ods_read.specs.Readers.{next_is_design_name, provided_at}
use Rattle.token_read.specs.Ahead.{ahead}
use Rattle.seq_read.proofs.Shared.Turns.{onward-turn, turn-shorter}
use Rattle.ods_read.proofs.Taking.{takes-provided}
use Rattle.ods_read.proofs.operations.provided_list.Goals as goal

pub provides-smaller : goal.provides-smaller
provides-smaller c =
    turn-shorter provided_at (ahead c.provides.rest) (ahead c.in_ok-next.after) (provided_of c.in_ok-next.next) takes-provided c.in_ok-next.ensures

pub provides-preserved : goal.provides-preserved
provides-preserved c =
    rw (c.in_ok-push-2.ensures.items, map-append)
    (onward-turn (next_is_design_name) provided_at pure_at (map provided_of c.provides.provides.items) (ahead c.provides.rest)
    (provided_of c.in_ok-next.next) (ahead c.in_ok-next.after)
    takes-provided (sym c.provides-test.ensures) c.in_ok-next.ensures
    ∙ c.provides.invariant)
