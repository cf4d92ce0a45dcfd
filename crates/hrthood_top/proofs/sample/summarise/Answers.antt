use Rattle.std.proofs.Common.{◌∙◌, length}
use Rattle.ada_tree.specs.Trees.{program_of}
use Rattle.hrthood_top.proofs.Summed.{all-counted, each-below, one-counted}
use Rattle.hrthood_top.proofs.sample.summarise.Goals as goal

pub note_events-requires : goal.note_events-requires
note_events-requires c = (
  length (program_of c.args.program.now).units,
  c.turns.invariant.so_far.told,
  c.turns.invariant.so_far.is,
  rw c.events.ensures (each-below (program_of c.args.program.now) _
      (c.advance-turn.ensures.placed _ c.requires.runs.0 (c.turns.invariant.system ∙ c.requires.runs.1))),
)

pub turns-preserved : goal.turns-preserved
turns-preserved c = record {
  running = c.in-More.ensures.turned.2;
  whole = c.in-More.ensures.whole c.in-More.ensures.turned.2;
  system = c.in-More.ensures.system ∙ c.turns.invariant.system;
  empty = c.clear.ensures;
  so_far = one-counted _ _ _ _ _ _ _ c.turns.invariant.so_far (rw c.events.ensures at c.note_events.ensures) c.in-More.ensures.rest;
}

pub returns-in-Horizon : goal.returns-in-Horizon
returns-in-Horizon c =
    all-counted _ _ _ _ (one-counted _ _ _ _ _ _ _ c.turns.invariant.so_far (rw c.events.ensures at c.note_events.ensures) c.in-Horizon.ensures.rest)
    c.in-Horizon.ensures.turned.1

pub returns-in-CeilingViolation : goal.returns-in-CeilingViolation
returns-in-CeilingViolation c =
    all-counted _ _ _ _ (one-counted _ _ _ _ _ _ _ c.turns.invariant.so_far (rw c.events.ensures at c.note_events.ensures)
    c.in-CeilingViolation.ensures.rest) c.in-CeilingViolation.ensures.turned.1
