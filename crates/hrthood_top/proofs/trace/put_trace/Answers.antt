use Rattle.std.proofs.Common.{arith, refl, ◌∙◌}
use Rattle.std.proofs.lemmas.Result.{err_from_is_err_and}
use Rattle.ada_tree.specs.Trees.{program_of}
use Rattle.hrthood_top.proofs.Gathering.{cause-later}
use Rattle.hrthood_top.proofs.Tracing.{none_told, one_turn, turn_failed, all_told, goes_on, ends-out, ends-stopped, stop-placed}
use Rattle.hrthood_top.proofs.trace.put_trace.Goals as goal

pub turns-init : goal.turns-init
turns-init g c = record {
  later = omega arith;
  running = c.requires.goes_on;
  whole = c.requires.whole;
  system = refl;
  empty = c.new-events.ensures;
  so_far = none_told _ _ _ _ c.new-page.ensures;
}

pub put_lines-requires : goal.put_lines-requires
put_lines-requires g c =
    rw c.events.ensures (c.advance-turn.ensures.placed _ c.requires.runs.0 (c.turns.invariant.system ∙ c.requires.runs.1))

pub turns-preserved : goal.turns-preserved
turns-preserved g c = record {
  later = omega (arith, c.turns.invariant.later, c.put_lines.ensures.cause.later);
  running = c.in-More.ensures.turned.2;
  whole = c.in-More.ensures.whole c.in-More.ensures.turned.2;
  system = c.in-More.ensures.system ∙ c.turns.invariant.system;
  empty = c.clear.ensures;
  so_far = one_turn _ _ _ _ _ _ _ _ _ _ c.turns.invariant.so_far (rw c.events.ensures at c.in_ok-put_lines.ensures.gathers) c.in-More.ensures.turned.1
      c.in-More.ensures.rest;
}

pub returns-in_err-put_lines-clause-puts : goal.returns-in_err-put_lines-clause-puts
returns-in_err-put_lines-clause-puts g c =
    let p = err_from_is_err_and c.from_residual.result c.from_residual.ensures.1 in
    let rest = goes_on (program_of c.args.program.now) c.requires.runs.0 c.advance-turn.new.self c.requires.meets
    (c.advance-turn.ensures.system ∙ c.turns.invariant.system ∙ c.requires.runs.1) c.advance-turn.ensures.whole in
    rw p.1 (turn_failed _ _ _ _ _ _ _ _ _ c.turns.invariant.so_far (rw c.events.ensures at c.in_err-put_lines.ensures.gathers)
    c.advance-turn.ensures.rest rest)

pub returns-in-Horizon-clause-cause : goal.returns-in-Horizon-clause-cause
returns-in-Horizon-clause-cause g c =
    cause-later _ _ _ _ (omega (arith, c.turns.invariant.later, c.put_lines.ensures.cause.later)) c.close.ensures.cause

pub returns-in-Horizon-clause-puts : goal.returns-in-Horizon-clause-puts
returns-in-Horizon-clause-puts g c =
    all_told (program_of c.args.program.now) _ _ _ _ _ _ _ _ _ _ _ _ c.turns.invariant.so_far
    (rw c.events.ensures at c.in_ok-put_lines.ensures.gathers)
    (ends-out (program_of c.args.program.now) _ _ c.in-Horizon.ensures.turned.0) c.in-Horizon.ensures.turned.1 c.in-Horizon.ensures.rest
    c.close.ensures.closes

pub violation_at-at-requires-clause-task : goal.violation_at-at-requires-clause-task
violation_at-at-requires-clause-task g c =
    (stop-placed (program_of c.args.program.now) _ _ _ _ _ _ c.in-CeilingViolation.ensures.turned.0
    (c.advance-turn.ensures.placed _ c.requires.runs.0 (c.turns.invariant.system ∙ c.requires.runs.1))).0

pub violation_at-at-requires-clause-object : goal.violation_at-at-requires-clause-object
violation_at-at-requires-clause-object g c =
    (stop-placed (program_of c.args.program.now) _ _ _ _ _ _ c.in-CeilingViolation.ensures.turned.0
    (c.advance-turn.ensures.placed _ c.requires.runs.0 (c.turns.invariant.system ∙ c.requires.runs.1))).1

pub returns-in-CeilingViolation-clause-cause : goal.returns-in-CeilingViolation-clause-cause
returns-in-CeilingViolation-clause-cause g c =
    cause-later _ _ _ _ (omega (arith, c.turns.invariant.later, c.put_lines.ensures.cause.later)) c.close-in-CeilingViolation.ensures.cause

pub returns-in-CeilingViolation-clause-puts : goal.returns-in-CeilingViolation-clause-puts
returns-in-CeilingViolation-clause-puts g c =
    all_told (program_of c.args.program.now) _ _ _ _ _ _ _ _ _ _ _ _ c.turns.invariant.so_far
    (rw c.events.ensures at c.in_ok-put_lines.ensures.gathers)
    (ends-stopped (program_of c.args.program.now) _ _ _ _ _ c.violation_at-at.result _ c.in-CeilingViolation.ensures.turned.0
    c.violation_at-at.ensures)
    c.in-CeilingViolation.ensures.turned.1 c.in-CeilingViolation.ensures.rest c.close-in-CeilingViolation.ensures.closes
