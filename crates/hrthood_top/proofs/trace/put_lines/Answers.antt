use Rattle.std.proofs.Common.{arith, ◌∙◌}
use Rattle.std.proofs.lemmas.Result.{err_from_is_err_and}
use Rattle.ada_tree.specs.Trees.{program_of}
use Rattle.hrthood_top.proofs.Gathering.{none_gathered, line_gathered, line_failed, lines_gathered}
use Rattle.hrthood_top.proofs.trace.put_lines.Goals as goal

pub events-init : goal.events-init
events-init g c = record { later = omega arith; so_far = none_gathered (program_of c.args.program.now) c.args.events.now _ _ }

pub events-preserved : goal.events-preserved
events-preserved g c = record {
  later = omega (arith, c.events.invariant.later, c.put.ensures.cause.later);
  so_far = line_gathered _ c.args.events.now c.events.event-index c.event-item.result _ _ _ _ _ _ _ c.events-test.true c.event-item.is
      (c.bytes.ensures.bytes ∙ c.line.ensures) c.events.invariant.so_far c.in_ok-put.ensures.gathers;
}

pub returns-in_err-put-clause-gathers : goal.returns-in_err-put-clause-gathers
returns-in_err-put-clause-gathers g c =
    let p = err_from_is_err_and c.from_residual.result c.from_residual.ensures.1 in
    rw p.1 (line_failed _ c.args.events.now c.events.event-index c.event-item.result _ _ _ _ _ _ c.events-test.true c.event-item.is
    (c.bytes.ensures.bytes ∙ c.line.ensures) c.events.invariant.so_far c.in_err-put.ensures.gathers)

pub returns-clause-gathers : goal.returns-clause-gathers
returns-clause-gathers g c = lines_gathered _ _ c.events.event-index _ _ _ _ c.events-test.false c.events.invariant.so_far
