use Rattle.std.proofs.Common.{◌+◌, List, arith, sym, subst, ◌∙◌}
use Rattle.rt_response.specs.declared.rows.Bound.{Bound}
use Rattle.rt_response.specs.Response.{IsLeastVector}
use Rattle.rt_response.proofs.Shared.Least.{miss-none_fits}
use Rattle.rt_response.proofs.Shared.Solving.{reached-first, reached-few, reached-next, reached-least, reached-miss, bounds_eq-Decides}
use Rattle.rt_response.proofs.Shared.Solving.{bounds_differ}
use Rattle.rt_response.proofs.rounds.settle.Goals as goal

pub rounds-init : goal.rounds-init
rounds-init c = record {
  reached = reached-first c.args.table.now c.args.bounds.now c.requires.zeros;
  long = c.requires.long;
  follows = λ e. absurd (cc e);
}

pub returns-in-Err-clause-miss : goal.returns-in-Err-clause-miss
returns-in-Err-clause-miss c =
    rw c.in_round.ensures (
      reached-miss c.args.table.now c.rounds.round c.rounds.bounds c.in-Err.excess c.requires.table c.rounds.invariant.reached
          c.in-Err.ensures.over,
      c.rounds.invariant.reached.is,
    )

pub overflow_add-round : goal.overflow_add-round
overflow_add-round c = omega (
  arith,
  reached-few c.args.table.now c.rounds.round c.rounds.bounds c.requires.table
      c.rounds.invariant.reached,
  c.rounds.invariant.reached.count,
)

pub returns-in-Err-clause-none : goal.returns-in-Err-clause-none
returns-in-Err-clause-none c = λ v fits.
    miss-none_fits c.args.table.now _ v (reached-miss c.args.table.now c.rounds.round c.rounds.bounds c.in-Err.excess c.requires.table
    c.rounds.invariant.reached c.in-Err.ensures.over) fits

pub returns-then-eq-clause-least : goal.returns-then-eq-clause-least
returns-then-eq-clause-least c =
    reached-least c.args.table.now c.rounds.round c.rounds.bounds c.next_round.new.into c.requires.table c.rounds.invariant.reached
    c.in_default.ensures.found.0
    ((bounds_eq-Decides c.next_round.new.into c.rounds.bounds _ c.eq.ensures).0 c.if-eq.true)

pub next_round-requires-clause-follows : goal.next_round-requires-clause-follows
next_round-requires-clause-follows c = c.rounds.invariant.follows

pub next_round-requires-in-rounds-clause-within : goal.next_round-requires-in-rounds-clause-within
next_round-requires-in-rounds-clause-within c =
    let first = reached-next c.args.table.now c.rounds.round c.rounds.bounds c.next_round.new.into c.requires.table c.rounds.invariant.reached
    c.in_default.ensures.found.0 c.in_default.ensures.found.1
    (bounds_differ c.next_round.new.into c.rounds.bounds _ c.eq.ensures c.if-eq.false) in
    first.0.within

pub returns-in-Err-next_round-clause-miss : goal.returns-in-Err-next_round-clause-miss
returns-in-Err-next_round-clause-miss c =
    let first = reached-next c.args.table.now c.rounds.round c.rounds.bounds c.next_round.new.into c.requires.table c.rounds.invariant.reached
    c.in_default.ensures.found.0 c.in_default.ensures.found.1
    (bounds_differ c.next_round.new.into c.rounds.bounds _ c.eq.ensures c.if-eq.false) in
    rw c.in_round-in-Err-next_round.ensures (
      reached-miss c.args.table.now (c.rounds.round + 1) c.next_round.new.into c.in-Err-next_round.excess c.requires.table first.0
          c.in-Err-next_round.ensures.over,
      c.copy_from_slice.ensures.after ∙ first.0.is,
    )

pub returns-in-Err-next_round-clause-none : goal.returns-in-Err-next_round-clause-none
returns-in-Err-next_round-clause-none c = λ v fits.
    let first = reached-next c.args.table.now c.rounds.round c.rounds.bounds c.next_round.new.into c.requires.table c.rounds.invariant.reached
    c.in_default.ensures.found.0 c.in_default.ensures.found.1
    (bounds_differ c.next_round.new.into c.rounds.bounds _ c.eq.ensures c.if-eq.false) in
    miss-none_fits c.args.table.now _ v (reached-miss c.args.table.now (c.rounds.round + 1) c.next_round.new.into c.in-Err-next_round.excess
    c.requires.table first.0 c.in-Err-next_round.ensures.over) fits

pub returns-then-eq-2-clause-least : goal.returns-then-eq-2-clause-least
returns-then-eq-2-clause-least c =
    let first = reached-next c.args.table.now c.rounds.round c.rounds.bounds c.next_round.new.into c.requires.table c.rounds.invariant.reached
    c.in_default.ensures.found.0 c.in_default.ensures.found.1
    (bounds_differ c.next_round.new.into c.rounds.bounds _ c.eq.ensures c.if-eq.false) in
    let same = (bounds_eq-Decides c.next_round-in-rounds.new.into c.next_round.new.into _ c.eq-in-rounds.ensures).0 c.if-eq-2.true in
    let P : List Bound → Type 0 = λ v. IsLeastVector c.args.table.now v in
    subst P (sym same) (reached-least c.args.table.now (c.rounds.round + 1) c.next_round.new.into c.next_round-in-rounds.new.into
    c.requires.table first.0 c.in_default-next_round.ensures.found.0 same)

pub overflow_add-round-in-rounds : goal.overflow_add-round-in-rounds
overflow_add-round-in-rounds c =
    let first = reached-next c.args.table.now c.rounds.round c.rounds.bounds c.next_round.new.into c.requires.table c.rounds.invariant.reached
    c.in_default.ensures.found.0 c.in_default.ensures.found.1
    (bounds_differ c.next_round.new.into c.rounds.bounds _ c.eq.ensures c.if-eq.false) in
    omega (arith, reached-few c.args.table.now (c.rounds.round + 1) c.next_round.new.into c.requires.table first.0, first.0.count)

pub rounds-smaller : goal.rounds-smaller
rounds-smaller c =
    let first = reached-next c.args.table.now c.rounds.round c.rounds.bounds c.next_round.new.into c.requires.table c.rounds.invariant.reached
    c.in_default.ensures.found.0 c.in_default.ensures.found.1
    (bounds_differ c.next_round.new.into c.rounds.bounds _ c.eq.ensures c.if-eq.false) in
    let second = reached-next c.args.table.now (c.rounds.round + 1) c.next_round.new.into c.next_round-in-rounds.new.into c.requires.table first.0
    c.in_default-next_round.ensures.found.0 c.in_default-next_round.ensures.found.1
    (bounds_differ c.next_round-in-rounds.new.into c.next_round.new.into _ c.eq-in-rounds.ensures c.if-eq-2.false) in
    let few = reached-few c.args.table.now (c.rounds.round + 1 + 1) c.next_round-in-rounds.new.into c.requires.table second.0 in
    omega (arith, first.1, second.1, few)

pub rounds-preserved : goal.rounds-preserved
rounds-preserved c =
    let first = reached-next c.args.table.now c.rounds.round c.rounds.bounds c.next_round.new.into c.requires.table c.rounds.invariant.reached
    c.in_default.ensures.found.0 c.in_default.ensures.found.1
    (bounds_differ c.next_round.new.into c.rounds.bounds _ c.eq.ensures c.if-eq.false) in
    let second = reached-next c.args.table.now (c.rounds.round + 1) c.next_round.new.into c.next_round-in-rounds.new.into c.requires.table first.0
    c.in_default-next_round.ensures.found.0 c.in_default-next_round.ensures.found.1
    (bounds_differ c.next_round-in-rounds.new.into c.next_round.new.into _ c.eq-in-rounds.ensures c.if-eq-2.false) in
    record { reached = second.0; long = omega arith; follows = λ e. c.in_default-next_round.ensures.found.0 }
