use Rattle.std.proofs.Common.{[], refl, arith}
use Rattle.std.proofs.lemmas.Result.{err_from_is_err_and}
use Rattle.hood_io.proofs.Shared.Appending.{appends-none}
use Rattle.hrthood_top.proofs.Pieces.{one_more, part_of_all, all_written}
use Rattle.hrthood_top.proofs.line.put_each.Goals as goal

pub pieces-init : goal.pieces-init
pieces-init g c = record { later = omega arith; written = record { front = []; before = appends-none _; whole = refl } }

pub pieces-preserved : goal.pieces-preserved
pieces-preserved g c = record {
  later = omega (arith, c.pieces.invariant.later, c.put_all.ensures.cause.later);
  written = one_more _ _ _ c.args.pieces.now c.pieces.piece-index _ c.pieces-test.true c.pieces.invariant.written c.in_ok-put_all.ensures.puts;
}

pub returns-in_err-put_all-clause-puts : goal.returns-in_err-put_all-clause-puts
returns-in_err-put_all-clause-puts g c =
    let p = err_from_is_err_and c.from_residual.result c.from_residual.ensures.1 in
    rw p.1 (part_of_all _ _ _ c.args.pieces.now c.pieces.piece-index _ c.pieces-test.true c.pieces.invariant.written c.in_err-put_all.ensures.puts)

pub returns-clause-puts : goal.returns-clause-puts
returns-clause-puts g c = all_written _ _ c.args.pieces.now c.pieces.piece-index c.pieces-test.false c.pieces.invariant.written
