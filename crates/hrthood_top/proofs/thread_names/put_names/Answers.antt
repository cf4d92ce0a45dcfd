use Rattle.std.proofs.Common.{[], refl, ◌∙◌, arith}
use Rattle.std.proofs.lemmas.Result.{err_from_is_err_and}
use Rattle.hood_io.proofs.Shared.Appending.{appends-none}
use Rattle.hrthood_top.proofs.SearchSteps.{one-name, part-of-name, all-names}
use Rattle.hrthood_top.proofs.thread_names.put_names.Goals as goal

pub names-init : goal.names-init
names-init g c = record { later = omega arith; written = record { front = []; before = appends-none _; whole = refl } }

pub names-preserved : goal.names-preserved
names-preserved g c = record {
  later = omega (arith, c.names.invariant.later, c.put_between.ensures.cause.later);
  written = one-name _ _ _ c.args.names.now c.names.name-index _ c.bytes.result.now c.names-test.true (c.bytes.ensures.bytes ∙ c.name-item.is) c.names.invariant.written c.in_ok-put_between.ensures.puts;
}

pub returns-in_err-put_between-clause-puts : goal.returns-in_err-put_between-clause-puts
returns-in_err-put_between-clause-puts g c =
    let p = err_from_is_err_and c.from_residual.result c.from_residual.ensures.1 in
    rw p.1 (part-of-name _ _ _ c.args.names.now c.names.name-index _ c.bytes.result.now c.names-test.true (c.bytes.ensures.bytes ∙ c.name-item.is) c.names.invariant.written c.in_err-put_between.ensures.puts)

pub returns-clause-puts : goal.returns-clause-puts
returns-clause-puts g c = all-names _ _ c.args.names.now c.names.name-index c.names-test.false c.names.invariant.written
