use Rattle.std.proofs.Common.{arith}
use Rattle.std.proofs.lemmas.Result.{err_from_is_err_and}
use Rattle.hrthood_top.specs.Fetches.{texts_of}
use Rattle.hrthood_top.proofs.Fetching.{none-so-far, one-more, stops-here, all-there}
use Rattle.hrthood_top.proofs.fetch.fetch_files.Goals as goal

pub files-init : goal.files-init
files-init g c = record { later = omega arith; so_far = none-so-far _ _ _ }

pub files-preserved : goal.files-preserved
files-preserved g c = record {
  later = omega (arith, c.files.invariant.later, c.in_ok-text.ensures.later);
  so_far = one-more c.args.files.now c.files.file-index _ _ _ c.in_ok-text.text _ _ _ 0 0 c.files-test.true c.requires c.files.invariant.so_far
      c.in_ok-text.ensures.fetches c.put.ensures.taken c.put.ensures.others;
}

pub returns-in_err-text : goal.returns-in_err-text
returns-in_err-text g c =
    let p = err_from_is_err_and c.from_residual.result c.from_residual.ensures.1 in
    rw (p.1, p.2) (stops-here texts_of _ c.args.files.now c.files.file-index _ _ _ _ _ _ _ _ c.files-test.true c.files.invariant.so_far
    c.files.invariant.later c.in_err-text.ensures.fetches)

pub returns : goal.returns
returns g c = all-there texts_of c.files.texts c.args.files.now c.files.file-index _ _ 0 0 c.files-test.false c.files.invariant.so_far
