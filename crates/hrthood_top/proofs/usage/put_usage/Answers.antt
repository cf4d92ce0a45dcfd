use Rattle.std.proofs.Common.{[], ap, arith, codes, map}
use Rattle.std.proofs.lemmas.Result.{err_from_is_err_and}
use Rattle.hood_io.proofs.Shared.Appending.{appends-none}
use Rattle.hrthood_words.specs.Views.{listed}
use Rattle.hrthood_words.specs.Words.{usage_of}
use Rattle.hrthood_top.proofs.Pieces.{last-put}
use Rattle.hrthood_top.proofs.Usages.{left_of, one-verb, part-of-verb, all-verbs}
use Rattle.hrthood_top.proofs.usage.put_usage.Goals as goal

pub words-init : goal.words-init
words-init g c = record {
  later = omega arith;
  written = record {
    front = [];
    before = appends-none _;
    whole = ap (λ z. left_of z c.args.words.now 0) c.as_slice-before.ensures;
  };
}

pub words-preserved : goal.words-preserved
words-preserved g c = record {
  later = omega (arith, c.words.invariant.later, c.put_verb.ensures.cause.later);
  written = rw c.as_slice-before-in-words.ensures (one-verb _ _ _ _ (usage_of (map listed c.args.words.now)) c.args.words.now c.words.word-index
      _ c.words-test.true c.words.invariant.written c.in_ok-put_verb.ensures.puts);
}

pub returns-in_err-put_verb-clause-puts : goal.returns-in_err-put_verb-clause-puts
returns-in_err-put_verb-clause-puts g c =
    let p = err_from_is_err_and c.from_residual.result c.from_residual.ensures.1 in
    rw p.1 (part-of-verb _ _ _ _ (usage_of (map listed c.args.words.now)) c.args.words.now c.words.word-index _ c.words-test.true
    c.words.invariant.written c.in_err-put_verb.ensures.puts)

pub returns-clause-puts : goal.returns-clause-puts
returns-clause-puts g c =
    last-put _ _ _ (codes "\n") (usage_of (map listed c.args.words.now)) c.put_all.result
    (all-verbs _ _ _ (usage_of (map listed c.args.words.now)) c.args.words.now c.words.word-index c.words-test.false c.words.invariant.written)
    c.put_all.ensures.puts
