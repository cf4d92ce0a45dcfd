use Rattle.std.proofs.Common.{length, ap, ◌∙◌, arith}
use Rattle.std.proofs.lemmas.List.{nil_from_length}
use Rattle.token_read.specs.Behind.{behind, is_whole}
use Rattle.token_read.proofs.Shared.BehindSteps.{behind-nil, length-seen-others, seen-one, whole-nil}
use Rattle.token_read.proofs.tokens_left.count_of_whole.Goals as goal

pub fronts-init : goal.fronts-init
fronts-init c =
    let space = c.behind_space-left.ensures in
    record {
      few = omega (arith, space.less);
      whole = space.whole;
      counts = λ w. omega (arith, ap length (space.behind (space.whole ∙ w)));
    }

pub fronts-preserved : goal.fronts-preserved
fronts-preserved c =
    let t = c.in_ok-token.token in
    let after = c.in_ok-token.after.now in
    let space = c.behind_space-left-in-Some.ensures in
    record {
      few = omega (arith, seen-one t, c.more-count.ensures, c.in_ok-token.ensures.less, space.less, c.fronts.invariant.few);
      whole = c.fronts.invariant.whole ∙ c.in_ok-token.ensures.whole ∙ space.whole;
      counts = λ w.
          let behind_it = space.whole ∙ w in
          let here = c.in_ok-token.ensures.whole ∙ behind_it in
          omega (
            arith,
            c.fronts.invariant.counts here,
            ap length (c.in_ok-token.ensures.behind here),
            length-seen-others t (behind after),
            ap length (space.behind behind_it),
            c.more-count.ensures,
          );
    }

pub returns-clause-counts : goal.returns-clause-counts
returns-clause-counts c =
    let none = nil_from_length c.fronts.left.now c.in_default.ensures.cases in
    let whole = ap is_whole none ∙ whole-nil in
    omega (arith, c.fronts.invariant.counts whole, ap (λ l. length (behind l)) none, ap length behind-nil)

pub returns-clause-whole : goal.returns-clause-whole
returns-clause-whole c =
    c.fronts.invariant.whole ∙ ap is_whole (nil_from_length c.fronts.left.now c.in_default.ensures.cases) ∙ whole-nil
