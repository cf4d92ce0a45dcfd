use Rattle.std.proofs.Common.{◌∙◌, arith, refl, sym, subst}
use Rattle.std.proofs.lemmas.Option.{slice_get_within}
use Rattle.late_response.specs.Progress.{IsLiveIn}
use Rattle.late_response.proofs.Standing.{live-at, lost-up, marked-stand, marked-live, marked-before, closed-at}
use Rattle.late_response.proofs.Progressing.{marked-small, marked-worth, total-rises}
use Rattle.late_response.proofs.behind.close.Goals as goal

pub rows-init : goal.rows-init
rows-init c = record {
  lost = λ k stands i up live.
      (let l = live-at c.args.known.now i live in let within = slice_get_within c.args.known.now i _ l.is in absurd (omega (arith, within, up)));
  count = omega arith;
}

pub rows-preserved : goal.rows-preserved
rows-preserved c = record {
  lost = λ k stands. lost-up c.args.table.now k c.rows.count c.rows.starter c.in-Some.first c.in-Some.lost c.args.known.now stands
      (c.rows.invariant.lost k stands) c.in-Some.ensures.starts c.in-Some.ensures.out;
  count = omega (arith, c.in-Some.ensures.within, c.rows.invariant.count);
}

pub returns-clause-stands : goal.returns-clause-stands
returns-clause-stands c = λ k stands.
    marked-stand c.args.table.now k c.rows.count c.rows.starter c.args.known.now c.mark.new.known (c.in_default.ensures.none refl)
    (c.rows.invariant.lost k stands) (omega arith) c.mark.ensures stands

pub returns-clause-small : goal.returns-clause-small
returns-clause-small c = marked-small c.rows.count c.rows.starter c.args.known.now c.mark.new.known c.requires.small c.mark.ensures

pub returns-clause-closed : goal.returns-clause-closed
returns-clause-closed c =
    closed-at c.args.table.now c.mark.new.known c.rows.count
    (λ i up live. let was = marked-live c.rows.count c.rows.starter i c.args.known.now c.mark.new.known c.mark.ensures live in omega (arith, was.0, up))
    (λ i s less starts.
    let there = c.in_default.ensures.none refl i s less starts in
    subst (λ o. IsLiveIn o) (sym (c.mark.ensures s ∙ marked-before c.rows.count c.rows.starter s c.args.known.now there.1)) there.0)

pub returns-clause-rises : goal.returns-clause-rises
returns-clause-rises c =
    total-rises c.args.known.now c.mark.new.known (omega arith) (λ i x y. marked-worth c.rows.count c.rows.starter i c.args.known.now c.mark.new.known
    x y c.requires.small c.mark.ensures)
