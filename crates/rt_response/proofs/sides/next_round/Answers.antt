use Rattle.std.proofs.Common.{◌≡◌, length, arith, ap, ◌∙◌, refl, sym}
use Rattle.std.proofs.lemmas.Slice.Zip.{AllZip-long}
use Rattle.rt_response.specs.Response.{right_sides}
use Rattle.rt_response.specs.Rounds.{first_excess}
use Rattle.rt_response.proofs.Shared.Places.{right_sides-long, store-next, store-all, excess_from-end}
use Rattle.rt_response.proofs.Kept.{row-kept, steady-first, steady-next, same-left, left-next}
use Rattle.rt_response.proofs.sides.next_round.Goals as goal

pub bounds-from-index : goal.bounds-from-index
bounds-from-index c = omega (arith, AllZip-long _ c.args.table.now c.args.from.now c.requires.within)

pub rows-init : goal.rows-init
rows-init c = record {
  stored = refl;
  before = refl;
  steady = λ h. (c.requires.follows (steady-first c.args.first h), λ j less. absurd (omega (arith, less)));
  none = refl;
}

pub side-requires-clause-kept : goal.side-requires-clause-kept
side-requires-clause-kept c = λ keeps.
    let both = c.is_steady-keeps.ensures.0 keeps in
    let steady = c.rows.invariant.steady both.0 in
    row-kept c.args.table.now c.args.into.now c.args.from.now c.rows.index c.requires.long
    (AllZip-long _ c.args.table.now c.args.from.now c.requires.within) c.rows-test.true steady.0 steady.1
    (ap (λ b. b.response) (sym (same-left c.rows.into c.args.into.now c.rows.index c.rows.invariant.before)) ∙ both.1)

pub rows-preserved : goal.rows-preserved
rows-preserved c = record {
  stored = store-next c.rows.into (right_sides c.args.table.now c.args.from.now) c.rows.index c.in_ok-into.field-0 (omega arith)
      c.rows.invariant.stored c.in_ok-into.ensures.within.0;
  before = left-next c.rows.into c.args.into.now c.rows.index c.in_ok-into.field-0 c.rows.invariant.before;
  steady = λ h. (let both = c.is_steady-steady.ensures.0 h in
      let steady = c.rows.invariant.steady both.0 in
      (steady.0, steady-next c.rows.into c.args.into.now c.args.from.now c.rows.index c.rows.invariant.before steady.1 both.1));
  none = c.rows.invariant.none ∙ c.in_ok-into.ensures.within.1;
}

pub returns-clause-found : goal.returns-clause-found
returns-clause-found c =
    let sides = right_sides c.args.table.now c.args.from.now in
    let long : length sides ≡ length c.args.table.now
    = right_sides-long c.args.table.now c.args.from.now (AllZip-long _ c.args.table.now c.args.from.now c.requires.within) in
    let at_end : length c.args.table.now ≡ c.rows.index = omega arith in
    let same = store-all c.rows.into sides c.rows.index (omega arith) (omega arith) c.rows.invariant.stored in (
      same,
      ap (λ v. first_excess 0 c.args.table.now
          v) same ∙ c.rows.invariant.none ∙ excess_from-end c.args.table.now c.args.from.now c.rows.index at_end,
    )
