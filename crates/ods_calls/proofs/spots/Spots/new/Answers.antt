use Rattle.std.proofs.Common.{◌≡◌, ◌-◌, suc, List, Some, map, length, arith, ap, sym, ◌∙◌, if◌then◌else◌}
use Rattle.std.proofs.lemmas.List.{drop_all}
use Rattle.ods_calls.specs.Spotted.{spot_of}
use Rattle.ods_calls.specs.Starting.{same_spot, spot_from}
use Rattle.ods_calls.specs.declared.spots.Spot as code
use Rattle.ods_calls.proofs.SpotSteps.{none-in, place-before}
use Rattle.ods_calls.proofs.spots.Spots.new.Goals as goal

pub spots-init : goal.spots-init
spots-init c = (
  omega arith,
  λ s. none-in (record { threads = c.new.result; ops = c.new-2.result }) c.new.ensures c.new-2.ensures s
      ∙ sym (ap (λ (all : List code.Spot). spot_from (length c.args.spots.now) (map spot_of all) s)
      (drop_all (length c.args.spots.now) c.args.spots.now (omega arith))),
)

pub spots-preserved : goal.spots-preserved
spots-preserved c =
    let k = c.spots.place - 1 in
    let one = c.index-spots-place.result in
    let next : c.spots.place ≡ suc k = omega (arith, c.spots-test.true) in (
      omega (arith, c.spots.invariant.0),
      λ s. c.in_ok-put.ensures s ∙ ap (λ o. if same_spot (spot_of one) s then Some k else o) (c.spots.invariant.1 s)
          ∙ sym (place-before (λ t. same_spot t s) spot_of c.args.spots.now k c.spots.place one (omega (arith, c.spots.invariant.0, next))
          c.index-spots-place.is next),
    )
