use Rattle.std.proofs.Common.{◌≡◌, ◌+◌, Some, map, drop, option_map, ap, sym, ◌∙◌}
use Rattle.ada_tree.specs.Trees.{program_of, unit_of}
use Rattle.arrivals_tree.specs.Acceptance.{durations_fault}
use Rattle.arrivals_tree.specs.ArrivalTexts.{work_of}
use Rattle.arrivals_tree.specs.FirstWrong.{work_fault, wrong_work}
use Rattle.arrivals_read.specs.Checked.{fault_named}
use Rattle.arrivals_read.specs.Texts.{work_text}
use Rattle.arrivals_read.proofs.ItemSteps.{item-next, work-wrong}
use Rattle.arrivals_read.proofs.items.works.Goals as goal

pub returns-in-Some : goal.returns-in-Some
returns-in-Some c =
    let p = program_of c.args.units.now.program.now in
    let w = work_text c.item-item.result in
    let list = c.in_ok-list.list in
    let wrong : work_fault p (work_of p w) ≡ Some (fault_named c.in-Some.cause) =
    ap (work_fault p) (sym c.in_ok-list.ensures) ∙ ap (λ o. durations_fault o list.ticks.items) (sym c.unit.ensures)
    ∙ ap (durations_fault (option_map (λ u. unit_of u.now) c.unit.result)) (sym c.deref.ensures.value) ∙ sym c.in-Some.ensures in
    sym c.works.invariant.0
    ∙ ap (wrong_work p c.works.before) (item-next work_text c.args.items.now c.works.item-index c.item-item.result c.works-test.true c.item-item.is)
    ∙ work-wrong p w (map work_text (drop (c.works.item-index + 1) c.args.items.now)) c.works.before (fault_named c.in-Some.cause) wrong
