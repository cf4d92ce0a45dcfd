use Rattle.std.proofs.Common.{rules, ◌≡◌, ◌∙◌, Err}
use Rattle.std.proofs.lemmas.List.{length-map}
use Rattle.ods_tree.specs.Trees.{design_of, flat_of, thread_of}
use Rattle.ods_rules.specs.Checks.{checked_design}
use Rattle.analysis.specs.Trees.{ranks_of}
use Rattle.design_bounds.proofs.Shared.TablePlaces.{ranks-long}
use Rattle.design_bounds.proofs.Shared.CheckedDesigns.{sound-of, small-of, some-of}
use Rattle.background.proofs.MadeFronts.{room-of, front-of, made-of, told-of}
use Rattle.background.proofs.making.make.Goals as goal

pub order-requires : goal.order-requires
order-requires c =
    sound-of (checked_design c.args.checked.now) (design_of c.design.result.now) c.design.ensures.same c.design.ensures.ticked
    c.first_priority-first.result c.first_priority-first.ensures (flat_of c.in_ok-flat.flat) c.in_ok-flat.ensures

pub blocking-requires-clause-sound : goal.blocking-requires-clause-sound
blocking-requires-clause-sound c =
    sound-of (checked_design c.args.checked.now) (design_of c.design.result.now) c.design.ensures.same c.design.ensures.ticked
    c.first_priority-first.result c.first_priority-first.ensures (flat_of c.in_ok-flat.flat) c.in_ok-flat.ensures

pub blocking-requires-clause-threads : goal.blocking-requires-clause-threads
blocking-requires-clause-threads c =
    ranks-long (flat_of c.in_ok-flat.flat) (ranks_of c.in_ok-order.order) c.in_ok-order.ensures
    ∙ length-map c.in_ok-flat.flat.threads.items thread_of

pub clients_are_calm-requires-clause-sound : goal.clients_are_calm-requires-clause-sound
clients_are_calm-requires-clause-sound c =
    sound-of (checked_design c.args.checked.now) (design_of c.design.result.now) c.design.ensures.same c.design.ensures.ticked
    c.first_priority-first.result c.first_priority-first.ensures (flat_of c.in_ok-flat.flat) c.in_ok-flat.ensures

pub make_calm-requires-clause-sound : goal.make_calm-requires-clause-sound
make_calm-requires-clause-sound c =
    sound-of (checked_design c.args.checked.now) (design_of c.design.result.now) c.design.ensures.same c.design.ensures.ticked
    c.first_priority-first.result c.first_priority-first.ensures (flat_of c.in_ok-flat.flat) c.in_ok-flat.ensures

pub make_calm-requires-clause-front : goal.make_calm-requires-clause-front
make_calm-requires-clause-front c =
    front-of (checked_design c.args.checked.now) (design_of c.design.result.now) c.design.ensures.same c.design.ensures.ticked
    c.first_priority-first.result c.first_priority-first.ensures (flat_of c.in_ok-flat.flat) c.in_ok-flat.ensures
    c.requires c.in_ok-clients_are_calm.ensures

pub make_calm-requires-clause-some : goal.make_calm-requires-clause-some
make_calm-requires-clause-some c =
    some-of (checked_design c.args.checked.now) (design_of c.design.result.now) c.design.ensures.same c.design.ensures.ticked
    c.first_priority-first.result c.first_priority-first.ensures (flat_of c.in_ok-flat.flat) c.in_ok-flat.ensures

pub make_calm-requires-clause-first : goal.make_calm-requires-clause-first
make_calm-requires-clause-first c =
    small-of (checked_design c.args.checked.now) (design_of c.design.result.now) c.design.ensures.same c.design.ensures.ticked
    c.first_priority-first.result c.first_priority-first.ensures (flat_of c.in_ok-flat.flat) c.in_ok-flat.ensures

pub make_calm-requires-clause-room : goal.make_calm-requires-clause-room
make_calm-requires-clause-room c =
    room-of (checked_design c.args.checked.now) (design_of c.design.result.now) c.design.ensures.same c.design.ensures.ticked
    c.first_priority-first.result c.first_priority-first.ensures (flat_of c.in_ok-flat.flat) c.in_ok-flat.ensures

pub returns-in_err-clients_are_calm : goal.returns-in_err-clients_are_calm
returns-in_err-clients_are_calm c =
    let e = c.in_err-clients_are_calm.field-0.0 in
    let result : c.from_residual-in_err-clients_are_calm.result ≡ Err e = search rules in
    rw result (told-of (checked_design c.args.checked.now) (design_of c.design.result.now) c.design.ensures.same c.design.ensures.ticked
    c.first_priority-first.result c.first_priority-first.ensures (flat_of c.in_ok-flat.flat) c.in_ok-flat.ensures
    e c.in_err-clients_are_calm.ensures)

pub returns : goal.returns
returns c =
    made-of (checked_design c.args.checked.now) (design_of c.design.result.now) c.design.ensures.same c.design.ensures.ticked
    c.first_priority-first.result c.first_priority-first.ensures (flat_of c.in_ok-flat.flat) c.in_ok-flat.ensures
    c.make_calm.result c.in_ok-clients_are_calm.ensures c.make_calm.ensures
