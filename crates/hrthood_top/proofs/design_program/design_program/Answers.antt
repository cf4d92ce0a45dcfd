use Rattle.ods_tree.specs.Trees.{design_of, flat_of}
use Rattle.ods_rules.specs.Checks.{checked_design}
use Rattle.bridge.proofs.Shared.MadeDesigns.{sound-of, some-of, room-of}
use Rattle.hrthood_top.proofs.design_program.design_program.Goals as goal

pub flat_program-requires-clause-sound : goal.flat_program-requires-clause-sound
flat_program-requires-clause-sound c =
    sound-of (checked_design c.args.checked.now) (design_of c.design.result.now) c.design.ensures.same c.design.ensures.ticked
    c.first_priority-first.result c.first_priority-first.ensures (flat_of c.in_ok-flat.flat) c.in_ok-flat.ensures

pub flat_program-requires-clause-first : goal.flat_program-requires-clause-first
flat_program-requires-clause-first c =
    some-of (checked_design c.args.checked.now) (design_of c.design.result.now) c.design.ensures.same c.design.ensures.ticked
    c.first_priority-first.result c.first_priority-first.ensures (flat_of c.in_ok-flat.flat) c.in_ok-flat.ensures

pub flat_program-requires-clause-room : goal.flat_program-requires-clause-room
flat_program-requires-clause-room c =
    room-of (checked_design c.args.checked.now) (design_of c.design.result.now) c.design.ensures.same c.design.ensures.ticked
    c.first_priority-first.result c.first_priority-first.ensures (flat_of c.in_ok-flat.flat) c.in_ok-flat.ensures
