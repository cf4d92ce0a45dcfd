use Rattle.ods_tree.specs.Trees.{design_of, flat_of}
use Rattle.ods_rules.specs.Checks.{checked_design}
use Rattle.bridge.proofs.Shared.MadeDesigns.{sound-of, some-of}
use Rattle.hrthood_top.proofs.ArrangeLaws.{rooms-of}
use Rattle.hrthood_top.proofs.arrange.arrange_checked.Goals as goal

pub arrange_flat-requires-clause-sound : goal.arrange_flat-requires-clause-sound
arrange_flat-requires-clause-sound c =
    sound-of (checked_design c.args.checked.now) (design_of c.design.result.now) c.design.ensures.same c.design.ensures.ticked
    c.first_priority-first.result c.first_priority-first.ensures (flat_of c.in-Ok.flat) c.in-Ok.ensures

pub arrange_flat-requires-clause-first : goal.arrange_flat-requires-clause-first
arrange_flat-requires-clause-first c =
    some-of (checked_design c.args.checked.now) (design_of c.design.result.now) c.design.ensures.same c.design.ensures.ticked
    c.first_priority-first.result c.first_priority-first.ensures (flat_of c.in-Ok.flat) c.in-Ok.ensures

pub arrange_flat-requires-clause-room : goal.arrange_flat-requires-clause-room
arrange_flat-requires-clause-room c =
    rooms-of (checked_design c.args.checked.now) (design_of c.design.result.now) c.design.ensures.same c.design.ensures.ticked
    c.first_priority-first.result c.first_priority-first.ensures (flat_of c.in-Ok.flat) c.in-Ok.ensures
