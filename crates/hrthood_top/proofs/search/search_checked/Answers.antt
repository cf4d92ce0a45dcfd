use Rattle.ods_tree.specs.Trees.{design_of, flat_of}
use Rattle.ods_rules.specs.Checks.{checked_design}
use Rattle.bridge.proofs.Shared.MadeDesigns.{sound-of, small-of}
use Rattle.hrthood_top.proofs.search.search_checked.Goals as goal

pub search_flat-requires-clause-sound : goal.search_flat-requires-clause-sound
search_flat-requires-clause-sound c =
    sound-of (checked_design c.args.checked.now) (design_of c.design.result.now) c.design.ensures.same c.design.ensures.ticked
    c.first_priority-first.result c.first_priority-first.ensures (flat_of c.in-Ok.flat) c.in-Ok.ensures

pub search_flat-requires-clause-first : goal.search_flat-requires-clause-first
search_flat-requires-clause-first c =
    small-of (checked_design c.args.checked.now) (design_of c.design.result.now) c.design.ensures.same c.design.ensures.ticked
    c.first_priority-first.result c.first_priority-first.ensures (flat_of c.in-Ok.flat) c.in-Ok.ensures
