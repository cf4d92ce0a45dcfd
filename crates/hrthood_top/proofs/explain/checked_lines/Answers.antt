use Rattle.ods_tree.specs.Trees.{design_of, flat_of}
use Rattle.ods_rules.specs.Checks.{checked_design}
use Rattle.bridge.proofs.Shared.MadeDesigns.{sound-of, small-of}
use Rattle.hrthood_top.proofs.explain.checked_lines.Goals as goal

pub flat_lines-requires-clause-sound : goal.flat_lines-requires-clause-sound
flat_lines-requires-clause-sound c =
    sound-of (checked_design c.args.checked.now) (design_of c.design.result.now) c.design.ensures.same c.design.ensures.ticked
    c.first_priority-first.result c.first_priority-first.ensures (flat_of c.in_ok-flat.flat) c.in_ok-flat.ensures

pub flat_lines-requires-clause-first : goal.flat_lines-requires-clause-first
flat_lines-requires-clause-first c =
    small-of (checked_design c.args.checked.now) (design_of c.design.result.now) c.design.ensures.same c.design.ensures.ticked
    c.first_priority-first.result c.first_priority-first.ensures (flat_of c.in_ok-flat.flat) c.in_ok-flat.ensures
