use Rattle.std.proofs.Common.{◌≡◌, drop, map}
use Rattle.ods_index.specs.Judging.{head_of}
use Rattle.ods_index.specs.Walking.{standing_of}
use Rattle.ods_tree.specs.Trees.{design_of}
use Rattle.background.specs.Parts.{bad_needs}
use Rattle.background.proofs.misfits.first_needing.Given as goal

-- the first is among those that are left
abbrev pub invariant-objects : goal.invariant-objects
invariant-objects l =
    head_of (bad_needs l.callers (design_of l.index.design.now) (map standing_of (drop l.standing-index l.standing-items)))
    ≡ head_of (bad_needs l.callers (design_of l.index.design.now) (map standing_of l.index.objects.items))
