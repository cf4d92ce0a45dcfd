use Rattle.std.proofs.Common.{◌≡◌, drop}
use Rattle.ods_tree.specs.Trees.{design_of}
use Rattle.background.specs.Parts.{first_need}
use Rattle.background.proofs.misfits.first_need.Given as goal

-- the first is that of the operations that are left
abbrev pub invariant-needs : goal.invariant-needs
invariant-needs l =
    first_need l.callers (design_of l.index.design.now) (drop l.need-index l.needs) ≡ first_need l.callers (design_of l.index.design.now) l.needs
