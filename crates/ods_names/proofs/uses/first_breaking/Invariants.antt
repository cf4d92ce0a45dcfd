use Rattle.std.proofs.Common.{◌≡◌, drop, find}
use Rattle.ods_tree.specs.Trees.{design_of}
use Rattle.ods_names.specs.Needs.{breaks}
use Rattle.ods_index.specs.Walking.{standing_of}
use Rattle.ods_names.proofs.uses.first_breaking.Given as goal

-- the first is that of the operations that are left
abbrev pub invariant-needs : goal.invariant-needs
invariant-needs l =
    find (breaks l.rule (design_of l.index.design.now) (standing_of l.standing)) (drop l.need-index l.need-items)
    ≡ find (breaks l.rule (design_of l.index.design.now) (standing_of l.standing)) (standing_of l.standing).own.needs
