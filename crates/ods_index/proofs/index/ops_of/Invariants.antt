use Rattle.std.proofs.Common.{◌≡◌, map, take}
use Rattle.ods_tree.specs.Trees.{provided_of}
use Rattle.ods_index.specs.Walking.{standing_of}
use Rattle.ods_index.proofs.index.ops_of.Given as goal

-- the tables so far are those of the objects so far
abbrev pub invariant-objects : goal.invariant-objects
invariant-objects l =
    map (λ t. map provided_of t.provides.now) l.ops.items ≡ map (λ s. (standing_of s).own.provides) (take l.standing-index l.objects)
