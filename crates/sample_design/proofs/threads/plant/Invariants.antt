use Rattle.std.proofs.Common.{◌≡◌, ◌∷◌, ◌++◌, map}
use Rattle.ods_tree.specs.Trees.{tree_of}
use Rattle.sample_design.specs.Samples.{board, from_to, group, step}
use Rattle.sample_design.proofs.threads.plant.Given as goal

-- the groups so far, and those that are left
abbrev pub invariant-groups : goal.invariant-groups
invariant-groups l = map tree_of l.children.items ++ map (group l.n) (from_to l.g l.end) ≡ board ∷ step ∷ map (group l.n) (from_to 1 l.end)
