use Rattle.std.proofs.Common.{◌≡◌, ◌||◌, drop, map}
use Rattle.std.specs.List.{list_any}
use Rattle.seq_tree.specs.Names.{Name, same_name}
use Rattle.name_sets.specs.Sets.{has}
use Rattle.ods_tree.specs.Trees.{body_of}
use Rattle.ods_names.proofs.mentions.body_names.Given as goal

-- the names so far, and those of the bodies that are left
abbrev pub invariant-bodies : goal.invariant-bodies
invariant-bodies l = (n : Name) → (has l.names n || list_any (λ b. same_name b.name n) (map body_of (drop l.body-index l.bodies)))
    ≡ list_any (λ b. same_name b.name n) (map body_of l.bodies)
