-- The names that are written in a design, in order.
-- They are gathered first, and then looked at one by one.
use Rattle.std.specs.Prelude.{List, ◌∷◌, map, flat_map}
use Rattle.std.specs.Borrow.{Bor}
use Rattle.seq_tree.specs.Names.{Name}
use Rattle.ods_tree.specs.Designs.{Design}
use Rattle.ods_tree.specs.Walk.{objects}
use Rattle.design_rules.specs.Words.{object_names}

-- the names that are borrowed
abbrev pub names_of : List (Bor Name) → List Name
names_of names = map (λ n. n.now) names

-- the names of a design
abbrev pub all_names : Design → List Name
all_names x = x.name ∷ flat_map (λ s. object_names s.own) (objects x)
