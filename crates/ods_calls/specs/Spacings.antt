-- What is told of a thread that starts another too often, by the names of the objects that it reaches.
-- It is the rule on separations, one starter at a time.
use Rattle.std.specs.Prelude.{ℕ, Bool, ◌&&◌, List, [], ◌∷◌, Option, max, nat_lt, if◌then◌else◌}
use Rattle.seq_tree.specs.Names.{Name}
use Rattle.ods_tree.specs.Attributes.{attribute_or}
use Rattle.ods_tree.specs.Designs.{Object}
use Rattle.ods_tree.specs.Walk.{only_if}
use Rattle.ods_tree.specs.declared.design.AttrKey.TheVariants.{Separation}
use Rattle.design_rules.specs.Broken.{Broken, V16}
use Rattle.design_rules.specs.Lookups.{is_sporadic}
use Rattle.design_rules.specs.Separations.{spacing}

-- what is told of a thread and of another, where it reaches the objects of which this is true
abbrev pub spaced : (Name → Bool) → Object → Object → Option Broken
spaced reach from to =
    only_if ((is_sporadic to.kind && reach to.name) && nat_lt (spacing from) (attribute_or 0 Separation to))
    (V16 from.name (spacing from) to.name (attribute_or 0 Separation to))

-- the separation of a sporadic thread, and 0 of another
abbrev pub separation_in : Object → ℕ
separation_in o = if is_sporadic o.kind then attribute_or 0 Separation o else 0

-- the greatest of these threads
abbrev pub greatest_separation : List Object → ℕ
greatest_separation [] = 0
greatest_separation (t ∷ ts) = max (separation_in t) (greatest_separation ts)
