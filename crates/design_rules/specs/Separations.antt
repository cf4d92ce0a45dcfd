-- Starters whose period or separation is below the separation of what they start.
-- A started thread inherits the spacing of its starter (Tindell, Burns and Wellings 1994).
use Rattle.std.specs.Prelude.{ℕ, Bool, ◌&&◌, List, flat_map, filter_map, nat_lt}
use Rattle.ods_tree.specs.Designs.{Object, Design}
use Rattle.ods_tree.specs.Attributes.{attribute_or}
use Rattle.ods_tree.specs.declared.design.Kind.{Kind}
use Rattle.ods_tree.specs.declared.design.Kind.TheVariants.{Sporadic}
use Rattle.ods_tree.specs.declared.design.AttrKey.TheVariants.{Period, Separation}
use Rattle.ods_tree.specs.Walk.{only_if}
use Rattle.design_rules.specs.Broken.{Broken, V16}
use Rattle.design_rules.specs.Rings.{thread_objects, can_start}

-- the period or separation of a thread
abbrev pub spacing_by : Kind → Object → ℕ
spacing_by Sporadic o = attribute_or 0 Separation o
spacing_by _ o = attribute_or 0 Period o

-- the period or separation of an object's thread
abbrev pub spacing : Object → ℕ
spacing o = spacing_by o.kind o

-- whether one thread starts another too often
abbrev pub is_too_often : Design → Object → Object → Bool
is_too_often x from to = can_start x from to && nat_lt (spacing from) (attribute_or 0 Separation to)

-- the starters that start too often, each with what it starts, both in flattened order
abbrev pub bad_separations : Design → List Broken
bad_separations x =
    flat_map (λ f. filter_map (λ t. only_if (is_too_often x f t) (V16 f.name (spacing f) t.name (attribute_or 0 Separation t))) (thread_objects x))
    (thread_objects x)
