-- Which objects may include which, and how many.
-- The table follows the decomposition of HRT-HOOD (Burns and Wellings 1995); it is this project's own.
use Rattle.std.specs.Prelude.{ℕ, Bool, true, false, not, ◌&&◌, ◌||◌, ◌==◌, List, filter, length, filter_map, nat_lt}
use Rattle.std.specs.List.{list_any}
use Rattle.ods_tree.specs.Designs.{Object, Design}
use Rattle.ods_tree.specs.Walk.{Standing, objects, is_terminal}
use Rattle.ods_tree.specs.declared.design.Kind.{Kind}
use Rattle.ods_tree.specs.declared.design.Kind.TheVariants.{Passive, Active, Protected, Cyclic, Sporadic}
use Rattle.ods_tree.specs.Walk.{only_if}
use Rattle.design_rules.specs.Broken.{Broken, V03}

-- whether an object of a kind may include one of another
abbrev pub may_include : Kind → Kind → Bool
may_include Active child = true
may_include Passive Passive = true
may_include Protected Passive = true
may_include Protected Protected = true
may_include Sporadic Passive = true
may_include Sporadic Protected = true
may_include Sporadic Sporadic = true
may_include Cyclic Passive = true
may_include Cyclic Protected = true
may_include Cyclic Sporadic = true
may_include Cyclic Cyclic = true
may_include _ _ = false

-- a kind's place among the kinds
abbrev pub kind_place : Kind → ℕ
kind_place Passive = 0
kind_place Active = 1
kind_place Protected = 2
kind_place Cyclic = 3
kind_place Sporadic = 4

-- the number of children of a kind
abbrev pub child_count : Kind → List Object → ℕ
child_count kind children = length (filter (λ c. kind_place c.kind == kind_place kind) children)

-- whether an object includes as many of its own kind as it must
abbrev pub has_own_kind : Kind → List Object → Bool
has_own_kind Protected children = child_count Protected children == 1
has_own_kind Sporadic children = nat_lt 0 (child_count Sporadic children)
has_own_kind Cyclic children = nat_lt 0 (child_count Cyclic children)
has_own_kind _ children = true

-- whether an object with children breaks the table
abbrev pub breaks_includes : Standing → Bool
breaks_includes s =
    not (is_terminal s) && (list_any (λ c. not (may_include s.own.kind c.kind)) s.children || not (has_own_kind s.own.kind s.children))

-- the objects that break the table
abbrev pub bad_includes : Design → List Broken
bad_includes x = filter_map (λ s. only_if (breaks_includes s) (V03 s.own.name)) (objects x)
