-- Trees whose times are whole numbers of ticks, and what the times of any tree are set to.
-- A tick takes some microseconds, and no number is over 4,294,967,295.
use Rattle.std.specs.Prelude.{ℕ, ◌*◌, ◌/◌, Bool, true, not, ◌&&◌, cond, map, nat_le, Option, Some, None}
use Rattle.ods_tree.specs.Designs.{Object, Tree, Trees, Node, Empty, With}
use Rattle.ods_tree.specs.Ticks.{microseconds}
use Rattle.ods_tree.specs.declared.design.Attr.{Attr}
use Rattle.ods_tree.specs.declared.design.TickUnit.{TickUnit}
use Rattle.design_rules.specs.Versions.{breaks_ticks}
use Rattle.ods_forms.specs.Limits.{most_count}

-- whether the times of a tree, and of trees, are whole numbers of ticks
abbrev mutual
  pub is_whole : ℕ → Tree → Bool
  is_whole tick (Node own children) = not (breaks_ticks tick own) && are_whole tick children

  pub are_whole : ℕ → Trees → Bool
  are_whole tick Empty = true
  are_whole tick (With first rest) = is_whole tick first && are_whole tick rest

-- a number of ticks, or the greatest
abbrev pub at_most_most : ℕ → ℕ
at_most_most n = cond (nat_le n most_count) n most_count

-- a number, of ticks or of a unit, in ticks, or the greatest
abbrev pub count_set : ℕ → ℕ → Option TickUnit → ℕ
count_set tick n None = n
count_set tick n (Some unit) = at_most_most ((n * microseconds unit) / tick)

-- an attribute, an object, a tree and trees with these
abbrev pub attribute_set : ℕ → Attr → Attr
attribute_set tick a = record { key = a.key; value = count_set tick a.value a.unit; unit = None }

abbrev pub object_set : ℕ → Object → Object
object_set tick o = record o { attrs = map (attribute_set tick) o.attrs }

abbrev mutual
  pub tree_set : ℕ → Tree → Tree
  tree_set tick (Node own children) = Node (object_set tick own) (trees_set tick children)

  pub trees_set : ℕ → Trees → Trees
  trees_set tick Empty = Empty
  trees_set tick (With first rest) = With (tree_set tick first) (trees_set tick rest)
