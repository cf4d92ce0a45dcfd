-- The children of an object, with the places of their names and their operations.
-- Of two children with one name the table has the first.
use Rattle.std.specs.Prelude.{◌≡◌, map}
use Rattle.seq_tree.specs.Names.{Name}
use Rattle.name_sets.specs.Places.{place_in}
use Rattle.ods_tree.specs.Trees.{provided_of}
use Rattle.name_sets.specs.FirstPlaces.{place_from}
use Rattle.ods_index.specs.Walking.{object_of}
use Rattle.ods_forms.specs.declared.fittings.Family.{Family}

-- what a family of its children is
pub record IsFamily (f : Family) : Type 0 where
  pub named : (n : Name) → place_in f.places n ≡ place_from 0 n (map (λ c. (object_of c).name) f.children.now)
  pub opened : map (λ t. map provided_of t.provides.now) f.ops.items ≡ map (λ c. (object_of c).provides) f.children.now
