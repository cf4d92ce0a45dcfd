-- An index of a design: its objects in flattened order, the places of their names, their operations, its links, and what bodies call.
-- Of two objects with one name the table has the first.
use Rattle.std.specs.Prelude.{◌≡◌, map}
use Rattle.seq_tree.specs.Names.{Name}
use Rattle.name_sets.specs.Places.{place_in}
use Rattle.ods_tree.specs.Trees.{design_of, provided_of}
use Rattle.ods_tree.specs.Walk.{objects}
use Rattle.name_sets.specs.FirstPlaces.{place_from}
use Rattle.ods_index.specs.Calling.{calls_of, design_calls}
use Rattle.ods_index.specs.Tables.{object_name}
use Rattle.ods_index.specs.Walking.{standing_of}
use Rattle.ods_index.specs.declared.index.Index.{Index}

-- what an index of its design is
pub record IsIndex (i : Index) : Type 0 where
  pub walked : map standing_of i.objects.items ≡ objects (design_of i.design.now)
  pub placed : (n : Name) → place_in i.places n ≡ place_from 0 n (map object_name i.objects.items)
  pub opened : map (λ t. map provided_of t.provides.now) i.ops.items ≡ map (λ s. (standing_of s).own.provides) i.objects.items
  pub linked : i.links.design.now ≡ i.design.now
  pub called : map calls_of i.calls.items ≡ design_calls (design_of i.design.now)
