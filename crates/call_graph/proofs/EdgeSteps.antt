-- A step of a loop that gathers edges to the places of items.
use Rattle.std.proofs.Common.{◌≡◌, List, [], ◌∷◌, ◌++◌, map, Option, Some, None, refl}
use Rattle.std.specs.Prelude.{filter_map}
use Rattle.std.specs.List.{cons_option}

pub placed_one : {B C D : Type 0} (pair : D → C) (place : B → Option D) (x : B) (ys : List B)
    → map pair (filter_map place (x ∷ ys)) ≡ map pair (filter_map place (x ∷ [])) ++ map pair (filter_map place ys)
placed_one {B} {C} {D} pair place x ys = by (place x) (filter_map place ys)
  where
    by : (o : Option D) (ds : List D) → map pair (cons_option o ds) ≡ map pair (cons_option o []) ++ map pair ds
    by None ds = refl
    by (Some d) ds = refl
